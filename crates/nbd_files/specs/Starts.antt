-- What is known of the start of a run.
use Rattle.std.specs.Prelude.{◌≡◌, ◌≤◌, ◌^◌, ℕ, List, Option, Some, None, IfSome, length}
use Rattle.nbd_wire.specs.protocol.Explains as definitions
use Rattle.nbd_wire.specs.Prelude.{Start}
use Rattle.nbd_export.specs.Held.{Held}
use Rattle.nbd_capture.specs.Contents.{IsContentsText, IsFirstBadContentsLine}
use Rattle.nbd_files.specs.declared.{fault.RunFault.{RunFault, TheVariants.{ImageRead, ContentsLine, ContentsRead, Memory}}, start.StartFrom.{StartFrom, TheVariants.{Unknown, Zeroes, Image, Contents}}}

-- an image of known bytes
abbrev pub image_of : Option (List ℕ) → Option Start
image_of (Some bytes) = Some (definitions.image bytes)
image_of None = None

-- what a contents text says, where its bytes are known
abbrev pub IsStartText : Option (List ℕ) → Option Start → Type 0
IsStartText (Some text) (Some initial) = (bytes : Held) × IsContentsText text bytes × (initial ≡ definitions.Held bytes)
IsStartText (Some text) None = ⊥
IsStartText None initial = initial ≡ None

-- the start, where the bytes of its reader are known
abbrev pub IsInitial : {I : Type 0} → (I → Option (List ℕ)) → StartFrom I → Option Start → Type 0
IsInitial remaining Unknown initial = initial ≡ Some definitions.Unknown
IsInitial remaining Zeroes initial = initial ≡ Some definitions.Zeroes
IsInitial remaining (Image reader) initial = initial ≡ image_of (remaining reader)
IsInitial remaining (Contents reader) initial = IsStartText (remaining reader) initial

-- it is so of the start
abbrev pub OfStart : {I : Type 0} → (I → Option (List ℕ)) → StartFrom I → (Option Start → Type 0) → Type 0
OfStart remaining start P = (initial : Option Start) → IsInitial remaining start initial → P initial

-- what a fault that came of reading the start says of it
abbrev pub IsStartCause : {I : Type 0} → (I → Option (List ℕ)) → StartFrom I → RunFault → Type 0
IsStartCause remaining (Image reader) ImageRead = Unit {0}
IsStartCause remaining (Contents reader) ContentsRead = Unit {0}
IsStartCause remaining (Contents reader) (ContentsLine n) =
    IfSome (remaining reader) (λ text. IsFirstBadContentsLine text n)
IsStartCause remaining start Memory = Unit {0}
IsStartCause remaining start fault = ⊥

-- an input of known bytes has at most 2^40 of them
abbrev pub IsWithinLimit : Option (List ℕ) → Type 0
IsWithinLimit known = IfSome known (λ bytes. length bytes ≤ 2 ^ 40)

-- known bytes are a contents text
abbrev pub IsContents : Option (List ℕ) → Type 0
IsContents known = IfSome known (λ text. (bytes : Held) × IsContentsText text bytes)

-- so has an image, and a contents text, which is one by its form
abbrev pub IsStartWellFormed : {I : Type 0} → (I → Option (List ℕ)) → StartFrom I → Type 0
IsStartWellFormed remaining (Image reader) = IsWithinLimit (remaining reader)
IsStartWellFormed remaining (Contents reader) = IsWithinLimit (remaining reader) × IsContents (remaining reader)
IsStartWellFormed remaining start = Unit {0}
