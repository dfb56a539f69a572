-- What is left of a session, step by step, on the way to what is written of it.
use Rattle.std.specs.{Prelude.{◌≡◌, ◌↔◌, List, ℕ, Bool, false, IsTrue, Option, Some, None, IfSome, Result, Ok, Err, codes}, Io.KnownBytes.Appends, declared.{alloc.Global.Global, vec.Vec.Vec}}
use Rattle.nbd_explain.specs.{Common.{Entry, Profile, Pair, Start, Report, Chunk, IsCaptureText, held, SessionFault, IsLeft, IsLeftByEach, Left, Contents, NoExport, Refused, RunFault, IsOrderCause, flat_of, IsYes, line}, Contents.{HasEntries, IsLeftGiven, IsRefusedGiven, WritesBytes}}
use Rattle.nbd_wire.specs.declared.verdict.Verdict.TheVariants.{Wire}
use Rattle.nbd_session.specs.declared.fault.SessionFault.TheVariants as session

-- the entries that were read, if an order is given
abbrev pub entries_of : Option (Vec Entry Global) → Option (List Entry)
entries_of (Some order) = Some order.items
entries_of None = None

-- what is left of a session that was accepted
abbrev pub IsLeftBy : Profile → Report → Option (List Entry) → Start → Left → Type 0
IsLeftBy profile r (Some order) initial left = IsLeft profile r order initial left
IsLeftBy profile r None initial left = IsLeftByEach r initial left

-- the same of a finished session; of a refused one its fault
abbrev pub IsLeftIn : Profile → Result Report SessionFault → Option (List Entry) → Start → Left → Type 0
IsLeftIn profile (Ok r) order initial left = IsLeftBy profile r order initial left
IsLeftIn profile (Err (session.Wire at fault)) order initial (Refused v) = v ≡ Wire at fault
IsLeftIn profile (Err fault) order initial left = ⊥

-- the same, from some entries and a start, which are those of the readers as far as their bytes are known
pub record IsLeftFrom {O : Type 0} (of_order : O → Option (List ℕ)) (profile : Profile)
    (finished : Result Report SessionFault) (order : Option O) (start : Option Start) (left : Left) : Type 0 where
  pub entries : Option (List Entry)
  pub initial : Start
  pub has_entries : HasEntries of_order order entries
  pub is_start : IfSome start (λ given. initial ≡ given)
  pub is_left : IsLeftIn profile finished entries initial left

-- what is left of a capture, as it is answered
abbrev pub IsLeftBehind : Profile → List Pair → Option (List Entry) → Start → Left → Type 0
IsLeftBehind profile capture order initial (Contents contents) =
    IsLeftGiven profile capture order initial (Some (held contents))
IsLeftBehind profile capture order initial NoExport = IsLeftGiven profile capture order initial None
IsLeftBehind profile capture order initial (Refused v) = IsRefusedGiven profile capture order initial v

-- the same of some capture, which is that of the text as far as it is known
pub record IsLeftOver {O : Type 0} (profile : Profile) (of_order : O → Option (List ℕ)) (known : Option (List ℕ))
    (order : Option O) (start : Option Start) (left : Left) : Type 0 where
  pub chunks : List Chunk
  pub entries : Option (List Entry)
  pub initial : Start
  pub is_text : IfSome known (λ text. IsCaptureText text chunks)
  pub has_entries : HasEntries of_order order entries
  pub is_start : IfSome start (λ given. initial ≡ given)
  pub is_left : IsLeftBehind profile (flat_of chunks) entries initial left

-- what is left was written, or how it compares with an image, and the answer
abbrev pub TellsLeft : {A : Type 0} → (A → Option (List ℕ)) → Option A → Left → (old new : Option (List ℕ)) → Bool
    → Type 0
TellsLeft of_image against (Contents contents) old new answer =
    WritesBytes of_image against (held contents) old new answer
TellsLeft of_image against NoExport old new answer = Appends old new (codes "no export\n") × (answer ≡ false)
TellsLeft of_image against (Refused v) old new answer = Appends old new (line v) × (IsTrue answer ↔ IsYes v)

-- what a fault says of an order that is given
abbrev pub IsGivenOrderCause : {O : Type 0} → (O → Option (List ℕ)) → Option O → RunFault → Type 0
IsGivenOrderCause remaining (Some order) fault = IsOrderCause (remaining order) fault
IsGivenOrderCause remaining None fault = ⊥
