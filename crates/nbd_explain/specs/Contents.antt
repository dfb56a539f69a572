-- What a run of `contents` writes, where the readers and the writer state their bytes.
use Rattle.std.specs.{Prelude.{◌≡◌, ℕ, List, Bool, true, false, Option, Some, None, IfSome, codes}, Io.KnownBytes.Appends}
use Rattle.nbd_explain.specs.{Common.{Entry, WireFault, Message, Profile, Verdict, Pair, FitsImage, IsExplainedOf, Start, start_byte, Item, pairs, Exporting, report, IsRunOf, IsOfNoRunOf, Chunk, IsCaptureText, printed, IsOrderText, Held, held_from, IsWireFaultOf, IsChecked, SaysYes, IsOtherSize, left, sure, RunFault, AgainstRead, StartFrom, IsCapture, flat_of, line}, Compared.WritesCompared}
use Rattle.nbd_explain.specs.Explained.{IsExplainCause}
use Rattle.nbd_wire.specs.declared.verdict.Verdict.TheVariants.{Image, Wire}

-- what an order leaves that explains a capture from a start, in the profile: its bytes, or nothing where transmission
-- was not reached
pub data IsLeftOf (profile : Profile) (capture : List Pair) (order : List Entry) (initial : Start)
    : Option Held → Type 0 where
  held : (items : List Item) (export : Exporting) → IsRunOf profile items → pairs items ≡ capture
      → IsExplainedOf profile capture order initial → (report items).export ≡ Some export
      → IsLeftOf profile capture order initial
      (Some (held_from (left (report items) order (start_byte initial)) 0 export.size))
  nothing : (items : List Item) → IsRunOf profile items → pairs items ≡ capture
      → IsExplainedOf profile capture order initial → (report items).export ≡ None
      → IsLeftOf profile capture order initial None

-- what every order leaves that explains a capture from a start, in the profile, as far as arrivals, replies and later
-- READs show it, where the start fits: its bytes, or nothing where transmission was not reached
pub data IsLeftByEachOf (profile : Profile) (capture : List Pair) (initial : Start) : Option Held → Type 0 where
  held : (items : List Item) (export : Exporting) → IsRunOf profile items → pairs items ≡ capture
      → FitsImage (report items).export initial → (report items).export ≡ Some export
      → IsLeftByEachOf profile capture initial
      (Some (held_from (sure (report items) (start_byte initial)) 0 export.size))
  nothing : (items : List Item) → IsRunOf profile items → pairs items ≡ capture → (report items).export ≡ None
      → IsLeftByEachOf profile capture initial None

-- why that is not told: no run of the profile has these bytes, or the start has another size than the export
pub data IsRefusedOf (profile : Profile) (capture : List Pair) (initial : Start) : Verdict → Type 0 where
  no_run : (messages : List Message) (at : ℕ) (fault : WireFault) → IsWireFaultOf profile capture messages at fault
      → IsOfNoRunOf profile capture → IsRefusedOf profile capture initial (Wire at fault)
  other_size : (items : List Item) (image size : ℕ) → IsRunOf profile items → pairs items ≡ capture
      → IsOtherSize (report items).export initial image size
      → IsRefusedOf profile capture initial (Image image size)

-- what is left, where an order is given, and where none is
abbrev pub IsLeftGiven : Profile → List Pair → Option (List Entry) → Start → Option Held → Type 0
IsLeftGiven profile capture (Some order) initial bytes = IsLeftOf profile capture order initial bytes
IsLeftGiven profile capture None initial bytes = IsLeftByEachOf profile capture initial bytes

-- why it is not told: with an order the verdict, which is no yes
abbrev pub IsRefusedGiven : Profile → List Pair → Option (List Entry) → Start → Verdict → Type 0
IsRefusedGiven profile capture (Some order) initial v = IsChecked profile capture order initial v × (SaysYes v → ⊥)
IsRefusedGiven profile capture None initial v = IsRefusedOf profile capture initial v

-- what was written of bytes that are left, and the answer: their text; or, where an image's bytes are known, how they
-- compare with it
abbrev pub WritesBytes : {A : Type 0} → (A → Option (List ℕ)) → Option A → Held → (old new : Option (List ℕ)) → Bool
    → Type 0
WritesBytes of_image None bytes old new answer = Appends old new (printed bytes) × (answer ≡ true)
WritesBytes of_image (Some image) bytes old new answer =
    IfSome (of_image image) (λ given. WritesCompared bytes given old new answer)

-- what was written of what is left, and the answer
pub data WritesLeft {A : Type 0} (profile : Profile) (capture : List Pair) (order : Option (List Entry))
    (initial : Start) (of_image : A → Option (List ℕ)) (against : Option A) (old new : Option (List ℕ))
    : Bool → Type 0 where
  -- its bytes
  contents : (bytes : Held) (answer : Bool) → IsLeftGiven profile capture order initial (Some bytes)
      → WritesBytes of_image against bytes old new answer
      → WritesLeft profile capture order initial of_image against old new answer
  -- that there is none
  no_export : IsLeftGiven profile capture order initial None → Appends old new (codes "no export\n")
      → WritesLeft profile capture order initial of_image against old new false
  -- the line of why it is not told
  refused : (v : Verdict) → IsRefusedGiven profile capture order initial v → Appends old new (line v)
      → WritesLeft profile capture order initial of_image against old new false

-- an order is given and has these entries, as far as its bytes are known; or none is given
abbrev pub HasEntries : {O : Type 0} → (O → Option (List ℕ)) → Option O → Option (List Entry) → Type 0
HasEntries of_order (Some order) (Some entries) = IfSome (of_order order) (λ text. IsOrderText text entries)
HasEntries of_order None None = Unit {0}
HasEntries of_order order entries = ⊥

-- what was written of some capture, entries and start, which are those of the texts and of the start as far as they are
-- known
pub record WritesContents {O A : Type 0} (profile : Profile) (of_order : O → Option (List ℕ))
    (of_image : A → Option (List ℕ)) (known : Option (List ℕ)) (order : Option O) (start : Option Start)
    (against : Option A) (old new : Option (List ℕ)) (answer : Bool) : Type 0 where
  pub chunks : List Chunk
  pub entries : Option (List Entry)
  pub initial : Start
  pub is_text : IfSome known (λ text. IsCaptureText text chunks)
  pub has_entries : HasEntries of_order order entries
  pub is_start : IfSome start (λ given. initial ≡ given)
  pub writes : WritesLeft profile (flat_of chunks) entries initial of_image against old new answer

-- what a fault says of the inputs: as of `explain`, and of an image, which is read behind them
abbrev pub IsContentsCause : {O I A : Type 0} → (O → Option (List ℕ)) → (I → Option (List ℕ)) → Option (List ℕ)
    → Option O → StartFrom I → Option A → RunFault → Type 0
IsContentsCause remaining of_start capture order start (Some image) AgainstRead = IsCapture capture
IsContentsCause remaining of_start capture order start against fault =
    IsExplainCause remaining of_start capture order start fault
