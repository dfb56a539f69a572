-- What a run of `check` says of its inputs and leaves written, where the readers and the writer state their bytes.
use Rattle.std.specs.{Prelude.{◌≡◌, ◌↔◌, ℕ, List, ◌++◌, Option, Some, IfSome, IsTrue, Bool, codes, map}, Io.KnownBytes.{Appends, Keeps}}
use Rattle.nbd_tool.specs.{Common.{Entry, Profile, Verdict, IsExplainedOf, Start, Pair, flat, Chunk, IsCaptureText, IsFirstBadCaptureLine, IsFirstBadContentsLine, IsOrderText, IsFirstBadOrderLine, AppendsPrefix, RunFault, CaptureLine, CaptureRead, ContentsLine, ContentsRead, OrderLine, OrderRead, Write, Memory, StartFrom, IsStartCause, IsChecked}, Verdicts.{IsYes, line}}

-- known bytes are a capture text
abbrev pub IsCapture : Option (List ℕ) → Type 0
IsCapture known = IfSome known (λ text. (chunks : List Chunk) × IsCaptureText text chunks)

-- known bytes are an order text
abbrev pub IsOrder : Option (List ℕ) → Type 0
IsOrder known = IfSome known (λ text. (entries : List Entry) × IsOrderText text entries)

-- what a fault that came of reading the capture says of its known bytes
abbrev pub IsCaptureCause : Option (List ℕ) → RunFault → Type 0
IsCaptureCause capture (CaptureLine n) = IfSome capture (λ text. IsFirstBadCaptureLine text n)
IsCaptureCause capture CaptureRead = Unit {0}
IsCaptureCause capture Memory = Unit {0}
IsCaptureCause capture _ = ⊥

-- what a fault that came of reading the order says of its known bytes
abbrev pub IsOrderCause : Option (List ℕ) → RunFault → Type 0
IsOrderCause order (OrderLine n) = IfSome order (λ text. IsFirstBadOrderLine text n)
IsOrderCause order OrderRead = Unit {0}
IsOrderCause order Memory = Unit {0}
IsOrderCause order _ = ⊥

-- what a fault that came of reading a contents text says of its known bytes
abbrev pub IsContentsCause : Option (List ℕ) → RunFault → Type 0
IsContentsCause contents (ContentsLine n) = IfSome contents (λ text. IsFirstBadContentsLine text n)
IsContentsCause contents ContentsRead = Unit {0}
IsContentsCause contents Memory = Unit {0}
IsContentsCause contents _ = ⊥

-- the chunks' bytes with their senders
abbrev pub flat_of : List Chunk → List Pair
flat_of chunks = flat (map (λ (c : Chunk). (c.side, c.bytes)) chunks)

-- the verdict of the profile on known texts and a known start: that on the capture's chunks and the order's entries
abbrev pub IsVerdictOn : Profile → (capture order : Option (List ℕ)) → Option Start → Verdict → Type 0
IsVerdictOn profile (Some text) (Some order_text) (Some initial) verdict =
    (chunks : List Chunk) × (entries : List Entry) × IsCaptureText text chunks × IsOrderText order_text entries
    × IsChecked profile (flat_of chunks) entries initial verdict
IsVerdictOn profile capture order initial verdict = Unit {0}

-- the whole line of one verdict of the profile was written, and true was answered exactly where it is a yes
pub record Tells (profile : Profile) (capture order : Option (List ℕ)) (initial : Option Start) (yes : Bool)
    (old new : Option (List ℕ)) : Type 0 where
  pub verdict : Verdict
  pub is_verdict : IsVerdictOn profile capture order initial verdict
  pub answer : IsTrue yes ↔ IsYes verdict
  pub appended : Appends old new (line verdict)

-- the texts are of chunks and of entries, and true was answered exactly where in the profile these entries explain the
-- chunks from the start that was read
abbrev pub AnswersExactly : Profile → (capture order : Option (List ℕ)) → Option Start → Bool → Type 0
AnswersExactly profile (Some text) (Some order_text) (Some initial) says =
    (chunks : List Chunk) × (entries : List Entry) × IsCaptureText text chunks × IsOrderText order_text entries
    × (IsTrue says ↔ IsExplainedOf profile (flat_of chunks) entries initial)
AnswersExactly profile capture order initial says = Unit {0}

-- what a fault says of the known bytes of the capture and of the order, and of the start: the capture is judged first,
-- then the order, then the start
abbrev pub IsCause : {I : Type 0} → (I → Option (List ℕ)) → (capture order : Option (List ℕ)) → StartFrom I → RunFault
    → Type 0
IsCause remaining capture order start (CaptureLine n) = IfSome capture (λ text. IsFirstBadCaptureLine text n)
IsCause remaining capture order start CaptureRead = Unit {0}
IsCause remaining capture order start (OrderLine n) =
    IsCapture capture × IfSome order (λ text. IsFirstBadOrderLine text n)
IsCause remaining capture order start OrderRead = IsCapture capture
IsCause remaining capture order start Write = IsCapture capture × IsOrder order
IsCause remaining capture order start Memory = Unit {0}
IsCause remaining capture order start fault = IsCapture capture × IsOrder order × IsStartCause remaining start fault

-- a prefix of the line of a verdict of the profile was written
pub record TellsPrefix (profile : Profile) (capture order : Option (List ℕ)) (initial : Option Start)
    (old new : Option (List ℕ)) : Type 0 where
  pub verdict : Verdict
  pub is_verdict : IsVerdictOn profile capture order initial verdict
  pub appended : AppendsPrefix old new (line verdict)

-- what stands written after a fault: a prefix of the line of a verdict of the profile where the writer failed, else
-- nothing
abbrev pub LeavesWritten : Profile → (capture order : Option (List ℕ)) → Option Start → (old new : Option (List ℕ))
    → RunFault → Type 0
LeavesWritten profile capture order initial old new Write = TellsPrefix profile capture order initial old new
LeavesWritten profile capture order initial old new _ = Keeps old new

-- a text begins with `yes`
abbrev pub BeginsYes : List ℕ → Type 0
BeginsYes text = (rest : List ℕ) × (text ≡ codes "yes" ++ rest)

-- where what was written begins with `yes`, whether all of its line was written or not, the capture text has chunks and
-- the order text has entries, and in the profile these are explained from the start that was read
abbrev pub SaysYes : Profile → (capture order : Option (List ℕ)) → Option Start → (old new : Option (List ℕ)) → Type 0
SaysYes profile (Some text) (Some order_text) (Some initial) (Some old) (Some new) =
    (written : List ℕ) → new ≡ old ++ written → BeginsYes written →
    (chunks : List Chunk) × (entries : List Entry) × IsCaptureText text chunks × IsOrderText order_text entries
    × IsExplainedOf profile (flat_of chunks) entries initial
SaysYes profile capture order initial old new = Unit {0}

-- in a profile a capture text, an order text and a start have one verdict at most, and so one line
abbrev pub OneLine : Type 0
OneLine = (profile : Profile) (text order_text : List ℕ) (initial : Start) (v w : Verdict) →
    IsVerdictOn profile (Some text) (Some order_text) (Some initial) v
    → IsVerdictOn profile (Some text) (Some order_text) (Some initial) w → v ≡ w
