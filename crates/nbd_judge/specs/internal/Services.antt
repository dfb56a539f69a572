-- What the entries of an order serve of one request, and a table of that.
use Rattle.std.specs.{Prelude.{ℕ, suc, List, [], ◌∷◌, ◌++◌, ◌≡◌, ◌+◌, ◌-◌, ◌<◌, ◌≤◌, ◌==◌, ◌&&◌, Bool, true, false, min, nat_lt, if◌then◌else◌, Option, Some, None, Result, Ok, Err, MatchResult, length, slice_get, take, ◌||◌, not, IsTrue}, declared.vec.Vec.Vec}
use Rattle.nbd_wire.specs.declared.{entry.{Entry.Entry, Part.Part}, payloads.Piece.{Piece, TheVariants.Hole}, profile.Profile.Profile, verdict.OrderFault.{OrderFault, TheVariants.{NoSuchRequest, Twice, Missing, BadPart, NotCovered}}}
use Rattle.nbd_wire.specs.{Prelude.{IsServedAt, MayServe, Names, NamesWhole, Exporting, has_range, IsBad, IsBadPart, SharesNone, is_in, piece_offset, piece_size, Asked, Report, asked_at, due_in, first_shown, inside_in, Shown, total, IsDue, IsMissing, IsNotCovered, IsUnserved, NamesAgain, NamesNone}, protocol.Entries.{IsMisplaced, IsAgain}}
use Rattle.nbd_wire.specs.declared.commands.TheConstants as commands
use Rattle.nbd_state.specs.{declared.span.Span.Span, Indexes.IsIndex, Sizes.sizes_of}
use Rattle.nbd_judge.specs.{declared.service.Service.{Service, TheVariants.{Unnamed, Whole, InParts}}, Beginnings.size_of}

-- an entry's part, as a hole
abbrev pub part_pieces : Option Part → List Piece
part_pieces None = []
part_pieces (Some p) = Hole p.offset p.length ∷ []

-- the parts of request k that the entries name, as holes
abbrev pub parts_of : List Entry → ℕ → List Piece
parts_of [] k = []
parts_of (e ∷ entries) k = (if e.request == k then part_pieces e.part else []) ++ parts_of entries k

-- pieces in a span, none of them empty, that share no offset
abbrev pub LieApart : Span → List Piece → Type 0
LieApart span [] = Unit {0}
LieApart span (p ∷ ps) =
    (span.offset ≤ piece_offset p) × (piece_offset p + piece_size p ≤ span.offset + span.size) × (0 < piece_size p)
    × SharesNone p ps
    × LieApart span ps

-- the parts of request k that the entries name, in an index, and how many bytes of the span they leave; no entry serves
-- the request atomically
pub record AreParts (sizes : ℕ → Option ℕ) (left : ℕ) (span : Span) (entries : List Entry) (k : ℕ) : Type 0 where
  pub in_parts : NamesWhole entries k → ⊥
  pub index : IsIndex sizes (parts_of entries k)
  pub laid : LieApart span (parts_of entries k)
  pub count : left ≡ span.size - total (parts_of entries k)

-- what the entries serve of request k, inside which this span lies
abbrev pub IsServiceOf : Service → Span → List Entry → ℕ → Type 0
IsServiceOf Unnamed span entries k = Names entries k → ⊥
IsServiceOf Whole span entries k = NamesWhole entries k
IsServiceOf (InParts parts) span entries k =
    Names entries k × AreParts (sizes_of parts.value.spans) parts.value.left span entries k

-- the offsets in the span are those inside the request
abbrev pub IsSpanOf : Span → (ℕ → Bool) → Type 0
IsSpanOf span within = (x : ℕ) → within x ≡ is_in span.offset span.size x

-- the fault of an entry after those before it: Twice, or else BadPart
abbrev pub IsFaultAfter : (within : ℕ → Bool) → List Entry → Entry → OrderFault → Type 0
IsFaultAfter within before e Twice = IsAgain before e.request e.part
IsFaultAfter within before e BadPart =
    IsMisplaced within before e.request e.part × (IsAgain before e.request e.part → ⊥)
IsFaultAfter within before e _ = ⊥

-- the service of a request after one more entry, which may be served, or the entry's fault
abbrev pub IsNext : Span → (within : ℕ → Bool) → List Entry → Entry → Result Service OrderFault → Type 0
IsNext span within before e after =
    MatchResult after (λ s. MayServe within before e × IsServiceOf s span (before ++ e ∷ []) e.request)
    (IsFaultAfter within before e)

-- the same, whatever the entries before
abbrev pub IsServiceAfter : Service → Span → Option Part → Result Service OrderFault → Type 0
IsServiceAfter old span p after =
    (within : ℕ → Bool) (before : List Entry) (k : ℕ) → IsSpanOf span within → IsServiceOf old span before k
    → IsNext span within before (record { request = k; part = p }) after

-- the same of a request that is served in parts, or not yet
abbrev pub IsPartsAfter : (ℕ → Option ℕ) → ℕ → Span → Part → Result Service OrderFault → Type 0
IsPartsAfter sizes left span p after =
    (within : ℕ → Bool) (before : List Entry) (k : ℕ) → IsSpanOf span within → AreParts sizes left span before k
    → IsNext span within before (record { request = k; part = Some p }) after

-- the fault of a request that is due at these offsets, by what the entries serve of it: none where it is served there
abbrev pub IsFaultOfService : (at : ℕ → Type 0) → (within : ℕ → Bool) → List Entry → ℕ → Option OrderFault → Type 0
IsFaultOfService at within entries k None = (x : ℕ) → at x → IsServedAt within entries k x
IsFaultOfService at within entries k (Some Missing) = Names entries k → ⊥
IsFaultOfService at within entries k (Some NotCovered) =
    ((x : ℕ) × at x × (IsServedAt within entries k x → ⊥)) × Names entries k
IsFaultOfService at within entries k (Some _) = ⊥

-- x lies inside, and one of the ranges has it
abbrev pub IsShownAt : (within : ℕ → Bool) → List Shown → ℕ → Type 0
IsShownAt within shown x = IsTrue (within x) × ((n : ℕ) × (first_shown shown x ≡ Some n))

-- the same, whatever the entries, of a request that is due at each offset
abbrev pub TellsFault : Service → Option OrderFault → Type 0
TellsFault service found =
    (span : Span) (within : ℕ → Bool) (entries : List Entry) (k : ℕ) → IsSpanOf span within
    → IsServiceOf service span entries k → IsFaultOfService (λ x. Unit {0}) within entries k found

-- and at those of a span inside it
abbrev pub TellsFaultIn : Service → (here : Span) → Option OrderFault → Type 0
TellsFaultIn service here found =
    (span : Span) (within : ℕ → Bool) (entries : List Entry) (k : ℕ) → IsSpanOf span within
    → IsServiceOf service span entries k → ((x : ℕ) → IsTrue (is_in here.offset here.size x) → IsTrue (within x))
    → IsFaultOfService (λ x. IsTrue (is_in here.offset here.size x)) within entries k found

-- and at those inside it that these ranges show: there is one where there is a fault
abbrev pub TellsFaultShown : Service → Span → List Shown → Option OrderFault → Type 0
TellsFaultShown service span shown found =
    (within : ℕ → Bool) (entries : List Entry) (k : ℕ) → IsSpanOf span within → IsServiceOf service span entries k
    → IsFaultOfService (IsShownAt within shown) within entries k found
    × ((fault : OrderFault) → found ≡ Some fault → (x : ℕ) × IsShownAt within shown x)

-- a range from an offset on, as far as a size goes; nowhere where the condition fails
abbrev pub span_if : Bool → (offset len size : ℕ) → Span
span_if true offset len size = record { offset = offset; size = min len (size - offset) }
span_if false offset len size = record { offset = 0; size = 0 }

-- a request of a type with a range, and no BLOCK_STATUS that is not proper
abbrev pub has_inside : Asked → Bool
has_inside a = (a.proper || not (a.command == commands.BLOCK_STATUS)) && has_range a.command

-- where what lies inside a request lies: its range, as far as the export goes; nowhere where it has nothing inside
abbrev pub span_in : (size : ℕ) → Asked → Span
span_in size a = span_if (has_inside a && nat_lt a.offset size) a.offset a.length size

-- the same of a request of a report
abbrev pub span_of_asked : Option Exporting → Asked → Span
span_of_asked export a = span_in (size_of export) a

-- the table has a cell for each request, that of request k at k - 1; each says what the first n entries serve, none of
-- which is bad
pub record AreServices (r : Report) (order : List Entry) (n : ℕ) (table : List Service) : Type 0 where
  pub len : length table ≡ length r.asked
  pub none_bad : (i : ℕ) → i < n → IsBad (length r.asked) (inside_in r) order i → ⊥
  pub each : (k : ℕ) (s : Service) (a : Asked) → slice_get table k ≡ Some s → slice_get r.asked k ≡ Some a →
      IsServiceOf s (span_of_asked r.export a) (take n order) (suc k)

-- entry i is bad with this fault, the first of its faults
abbrev pub IsBadAt : Report → List Entry → ℕ → OrderFault → Type 0
IsBadAt r order i NoSuchRequest = NamesNone (length r.asked) order i
IsBadAt r order i Twice = NamesAgain order i
IsBadAt r order i BadPart = IsBadPart (inside_in r) order i × (NamesNone (length r.asked) order i → ⊥)
    × (NamesAgain order i → ⊥)
IsBadAt r order i _ = ⊥

-- the first bad entry, counted from 1, and its fault
abbrev pub IsFirstBad : Report → List Entry → ℕ → OrderFault → Type 0
IsFirstBad r order entry fault =
    (i : ℕ) × (entry ≡ i + 1) × IsBadAt r order i fault
    × ((j : ℕ) → j < i → IsBad (length r.asked) (inside_in r) order j → ⊥)

-- the table of the whole order, or its first bad entry
abbrev pub IsTable : {A : Type 0} → Report → List Entry → Result (Vec Service A) (ℕ × OrderFault) → Type 0
IsTable {A} r order (Ok table) = AreServices r order (length order) table.items
IsTable {A} r order (Err bad) = IsFirstBad r order bad.0 bad.1

-- a fault of request k that was due, with the request's number
abbrev pub IsUnservedBy : Profile → Report → List Entry → ℕ → OrderFault → Type 0
IsUnservedBy profile r order k Missing = IsMissing (length r.asked) (due_in profile r) order k
IsUnservedBy profile r order k NotCovered = IsNotCovered (length r.asked) (due_in profile r) (inside_in r) order k
IsUnservedBy profile r order k _ = ⊥

-- request k is served where it was due
abbrev pub IsAllServed : Profile → Report → List Entry → ℕ → Type 0
IsAllServed profile r order k = (x : ℕ) → IsDue (length r.asked) (due_in profile r) k x
    → IsServedAt (inside_in r k) order k x

-- the fault of request k, of which a cell of the table says what is served
abbrev pub IsFaultOf : Profile → Report → List Entry → ℕ → Option OrderFault → Type 0
IsFaultOf profile r order k None = IsAllServed profile r order k
IsFaultOf profile r order k (Some fault) = IsUnservedBy profile r order k fault

-- the same, of each report with this request, and for each order
abbrev pub TellsFaultOf : Profile → Asked → Span → Service → Option OrderFault → Type 0
TellsFaultOf profile a span service found = (r : Report) (order : List Entry) (k : ℕ) → asked_at k r.asked ≡ Some a
    → IsSpanOf span (inside_in r k) → IsServiceOf service span order k → IsFaultOf profile r order k found

-- each request is served where it was due, or this is the least one that is not, with its fault
abbrev pub IsLeastUnserved : Profile → Report → List Entry → Option (ℕ × OrderFault) → Type 0
IsLeastUnserved profile r order None = (k : ℕ) → IsAllServed profile r order k
IsLeastUnserved profile r order (Some found) =
    IsUnservedBy profile r order found.0 found.1 × ((k : ℕ) → k < found.0
    → IsUnserved (length r.asked) (due_in profile r) (inside_in r) order k → ⊥)

-- the same, for each order of which the table holds what is served
abbrev pub TellsUnserved : Profile → Report → List Service → Option (ℕ × OrderFault) → Type 0
TellsUnserved profile r table found = (order : List Entry) → AreServices r order (length order) table
    → IsLeastUnserved profile r order found
