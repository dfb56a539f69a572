-- The export's bytes, looked up backwards from an entry of the order of service.
use Rattle.std.specs.Prelude.{ℕ, List, [], ◌∷◌, ◌≡◌, ◌⊎◌, ◌-◌, ◌==◌, ◌&&◌, Bool, true, false, if◌then◌else◌, Option, Some, None, slice_get, take, IsTrue, is_some, option_map}
use Rattle.nbd_wire.specs.declared.commands.TheConstants as commands
use Rattle.nbd_wire.specs.{declared.entry.{Entry.Entry, Part.Part}, protocol.{Entries.in_part, Reports.{Asked, Report, asked_at}, Operations.{Outcome, Success, is_change}, Pieces.{byte_at, is_in}}}

-- a numbered request and what became of it; `read` is the byte that its reply gives at an offset
pub record Effect : Type 0 where
  pub command : ℕ
  pub offset : ℕ
  pub length : ℕ
  pub payload : List ℕ
  pub succeeded : Bool
  pub read : ℕ → Option ℕ

-- the outcome is a success
abbrev pub is_success : Outcome → Bool
is_success Success = true
is_success _ = false

-- what of a request the export's bytes depend on
abbrev pub effect : Asked → Effect
effect a = record {
  command = a.command;
  offset = a.offset;
  length = a.length;
  payload = a.payload;
  succeeded = is_success a.outcome;
  read = byte_at a.pieces;
}

-- the requests of a report, by number
abbrev pub effects : Report → ℕ → Option Effect
effects r k = option_map effect (asked_at k r.asked)

-- the request has x in its range, and an entry with this part serves x of it
abbrev pub serves : Option Part → Effect → ℕ → Bool
serves p e x = is_in e.offset e.length x && in_part p x

-- a WRITE, TRIM or WRITE_ZEROES of which x is served
abbrev pub touches : Option Part → Effect → ℕ → Bool
touches p e x = is_change e.command && serves p e x

-- the byte that a change leaves at an offset that it touches: a successful WRITE its byte, a successful WRITE_ZEROES a
-- zero, and all else an unknown one
abbrev pub effect_byte : Effect → ℕ → Option ℕ
effect_byte e x =
    if e.succeeded && (e.command == commands.WRITE) then slice_get e.payload (x - e.offset)
    else if e.succeeded && (e.command == commands.WRITE_ZEROES) then Some 0 else None

-- the request, where an entry with this part touches x
abbrev pub touch_of : Option Part → Option Effect → ℕ → Option Effect
touch_of p (Some e) x = if touches p e x then Some e else None
touch_of p None x = None

-- the later of two, if there is one
abbrev pub later : Option Effect → Option Effect → Option Effect
later (Some e) earlier = Some e
later None earlier = earlier

-- the request of the last of these entries that touches x
abbrev pub last_touch : (ℕ → Option Effect) → ℕ → List Entry → Option Effect
last_touch requests x [] = None
last_touch requests x (entry ∷ order) = later (last_touch requests x order)
    (touch_of entry.part (requests entry.request) x)

-- what a change left at x, or the byte at the start where none did
abbrev pub byte_or_start : Option Effect → (ℕ → Option ℕ) → ℕ → Option ℕ
byte_or_start (Some e) initial x = effect_byte e x
byte_or_start None initial x = initial x

-- the export's byte at x at entry i of the order, counted from 0: what the last change before it left, or else the byte
-- at the start (this project's choice)
abbrev pub byte_before : (ℕ → Option Effect) → List Entry → (ℕ → Option ℕ) → ℕ → ℕ → Option ℕ
byte_before requests order initial i x = byte_or_start (last_touch requests x (take i order)) initial x

-- the byte at x is known, and the read gives another or none
abbrev pub Differs : (byte read : ℕ → Option ℕ) → ℕ → Type 0
Differs byte read x = (b : ℕ) × (byte x ≡ Some b) × (read x ≡ Some b → ⊥)

-- a READ says what the byte at x is, and a BLOCK_STATUS where its reply calls it zero (proto.md, "Request types",
-- "Metadata querying")
abbrev pub GivesByte : Effect → ℕ → Type 0
GivesByte e x = (e.command ≡ commands.READ) ⊎ (e.command ≡ commands.BLOCK_STATUS) × IsTrue (is_some (e.read x))

-- x is served of a READ or BLOCK_STATUS that succeeded, which says of it another byte than the known one, or none
abbrev pub IsWrongIn : Option Part → Effect → (ℕ → Option ℕ) → ℕ → Type 0
IsWrongIn p e byte x = GivesByte e x × (e.succeeded ≡ true) × IsTrue (serves p e x) × Differs byte e.read x

-- the request of this entry gives a wrong byte at x, which the entry serves, against these bytes of the export
abbrev pub IsWrongOf : (ℕ → Option Effect) → Entry → (ℕ → Option ℕ) → ℕ → Type 0
IsWrongOf requests entry byte x = (e : Effect) × (requests entry.request ≡ Some e) × IsWrongIn entry.part e byte x

-- entry i of the order, counted from 0, serves a wrong byte at x, against the export as it is then
abbrev pub IsWrong : (ℕ → Option Effect) → List Entry → (ℕ → Option ℕ) → ℕ → ℕ → Type 0
IsWrong requests order initial i x =
    (entry : Entry) × (slice_get order i ≡ Some entry)
    × IsWrongOf requests entry (byte_before requests order initial i) x
