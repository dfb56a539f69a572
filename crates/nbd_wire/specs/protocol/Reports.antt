-- What a run says of its requests, whatever the moments of their service.
use Rattle.std.specs.Prelude.{ℕ, zero, suc, List, [], ◌∷◌, ◌++◌, Bool, false, Option, Some, None, length, slice_get, if◌then◌else◌, nat_le}
use Rattle.nbd_wire.specs.{declared.{profile.Profile.Profile, payloads.Piece.Piece}, protocol.{Marks.{Item, Starts, Completes}, Entries.inside_of, Operations.{Operation, Exporting, Outcome, is_outside, outcome, pieces, proper_on, is_chunked}, Statuses.zeroes, Rules.{is_reply_to, complete, ends_at}, Pieces.is_in, States.{Core, Shown, export_in, start}}}

-- the numbered requests of a run
abbrev pub operations_of : List Item → List Operation
operations_of items = (ends_at start items).core.entries

-- the export of a run that reaches transmission
abbrev pub export_of : List Item → Option Exporting
export_of items = export_in (ends_at start items).core.phase

-- how many had completed when the first reply to request k started, walking from here
abbrev pub known_from : Core → ℕ → List Item → Option ℕ
known_from core k [] = None
known_from core k (Starts s m ∷ items) =
    if is_reply_to core m k then Some (length core.entries) else known_from core k items
known_from core k (Completes s m ∷ items) = known_from (complete core m) k items
known_from core k (item ∷ items) = known_from core k items

-- how many numbered requests had completed when the first reply to request k started, if one did
abbrev pub known_count : List Item → ℕ → Option ℕ
known_count items k = known_from start.core k items

-- a numbered request as a report states it: whether it is proper, whether it is outside of the block sizes, how many
-- numbered requests had completed when its first reply started, what of a READ the messages before the last one showed,
-- how many requests had completed when the last one had come, what became of it, and the pieces that its reply gives or
-- calls zero
pub record Asked : Type 0 where
  pub flags : ℕ
  pub command : ℕ
  pub cookie : ℕ
  pub offset : ℕ
  pub length : ℕ
  pub payload : List ℕ
  pub proper : Bool
  pub outside : Bool
  pub known_at : Option ℕ
  pub shown : List Shown
  pub ended_at : Option ℕ
  pub outcome : Outcome
  pub pieces : List Piece

-- the export, where transmission was reached, and the numbered requests
pub record Report : Type 0 where
  pub export : Option Exporting
  pub asked : List Asked

-- what a request was told: the pieces of its content, and what a BLOCK_STATUS was told to be zero
abbrev pub pieces_told : Option Exporting → Operation → List Piece
pieces_told (Some export) e = zeroes export e ++ pieces e
pieces_told None e = pieces e

-- a request as a report states it
abbrev pub asked_of : Option Exporting → (known_at : Option ℕ) → (shown : List Shown) → (ended_at : Option ℕ)
    → Operation → Asked
asked_of export known_at shown ended_at e = record {
  flags = e.flags;
  command = e.command;
  cookie = e.cookie;
  offset = e.offset;
  length = e.length;
  payload = e.payload;
  proper = proper_on export e;
  outside = is_outside e;
  known_at = known_at;
  shown = shown;
  ended_at = ended_at;
  outcome = outcome e;
  pieces = pieces_told export e;
}

-- the requests from number k + 1 on
abbrev pub asked_list : ℕ → Core → (known_at : ℕ → Option ℕ) → List Operation → List Asked
asked_list k core known_at [] = []
asked_list k core known_at (e ∷ entries) =
    asked_of (export_in core.phase) (known_at (suc k)) (core.shown (suc k)) (core.ended_at (suc k)) e
    ∷ asked_list (suc k) core known_at entries

-- the export and the numbered requests that a run leads to
unfoldable pub report : List Item → Report
report items =
    let core : Core = (ends_at start items).core in
    record { export = export_in core.phase; asked = asked_list 0 core (known_count items) core.entries }

-- request k of these, counted from 1
abbrev pub asked_at : ℕ → List Asked → Option Asked
asked_at zero asked = None
asked_at (suc k) asked = slice_get asked k

-- the offsets inside a request on an export, if there is one
abbrev pub inside_asked : Option Exporting → Option Asked → ℕ → Bool
inside_asked export (Some a) = inside_of a.proper export a.command a.offset a.length
inside_asked export None = λ x. false

-- the offsets inside request k of the report
abbrev pub inside_in : Report → ℕ → ℕ → Bool
inside_in r k = inside_asked r.export (asked_at k r.asked)

-- the lesser of two counts, or the one that there is
abbrev pub lesser_of : Option ℕ → Option ℕ → Option ℕ
lesser_of (Some m) (Some n) = Some (if nat_le m n then m else n)
lesser_of (Some m) None = Some m
lesser_of None b = b

-- the count of the first of these ranges that has x
abbrev pub first_shown : List Shown → ℕ → Option ℕ
first_shown [] x = None
first_shown (s ∷ shown) x = if is_in s.offset s.size x then Some s.count else first_shown shown x

-- how many requests had completed when a READ by chunk had to be served for x, if it had to: when the first message
-- with a byte of x, if x lies inside, or the last message had come
abbrev pub due_by_chunk : (within : ℕ → Bool) → Asked → ℕ → Option ℕ
due_by_chunk within a x = lesser_of (if within x then first_shown a.shown x else None) a.ended_at

-- the same, of any request: when its first reply started, unless it may be served by chunk
abbrev pub due_of : Profile → (within : ℕ → Bool) → Option Asked → ℕ → Option ℕ
due_of profile within (Some a) x = if is_chunked profile a.command then due_by_chunk within a x else a.known_at
due_of profile within None x = None

-- the same, of request k of the report
abbrev pub due_in : Profile → Report → (k x : ℕ) → Option ℕ
due_in profile r k x = due_of profile (inside_in r k) (asked_at k r.asked) x
