-- What the steps of a judgement are about: the start, the report, when an entry is due, and what it serves.
pub mod Pieces
pub mod Services
use Rattle.std.specs.Prelude.{ℕ, Option, Some, None, length, List, ◌≡◌, Bool, false, nat_lt, ◌<◌, ◌≤◌, IsTrue, ◌⊎◌, ◌+◌, true, is_some}
use Rattle.nbd_wire.specs.protocol.Explains as definitions
use Rattle.nbd_wire.specs.{declared.{profile.Profile.Profile, entry.{Entry.Entry, Part.Part}, message.Message.Message}, Prelude.{Item, pairs, Pair, Report, report, IsRunOf, in_part, is_in, Asked, first_shown, inside_in, is_success, byte_at}}
use Rattle.nbd_session.specs.{declared.fault.SessionFault.SessionFault, Refusals.IsWireFaultOf}
use Rattle.nbd_session.specs.declared.fault.SessionFault.TheVariants as session
use Rattle.nbd_export.specs.Ranges.{IsLeast}
use Rattle.nbd_state.specs.declared.span.Span.{Span}
use Rattle.nbd_wire.specs.declared.commands.TheConstants as commands
use Rattle.nbd_laws.specs.Soundness.{AreLaid}

-- how many bytes the start has, where they are given
abbrev pub given_length : definitions.Start → Option ℕ
given_length (definitions.Held bytes) = Some (length bytes)
given_length definitions.Unknown = None
given_length definitions.Zeroes = None

-- some run of the profile has these bytes, and the report of each such run is this one
pub record HasReport (profile : Profile) (capture : List Pair) (found : Report) : Type 0 where
  pub items : List Item
  pub is_run : IsRunOf profile items
  pub has_pairs : pairs items ≡ capture
  pub same_report : (others : List Item) → IsRunOf profile others → pairs others ≡ capture → report others ≡ found

-- a session of the profile over the capture ends in this fault; of out of memory nothing is said
abbrev pub IsFaultOf : Profile → List Pair → SessionFault → Type 0
IsFaultOf profile capture (session.Wire at fault) =
    (messages : List Message) × IsWireFaultOf profile capture messages at fault
IsFaultOf profile capture session.Memory = Unit {0}

-- k is above the number, if there is one
abbrev pub is_above : ℕ → Option ℕ → Bool
is_above k (Some x) = nat_lt x k
is_above k None = false

-- an offset that the entry serves was due when so many requests had completed
abbrev pub ServesDue : (due : ℕ → ℕ → Option ℕ) → Entry → ℕ → Type 0
ServesDue due e n = (x : ℕ) × IsTrue (in_part e.part x) × (due e.request x ≡ Some n)

-- the least count of these, if there is one
abbrev pub IsLeastDue : (due : ℕ → ℕ → Option ℕ) → Entry → Option ℕ → Type 0
IsLeastDue due e found = IsLeast (ServesDue due e) found

-- a range of the READ has an offset of the span first, with this count
abbrev pub ShowsIn : Asked → Span → ℕ → Type 0
ShowsIn a span n = (x : ℕ) × IsTrue (is_in span.offset span.size x) × (first_shown a.shown x ≡ Some n)

-- the entry names a request, and its part, if it has one, lies inside that and is not empty
pub record IsFair (r : Report) (e : Entry) : Type 0 where
  pub named : (0 < e.request) × (e.request ≤ length r.asked)
  pub part : (p : Part) → e.part ≡ Some p → (0 < p.length)
      × ((x : ℕ) → IsTrue (is_in p.offset p.length x) → IsTrue (inside_in r e.request x))

-- its bytes and its range fit an export of this size, as far as its service reads them
pub record IsServable (size : ℕ) (a : Asked) : Type 0 where
  pub carried : a.command ≡ commands.WRITE → length a.payload ≡ a.length
  pub read_inside : (a.command ≡ commands.READ) ⊎ (a.command ≡ commands.BLOCK_STATUS) → is_success a.outcome ≡ true
      → a.offset + a.length ≤ size
  pub write_inside : a.command ≡ commands.WRITE → is_success a.outcome ≡ true → a.offset + a.length ≤ size
  pub zeroes_inside : a.command ≡ commands.WRITE_ZEROES → is_success a.outcome ≡ true → a.offset + a.length ≤ size
  pub laid : AreLaid a.offset a.length a.pieces
  pub covered : a.command ≡ commands.READ → is_success a.outcome ≡ true → (x : ℕ) → IsTrue (is_in a.offset a.length x)
      → IsTrue (is_some (byte_at a.pieces x))

-- the part lies in the request's range, if there is a part
abbrev pub IsPartIn : Option Part → Asked → Type 0
IsPartIn None a = Unit {0}
IsPartIn (Some p) a = (a.offset ≤ p.offset) × (p.offset + p.length ≤ a.offset + a.length)

-- where an entry with this part serves the request
abbrev pub served_span : Option Part → Asked → Span
served_span None a = record { offset = a.offset; size = a.length }
served_span (Some p) a = record { offset = p.offset; size = p.length }
