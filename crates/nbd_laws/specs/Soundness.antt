-- What the report of every run has, whatever the bytes.
use Rattle.std.specs.Prelude.{◌≡◌, ◌≢◌, ◌+◌, ◌≤◌, ℕ, List, [], Option, Some, None, length, IsTrue, is_some, slice_get}
use Rattle.nbd_wire.specs.declared.command_flags.TheConstants as command_flags
use Rattle.nbd_wire.specs.declared.commands.TheConstants as commands
use Rattle.nbd_wire.specs.{declared.{limits.TheConstants.EXPORT_SIZE, payloads.Piece.Piece, profile.Profile.Profile}, Prelude.{Item, Asked, Report, asked_at, first_shown, report, Exporting, Success, has_range, byte_at, holds, is_in, piece_offset, piece_size, has, IsRunOf, pairs, without_service}}
use Rattle.nbd_wire.specs.declared.transmission.TheConstants as transmission

-- the pieces lie in the range of their request, and no two of them share an offset
pub record AreLaid (offset len : ℕ) (pieces : List Piece) : Type 0 where
  pub inside : (i : ℕ) (p : Piece) → slice_get pieces i ≡ Some p
      → (offset ≤ piece_offset p) × (piece_offset p + piece_size p ≤ offset + len)
  pub apart : (i j : ℕ) (p q : Piece) (x : ℕ) → slice_get pieces i ≡ Some p → slice_get pieces j ≡ Some q
      → IsTrue (holds p x) → IsTrue (holds q x) → i ≡ j

-- so many of `count` requests had completed, and no fewer than when its first reply started
abbrev pub IsAfter : (known_at : Option ℕ) → (count n : ℕ) → Type 0
IsAfter known_at count n = ((m : ℕ) × (known_at ≡ Some m) × (m ≤ n)) × (n ≤ count)

-- of request k of a report of `count` requests to an export of this size
pub record IsSoundAsked (size count k : ℕ) (a : Asked) : Type 0 where
  -- its first reply started after its own completion, and it counted the requests that had completed
  pub known : (n : ℕ) → a.known_at ≡ Some n → (k ≤ n) × (n ≤ count)
  -- its first reply started before it showed or ended anything
  pub shown : (x n : ℕ) → first_shown a.shown x ≡ Some n → IsAfter a.known_at count n
  pub ended : (n : ℕ) → a.ended_at ≡ Some n → IsAfter a.known_at count n
  -- a WRITE carries as many bytes as it says
  pub carried : a.command ≡ commands.WRITE → length a.payload ≡ a.length
  -- a success is that of a proper request
  pub success : a.outcome ≡ Success → IsTrue a.proper
  -- a request outside of the block sizes has a range
  pub ranged : IsTrue a.outside → IsTrue (has_range a.command)
  -- the range of a proper request lies in the export
  pub inside : IsTrue a.proper → IsTrue (has_range a.command) → a.offset + a.length ≤ size
  -- only a READ and a proper BLOCK_STATUS have pieces
  pub reads : a.command ≢ commands.READ → a.command ≢ commands.BLOCK_STATUS → a.pieces ≡ []
  pub statuses : a.command ≡ commands.BLOCK_STATUS → (IsTrue a.proper → ⊥) → a.pieces ≡ []
  pub laid : AreLaid a.offset a.length a.pieces
  -- a proper request with DF has one piece at most
  pub single : IsTrue a.proper → IsTrue (has a.flags command_flags.DF) → length a.pieces ≤ 1
  -- the pieces of a successful READ cover its range
  pub covered : a.command ≡ commands.READ → a.outcome ≡ Success → (x : ℕ) → IsTrue (is_in a.offset a.length x)
      → IsTrue (is_some (byte_at a.pieces x))

-- of a report: the export is within the limit and has flags, without one there is no request, and each request is sound
pub record IsSoundReport (r : Report) : Type 0 where
  pub limit : (export : Exporting) → r.export ≡ Some export
      → (export.size ≤ EXPORT_SIZE) × IsTrue (has export.flags transmission.HAS_FLAGS)
  pub none : r.export ≡ None → r.asked ≡ []
  pub each : (export : Exporting) (k : ℕ) (a : Asked) → r.export ≡ Some export → asked_at k r.asked ≡ Some a
      → IsSoundAsked export.size (length r.asked) k a

-- the report of a run is sound
abbrev pub ReportsAreSound : Type 0
ReportsAreSound = (profile : Profile) (items : List Item) → IsRunOf profile items → IsSoundReport (report items)

-- runs with the same bytes have the same marks at the same places, but for those of service
abbrev pub SameMarks : Type 0
SameMarks = (profile : Profile) (items items' : List Item) → IsRunOf profile items → IsRunOf profile items'
    → pairs items ≡ pairs items' → without_service items ≡ without_service items'

-- runs with the same bytes have the same report
abbrev pub SameReports : Type 0
SameReports = (profile : Profile) (items items' : List Item) → IsRunOf profile items → IsRunOf profile items'
    → pairs items ≡ pairs items' → report items ≡ report items'

-- the report does not depend on where requests are served
abbrev pub ReportsIgnoreService : Type 0
ReportsIgnoreService = (items items' : List Item) → without_service items ≡ without_service items'
    → report items ≡ report items'
