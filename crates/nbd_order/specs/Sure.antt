-- What every order leaves that explains a session, as far as arrivals, replies and later READs show it.
use Rattle.std.specs.{Prelude.{ℕ, suc, List, [], ◌∷◌, ◌≡◌, ◌==◌, ◌&&◌, ◌||◌, Bool, true, false, not, nat_le, Option, Some, None, if◌then◌else◌, count_by}, List.list_any}
use Rattle.nbd_wire.specs.declared.commands.TheConstants as commands
use Rattle.nbd_order.specs.{Common.{Piece, effect, effect_byte, is_success, FitsImage, Start, start_byte, Exporting, is_change, byte_at, holds, is_in, Asked, Report, asked_at, held, held_from, IsOtherSize}, Leaving.are_open_at, declared.leaving.Left.{Left, TheVariants.{Contents, NoExport, Refused}}}
use Rattle.nbd_wire.specs.declared.verdict.Verdict.TheVariants as verdict

-- it is a WRITE, TRIM or WRITE_ZEROES with x in its range
abbrev pub changes : (x : ℕ) → Asked → Bool
changes x a = is_change a.command && is_in a.offset a.length x

-- it is a READ that succeeded
abbrev pub is_read : Asked → Bool
is_read a = (a.command == commands.READ) && is_success a.outcome

-- it is such a READ, which got the byte at x
abbrev pub gets : (x : ℕ) → Asked → Bool
gets x a = is_read a && list_any (λ (p : Piece). holds p x) a.pieces

-- so many requests had completed, request n among them; none had where there is no count
abbrev pub has_completed : (n : ℕ) → Option ℕ → Bool
has_completed n (Some count) = nat_le n count
has_completed n None = false

-- it changes x, and its first reply began behind the arrival of request n
abbrev pub changes_behind : (n x : ℕ) → Asked → Bool
changes_behind n x a = changes x a && has_completed n a.known_at

-- the change leaves unknown bytes: it is a TRIM, or no success
abbrev pub leaves_unknown : Asked → Bool
leaves_unknown a = (a.command == commands.TRIM) || not (is_success a.outcome)

-- the number of the last request with a property, by whether the first has it, and by that among the others
abbrev pub number_before : Bool → Option ℕ → Option ℕ
number_before has_it (Some n) = Some (suc n)
number_before true None = Some 1
number_before false None = None

-- the greatest number of one of these requests with the property, where one has it; they are counted from 1
abbrev pub last_number : (Asked → Bool) → List Asked → Option ℕ
last_number has_it [] = None
last_number has_it (a ∷ asked) = number_before (has_it a) (last_number has_it asked)

-- the byte that a change left at x
abbrev pub byte_left : Option Asked → (x : ℕ) → Option ℕ
byte_left (Some a) x = effect_byte (effect a) x
byte_left None x = None

-- the byte that a READ got at x
abbrev pub byte_got : Option Asked → (x : ℕ) → Option ℕ
byte_got (Some a) x = byte_at a.pieces x
byte_got None x = None

-- the byte at x that READ m got, the last one that got a byte there, where it arrived behind the first reply to each
-- change at x: so it was served behind all of them
abbrev pub byte_seen : List Asked → (x : ℕ) → (last_read : Option ℕ) → Option ℕ
byte_seen asked x (Some m) =
    if list_any (changes_behind m x) asked then None else byte_got (asked_at m asked) x
byte_seen asked x None = None

-- one that may be the last of the changes at x leaves an unknown byte, where n is the greatest of their numbers; each
-- may be whose first reply began behind the arrival of request n, since the others were served before that
abbrev pub may_leave_unknown : List Asked → (n x : ℕ) → Bool
may_leave_unknown asked n x = list_any (λ (a : Asked). changes_behind n x a && leaves_unknown a) asked

-- no more than one may be the last of them: request n itself, whose first reply began behind its own arrival
abbrev pub is_last_alone : List Asked → (n x : ℕ) → Bool
is_last_alone asked n x = nat_le (count_by (changes_behind n x) asked) 1

-- the byte that the changes at x left, of which none is open and n is the greatest number
abbrev pub byte_behind_changes : List Asked → (n x : ℕ) → Option ℕ
byte_behind_changes asked n x =
    if may_leave_unknown asked n x then None
    else if is_last_alone asked n x then byte_left (asked_at n asked) x
    else byte_seen asked x (last_number (gets x) asked)

-- the byte at x, by the greatest number of a change at x, if there is one
abbrev pub byte_behind_last : List Asked → (ℕ → Option ℕ) → (x : ℕ) → (last : Option ℕ) → Option ℕ
byte_behind_last asked initial x (Some n) = if are_open_at asked x then None else byte_behind_changes asked n x
byte_behind_last asked initial x None = initial x

-- the byte at x that every order leaves that explains the session, where the export's bytes were these at first, as far
-- as it is known: of a change that no reply has finished, a TRIM and a failure it is not, where one of them may be the
-- last; of several successes that may be, only where a later READ shows it (this project's choice)
abbrev pub sure : Report → (ℕ → Option ℕ) → ℕ → Option ℕ
sure r initial x = byte_behind_last r.asked initial x (last_number (changes x) r.asked)

-- what every order leaves: its bytes, where there is an export and the start has its size
abbrev pub IsLeftByEach : Report → Start → Left → Type 0
IsLeftByEach r initial (Contents contents) =
    FitsImage r.export initial
    × ((export : Exporting) × (r.export ≡ Some export)
    × (held contents ≡ held_from (sure r (start_byte initial)) 0 export.size))
IsLeftByEach r initial NoExport = r.export ≡ None
IsLeftByEach r initial (Refused v) =
    (image : ℕ) × (size : ℕ) × (v ≡ verdict.Image image size) × IsOtherSize r.export initial image size
