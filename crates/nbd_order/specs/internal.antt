-- Answers that are not proved, and what the tests of a request at one offset say.
pub mod Here
pub mod Refutations
use Rattle.nbd_order.specs.{declared.finding.Found.{Found, TheVariants.GaveUp}, Common.{is_success, Exporting, byte_at, is_in, Asked, due_of, inside_asked, Profile, size_of}}
use Rattle.std.specs.Prelude.{ℕ, ◌==◌, ◌&&◌, ◌||◌, nat_lt, not, Bool, true, false, Option, Some, None, is_some}
use Rattle.nbd_wire.specs.declared.commands.TheConstants as commands

-- the search was broken off
abbrev pub IsOpen : Found → Type 0
IsOpen (GaveUp request offset reason) = Unit {0}
IsOpen found = ⊥

-- the byte is known, and not the one that was read
abbrev pub differs : Option ℕ → Option ℕ → Bool
differs None read = false
differs (Some b) None = true
differs (Some b) (Some c) = not (b == c)

-- a READ, or a proper BLOCK_STATUS that calls x zero
abbrev pub gives_byte : Asked → ℕ → Bool
gives_byte a x =
    (a.command == commands.READ)
    || ((a.command == commands.BLOCK_STATUS) && (a.proper && is_some (byte_at a.pieces x)))

-- when a request was due at x
abbrev pub due_at : Profile → Option Exporting → Asked → ℕ → Option ℕ
due_at profile export a x = due_of profile (inside_asked export (Some a)) (Some a) x

-- the same as `gives_byte`, where it succeeded, with x inside it, and it was due there
abbrev pub reads_at : Profile → Option Exporting → Asked → ℕ → Bool
reads_at profile export a x =
    gives_byte a x && (is_success a.outcome
    && (is_some (due_at profile export a x) && (is_in a.offset a.length x && nat_lt x (size_of export))))
