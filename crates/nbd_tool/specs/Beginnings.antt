-- What of an image is kept.
use Rattle.std.specs.Prelude.{ℕ, List, ◌≡◌, ◌<◌, Option, IfSome, Result, Ok, Err, length}
use Rattle.nbd_tool.specs.{Common.{Start, image, Report, SessionFault, initial_of, size_of}, declared.beginning.Beginning.{Beginning, TheVariants.{Longer, Whole}}}

-- how many bytes of an image a verdict needs: as many as the export has, none where there is no export or no report
abbrev pub room_in : Result Report SessionFault → ℕ
room_in (Ok r) = size_of r.export
room_in (Err fault) = 0

-- this start was read, with room for so many bytes: it was kept, or it is an image of more bytes, which were counted
abbrev pub IsReadAs : (room : ℕ) → Start → Beginning → Type 0
IsReadAs room initial (Whole start) = initial_of start ≡ initial
IsReadAs room initial (Longer n) = (bytes : List ℕ) × (initial ≡ image bytes) × (n ≡ length bytes) × (room < n)

-- some start was read, and it is the one that is known
pub record IsBeginningOf (known : Option Start) (room : ℕ) (read : Beginning) : Type 0 where
  pub initial : Start
  pub is_read : IsReadAs room initial read
  pub is_known : IfSome known (λ s. initial ≡ s)
