-- When no order explains a capture, and what shows it.
use Rattle.std.specs.{Prelude.{ℕ, List, ◌≡◌, ◌+◌, ◌<◌, ◌==◌, Bool, true, Option, Some, IsTrue, slice_get}, List.list_any}
use Rattle.nbd_order.specs.Common.{Entry, Profile, Pair, IsExplainedOf, Start, start_byte, Effect, GivesByte, IsWrong, effects, Item, pairs, Report, inside_in, report, IsRunOf, IsFaultless}

-- k is one of these numbers
abbrev pub has : List ℕ → ℕ → Bool
has numbers k = list_any (λ n. n == k) numbers

-- in the profile no order explains the capture from this start, in parts or whole
abbrev pub IsUnexplained : Profile → List Pair → Start → Type 0
IsUnexplained profile capture initial = (order : List Entry) → IsExplainedOf profile capture order initial → ⊥

-- each of the numbers is above the one before it
abbrev pub AreRising : List ℕ → Type 0
AreRising numbers = (i a b : ℕ) → slice_get numbers i ≡ Some a → slice_get numbers (i + 1) ≡ Some b → a < b

-- request k succeeded and x lies inside it: it is a READ, or a BLOCK_STATUS that calls x zero
pub record IsReadOf (r : Report) (x k : ℕ) : Type 0 where
  pub read : Effect
  pub is_request : effects r k ≡ Some read
  pub is_read : GivesByte read x
  pub succeeded : read.succeeded ≡ true
  pub inside : IsTrue (inside_in r k x)

-- each order without a fault in the profile has, against these bytes at the start, a wrong byte at x of one of these
-- READs, or of one of these BLOCK_STATUS a false zero; each of them has x, and stands here once
pub record IsRefutedBy (profile : Profile) (r : Report) (initial : ℕ → Option ℕ) (x : ℕ) (reads : List ℕ) : Type 0 where
  pub are_reads : (k : ℕ) → has reads k ≡ true → IsReadOf r x k
  pub rise : AreRising reads
  pub none_is_right : (order : List Entry) → IsFaultless profile r order
      → ((i : ℕ) (e : Entry) → slice_get order i ≡ Some e → has reads e.request ≡ true
      → IsWrong (effects r) order initial i x → ⊥) → ⊥

-- where the report of a run of a profile is refuted by some READs in it, no order explains its bytes
abbrev pub RefutedIsUnexplained : Type 0
RefutedIsUnexplained = (profile : Profile) (items : List Item) (initial : Start) (x : ℕ) (reads : List ℕ)
    → IsRunOf profile items → IsRefutedBy profile (report items) (start_byte initial) x reads
    → IsUnexplained profile (pairs items) initial
