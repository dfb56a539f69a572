-- The numbers of two bytes that GO names.
use Rattle.nbd_wire.proofs.{Common.{◌≡◌, ℕ, ◌-◌, ◌<◌, ◌+◌, ◌*◌, List, length, drop, arith, HasGoForm, HasListedForm, behind_name, number_at, has_number}, ListedFormLemmas.go-only, QueryLemmas.behind}
use Rattle.std.proofs.Common.{eqb-true}

pub first_is_not : (wanted n : ℕ) (bytes : List ℕ) → 0 < n → (number_at 0 2 bytes ≡ wanted → ⊥) → has_number wanted n bytes ≡ has_number wanted (n - 1) (drop 2 bytes)
first_is_not wanted n bytes l e = grind (arith, eqb-true)

-- what stands behind the name in GO data: a count, and so many numbers of two bytes
pub behind_go : (name first rest bytes : List ℕ) (count : ℕ) → HasGoForm name count bytes → HasListedForm first rest bytes → (rest ≡ behind_name bytes) × (length rest ≡ 2 + 2 * count) × (count ≡ number_at 0 2 rest)
behind_go name first rest bytes count go listed = grind (arith, go-only, behind)
