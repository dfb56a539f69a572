-- What is due in the one profile, and in the other.
use Rattle.nbd_laws.proofs.{Common.{◌≡◌, ℕ, ◌≤◌, List, Option, Some, Bool, arith, nat_le, eqb-true, leb-true, Entry, Profile, Base, Wide, Item, Operation, due_in, due_of, report, IsRunOf, Core, IsFaultless, AnswersAtOnce}, requests.ReportLemmas.{asked-report, stated, told_if}, service.SoonerLemmas.{IsSooner, sooner_at_end}}
use Rattle.nbd_wire.specs.declared.commands.TheConstants as commands

-- a count, and no more than another
abbrev Sooner : Option ℕ → ℕ → Type 0
Sooner κ n = (m : ℕ) × (κ ≡ Some m) × (m ≤ n)

-- in Wide nothing is due sooner than in Base
later_told : (core : Core) (κ : ℕ → Option ℕ) (k : ℕ) (o : Option Operation) (within : ℕ → Bool) (x n : ℕ) → IsSooner k (κ k) core → due_of Wide within (told_if core κ k o) x ≡ Some n →
    Sooner (due_of Base within (told_if core κ k o) x) n
later_told core κ k o within x n s h = grind (arith, stated, nat_le)

later_in : {profile : Profile} (items : List Item) → IsRunOf profile items → (k x n : ℕ) → due_in Wide (report items) k x ≡ Some n → Sooner (due_in Base (report items) k x) n
later_in items run k x n h = grind (arith, asked-report, later_told, sooner_at_end)

-- what has no fault in Base has none in Wide
pub faultless_wide : {profile : Profile} (items : List Item) (order : List Entry) → IsRunOf profile items → IsFaultless Base (report items) order → IsFaultless Wide (report items) order
faultless_wide items order run h = record {
  none_bad = h.none_bad;
  none_late = λ i (e, k, x, n, at, s, d, lt). (let r = later_in items run k x n d in h.none_late i (e, k, x, r.0, at, s, r.1, omega (arith, r.2, lt)));
  served = λ k x (p, l, (n, d)). (let r = later_in items run k x n d in h.served k x (p, l, (r.0, r.1)));
}

at_once_told : (p : Profile) (core : Core) (κ : ℕ → Option ℕ) (k : ℕ) (o : Option Operation) (within : ℕ → Bool) (x : ℕ) → IsSooner k (κ k) core →
    ((e : Operation) → o ≡ Some e → e.command ≡ commands.READ → κ k ≡ core.ended_at k) → due_of p within (told_if core κ k o) x ≡ due_of Base within (told_if core κ k o) x
at_once_told p core κ k o within x s once = grind (arith, stated, eqb-true, nat_le, leb-true)

-- where READs are answered at once, the same is due in each profile
pub due_at_once : {profile : Profile} (p : Profile) (items : List Item) → IsRunOf profile items → AnswersAtOnce (report items) → (k x : ℕ) → due_in p (report items) k x ≡ due_in Base (report items) k x
due_at_once p items run once k x = grind (arith, asked-report, at_once_told, sooner_at_end, stated, told_if)
