-- One more request of those that are counted.
use Rattle.nbd_judge.proofs.{Common.{◌≡◌, ℕ, ◌+◌, ◌<◌, List, length, sym, ◌∙◌, ap, arith, add-one, Option, Some, None, Bool, true, false, take, slice_get, count_by, count_by_more_no, count_by_more_yes, get_or_from_slice_get, slice_get_within, Asked, asked_at}, orders.FirstLemmas.past}

-- request number i + 1 of these stands at i
there : (asked : List Asked) (i : ℕ) (o : Option Asked) → asked_at (i + 1) asked ≡ o → slice_get asked i ≡ o
there asked i o e = ap (λ n. asked_at n asked) (sym (add-one i)) ∙ e

module _ (p : Asked → Bool) (asked : List Asked) (i : ℕ) (a : Asked) (at : asked_at (i + 1) asked ≡ Some a) where
  pub one_counted : p a ≡ true → count_by p (take (i + 1) asked) ≡ count_by p (take i asked) + 1
  one_counted e = count_by_more_yes p asked i a (slice_get_within asked i a (there asked i (Some a) at)) (ap p (get_or_from_slice_get asked i a a (there asked i (Some a) at)) ∙ e)

  pub one_passed : p a ≡ false → count_by p (take (i + 1) asked) ≡ count_by p (take i asked)
  one_passed e = count_by_more_no p asked i a (slice_get_within asked i a (there asked i (Some a) at)) (ap p (get_or_from_slice_get asked i a a (there asked i (Some a) at)) ∙ e)

pub none_there : (asked : List Asked) (i : ℕ) → i < length asked → asked_at (i + 1) asked ≡ None → ⊥
none_there asked i w e = (let l = past asked i (there asked i None e) in omega arith)
