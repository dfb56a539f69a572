-- What every report has, of a request that an order can name.
use Rattle.nbd_judge.proofs.Common.{◌≡◌, ℕ, zero, suc, ◌+◌, ◌≤◌, [], length, sym, ◌∙◌, ap, refl, Option, Some, None, true, false, inl, inr, is_success, Asked, Report, asked_at, Exporting, Outcome, Success, Failure, Pending, has_range, IsSoundAsked, IsSoundReport, IsServable, size_of}

success_of : (o : Outcome) → is_success o ≡ true → o ≡ Success
success_of Success e = refl
success_of Failure e = absurd (let q : false ≡ true = e in (cc))
success_of Pending e = absurd (let q : false ≡ true = e in (cc))

servable_in : (size count k : ℕ) (a : Asked) → IsSoundAsked size count k a → IsServable size a
servable_in size count k a sound = record {
  carried = sound.carried;
  read_inside = λ c w. within w (elim c [ inl r ↦ ap has_range r | inr k ↦ ap has_range k ]);
  write_inside = λ c w. within w (ap has_range c);
  zeroes_inside = λ c w. within w (ap has_range c);
  laid = sound.laid;
  covered = λ c w. sound.covered c (success_of a.outcome w);
}
  where
    within : is_success a.outcome ≡ true → has_range a.command ≡ true → a.offset + a.length ≤ size
    within w ranged = sound.inside (sound.success (success_of a.outcome w)) ranged

none_at : (k : ℕ) (a : Asked) → asked_at k [] ≡ Some a → ⊥
none_at zero a e = (let q : None ≡ Some a = e in absurd (cc))
none_at (suc k) a e = (let q : None ≡ Some a = e in absurd (cc))

pub servable : (r : Report) → IsSoundReport r → (k : ℕ) (a : Asked) → asked_at k r.asked ≡ Some a → IsServable (size_of r.export) a
servable r sound k a at = go r.export refl
  where
    go : (o : Option Exporting) → r.export ≡ o → IsServable (size_of o) a
    go (Some export) e = servable_in export.size (length r.asked) k a (sound.each export k a e at)
    go None e = absurd (none_at k a (ap (asked_at k) (sym (sound.none e)) ∙ at))
