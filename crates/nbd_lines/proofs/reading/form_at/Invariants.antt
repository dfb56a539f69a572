use Rattle.nbd_lines.proofs.Common.{◌≡◌, ◌++◌, ℕ, List, ◌<◌, slice_index_or, Greeting, words}
use Rattle.nbd_lines.proofs.reading.form_at.Given as goal

abbrev pub invariant-loop-form : goal.invariant-loop-form
invariant-loop-form l = (k : ℕ) → k < l.form-index → (rest : List ℕ) → l.line ≡ words (slice_index_or l.form-items k Greeting) ++ rest → ⊥
