use Rattle.nbd_judge.proofs.{Common.{ℕ, List, Bool, IsTrue, ◌<◌, with_counts, Entry, IsServedAt, IsServiceOf, IsSpanOf}, orders.ShownLemmas.HasAt}
use Rattle.nbd_judge.proofs.order.fault_shown.Given as goal

abbrev pub invariant-loop-i : goal.invariant-loop-i
invariant-loop-i l =
    (within : ℕ → Bool) (entries : List Entry) (k : ℕ) → IsSpanOf l.inside within → IsServiceOf l.service l.inside entries k →
    (x n : ℕ) (h : HasAt (with_counts l.one.pieces.items l.one.pieces.counts) x n) → h.place < l.i → IsTrue (within x) → IsServedAt within entries k x
