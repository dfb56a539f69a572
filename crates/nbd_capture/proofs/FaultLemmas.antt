-- The faults of one line, as faults of the whole text.
use Rattle.nbd_capture.proofs.{Common.{arith, ◌≡◌, ℕ, List, Result, IfErr, IfOk, MatchResult, Entry, OrderTextFault, IsOrderText, IsOrderTextFault}, OrderLineLemmas.one_entry, ReadingLemmas.{no_reading, one_reading}}
use Rattle.nbd_capture.specs.declared.order.OrderTextFault.TheVariants as order_faults

-- where the text has a reading as an order, what was found is that, or out of memory
pub only_entries : {T : Type 0} (items : T → List Entry) (text : List ℕ) (r : Result T OrderTextFault) → IfOk r (λ found. IsOrderText text (items found))
    → IfErr r (IsOrderTextFault text) → (entries : List Entry) → IsOrderText text entries → MatchResult r (λ found. items found ≡ entries) (λ e. e ≡ order_faults.Memory)
only_entries items text r is fault entries read = grind (arith, one_reading, one_entry, no_reading)
