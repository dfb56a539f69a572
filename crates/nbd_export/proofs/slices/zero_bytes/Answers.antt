use Rattle.nbd_export.proofs.Common.{◌+◌, ◌<◌, ◌≤◌, ◌∙◌, arith, ⊎_elim, cases_lt, get_or-replicate, get_or_past}
use Rattle.nbd_export.proofs.slices.zero_bytes.Goals as goal

pub returns-clause-zeroes : goal.returns-clause-zeroes
returns-clause-zeroes c = λ i. ⊎_elim
    (λ (l : i < c.args.len). c.part.ensures.bytes i l ∙ get_or-replicate 1024 (0 + i) 0 0 (omega arith))
    (λ (l : c.args.len ≤ i). get_or_past c.part.result.now i 0 (omega (arith, c.part.ensures.len)))
    (cases_lt i c.args.len)
