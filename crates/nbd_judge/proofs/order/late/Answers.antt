use Rattle.nbd_judge.proofs.{Common.{◌≡◌, ◌+◌, ◌-◌, ℕ, List, Option, Some, None, slice_get, slice_index_or, sym, ◌∙◌, subst, arith, slice_get-get_or, IsLeast, Entry, due_in}, orders.LateLemmas.{ServedDueFrom, found_first, found_later, found_now, is_late, least_step, not_late}}
use Rattle.nbd_judge.proofs.order.late.Goals as goal

pub loop-i-preserved-then-exceeds : goal.loop-i-preserved-then-exceeds
loop-i-preserved-then-exceeds c =
    let order : List Entry = c.args.order.now in
    let due : ℕ → ℕ → Option ℕ = due_in c.args.profile c.args.transcript.now in
    let i : ℕ = c.loop-i.i in
    let e : Entry = slice_index_or order (i - 1) (record { request = 0; part = None }) in
    let here : i ≡ i - 1 + 1 = omega arith in
    let at : slice_get order (i - 1) ≡ Some e = slice_get-get_or order (i - 1) (record { request = 0; part = None }) (let l = c.loop-i.invariant.in_order in omega (arith, l)) in
    let least = subst (IsLeast (ServedDueFrom due order (i - 1))) (sym c.lesser-least.ensures) (least_step due order i (i - 1) here e at c.loop-i.least c.least_due.result c.loop-i.invariant.least c.least_due.ensures) in
    record {
      in_order = (let l = c.loop-i.invariant.in_order in omega (arith, l));
      least = least;
      found = found_now due order i (i - 1) here e at (is_late due order i (i - 1) here e at c.lesser-least.result least (sym c.exceeds.ensures ∙ c.if-exceeds.true));
    }

pub loop-i-preserved : goal.loop-i-preserved
loop-i-preserved c =
    let order : List Entry = c.args.order.now in
    let due : ℕ → ℕ → Option ℕ = due_in c.args.profile c.args.transcript.now in
    let i : ℕ = c.loop-i.i in
    let e : Entry = slice_index_or order (i - 1) (record { request = 0; part = None }) in
    let here : i ≡ i - 1 + 1 = omega arith in
    let at : slice_get order (i - 1) ≡ Some e = slice_get-get_or order (i - 1) (record { request = 0; part = None }) (let l = c.loop-i.invariant.in_order in omega (arith, l)) in
    let least = subst (IsLeast (ServedDueFrom due order (i - 1))) (sym c.lesser-least.ensures) (least_step due order i (i - 1) here e at c.loop-i.least c.least_due.result c.loop-i.invariant.least c.least_due.ensures) in
    record {
      in_order = (let l = c.loop-i.invariant.in_order in omega (arith, l));
      least = least;
      found = found_later due order i (i - 1) here e at c.loop-i.found (not_late due order i (i - 1) here e at c.lesser-least.result least (sym c.exceeds.ensures ∙ c.if-exceeds.false)) c.loop-i.invariant.found;
    }

pub returns : goal.returns
returns c = found_first (due_in c.args.profile c.args.transcript.now) c.args.order.now c.loop-i.i c.loop-i-test.false c.loop-i.found c.loop-i.invariant.found
