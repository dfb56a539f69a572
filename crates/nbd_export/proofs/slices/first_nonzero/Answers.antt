use Rattle.nbd_export.proofs.{Common.{◌<◌, sym, ◌∙◌, arith, IsNonzeroAt}, LeastLemmas.none_further}
use Rattle.nbd_export.proofs.slices.first_nonzero.Goals as goal

pub returns-in-Some : goal.returns-in-Some
returns-in-Some c =
    let done = c.loop-done.done in
    let found = c.in-Some.ensures in
    let part = c.part.ensures in
    let zero = c.zero_bytes.ensures.zeroes in
    let within : c.in-Some.i < c.min-len.result = omega (arith, found.0.0, part.len) in (
      (omega arith, λ e. found.0.1 (part.bytes c.in-Some.i within ∙ e ∙ sym (zero c.in-Some.i))),
      none_further (IsNonzeroAt c.args.bytes.now) done c.in-Some.i c.loop-done.invariant.none
          (λ j l d. found.1 j l (omega (arith, part.len), λ e. d.1 (sym (part.bytes j (omega arith)) ∙ e ∙ zero j))),
    )

pub loop-done-preserved : goal.loop-done-preserved
loop-done-preserved c =
    let part = c.part.ensures in
    record {
      fits = omega arith;
      none = none_further (IsNonzeroAt c.args.bytes.now) c.loop-done.done c.min-len.result c.loop-done.invariant.none
          (λ j l d. c.in_default.ensures j (omega (arith, part.len), λ e. d.1 (sym (part.bytes j l) ∙ e ∙ c.zero_bytes.ensures.zeroes j)));
    }
