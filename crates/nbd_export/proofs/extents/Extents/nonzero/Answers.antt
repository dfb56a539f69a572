use Rattle.nbd_export.proofs.{Common.{◌+◌, refl, arith, byte_of, zeroes}, LeastLemmas.{least_in_part, none_in_part}}
use Rattle.nbd_export.proofs.extents.Extents.nonzero.Goals as goal

pub returns-in-Some : goal.returns-in-Some
returns-in-Some c =
    least_in_part (byte_of c.args.self.now) zeroes zeroes c.args.offset c.args.len (c.args.offset + c.loop-done.done) c.min-part.result
    (omega arith) (omega arith) (λ x lo hi. refl) c.loop-done.invariant.none c.in-Some.found c.in-Some.ensures

pub loop-done-preserved : goal.loop-done-preserved
loop-done-preserved c = record {
  fits = omega arith;
  none = λ x l. none_in_part (byte_of c.args.self.now) zeroes zeroes c.args.offset c.args.len (c.args.offset + c.loop-done.done) c.min-part.result
      (omega arith) (omega arith) (λ x lo hi. refl) c.loop-done.invariant.none (λ y d. c.in_default.ensures y d) x (omega arith);
}

pub returns : goal.returns
returns c = λ n d. c.loop-done.invariant.none n (omega arith) d
