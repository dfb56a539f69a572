use Rattle.nbd_lines.proofs.Common.{arith, ◌≡◌, err_from_is_err_and, encode_lower}
use Rattle.nbd_capture.proofs.WriterLemmas.{broken_off, in_lower_case, nothing_yet, one_more}
use Rattle.nbd_lines.proofs.chunk_writing.write_digits.Goals as goal

pub loop-rest-init : goal.loop-rest-init
loop-rest-init g c = nothing_yet encode_lower in_lower_case (g.W.Write.contents c.args.out.now) c.args.bytes.now

pub returns-in_err-write_whole-clause-err : goal.returns-in_err-write_whole-clause-err
returns-in_err-write_whole-clause-err g c =
    let p = err_from_is_err_and c.from_residual.result c.from_residual.ensures.1 in
    let written : c.encode_to_slice.new.output ≡ encode_lower c.split_at.result.0.now = rw c.unwrap.ensures at c.encode_to_slice.ensures.written in
    rw p.1 (broken_off encode_lower in_lower_case _ (g.W.Write.contents c.loop-rest.out) _ c.args.bytes.now c.loop-rest.rest.now c.split_at.result.0.now c.split_at.result.1.now
    c.loop-rest.invariant c.split_at.ensures.by_index.0 (rw written at c.in_err-write_whole.ensures.err))

pub loop-rest-preserved : goal.loop-rest-preserved
loop-rest-preserved g c = grind (arith, one_more, in_lower_case)
