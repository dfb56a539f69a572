use Rattle.nbd_lines.proofs.Common.{◌∷◌, ◌++◌, [], Appends, err_from_is_err_and, on_err_weaker, encode_lower, line_feed, letter, space, AppendsPrefix}
use Rattle.nbd_capture.proofs.WriterLemmas.{prefix_then, then_prefix}
use Rattle.nbd_lines.proofs.chunk_writing.write_chunk.Goals as goal

pub returns-in_err-write_whole-clause-err : goal.returns-in_err-write_whole-clause-err
returns-in_err-write_whole-clause-err g c =
    let p = err_from_is_err_and c.from_residual.result c.from_residual.ensures.1 in
    let head : AppendsPrefix (g.W.Write.contents c.args.out.now) (g.W.Write.contents c.write_whole.new.out) (letter c.args.side ∷ space ∷ []) = rw c.letter_of.ensures at c.in_err-write_whole.ensures.err in
    rw p.1 (prefix_then _ _ (letter c.args.side ∷ space ∷ []) (encode_lower c.args.bytes.now ++ line_feed ∷ []) head)

pub returns-in_err-write_digits-clause-err : goal.returns-in_err-write_digits-clause-err
returns-in_err-write_digits-clause-err g c =
    let p = err_from_is_err_and c.from_residual-in_err-write_digits.result c.from_residual-in_err-write_digits.ensures.1 in
    let head : Appends (g.W.Write.contents c.args.out.now) (g.W.Write.contents c.write_whole.new.out) (letter c.args.side ∷ space ∷ []) = rw c.letter_of.ensures at c.in_ok-write_whole.ensures.ok in
    rw p.1 (then_prefix _ (g.W.Write.contents c.write_whole.new.out) _ (letter c.args.side ∷ space ∷ []) (encode_lower c.args.bytes.now ++ line_feed ∷ []) head
    (prefix_then _ _ (encode_lower c.args.bytes.now) (line_feed ∷ []) c.in_err-write_digits.ensures.err))

pub returns-clause-err : goal.returns-clause-err
returns-clause-err g c =
    let head : Appends (g.W.Write.contents c.args.out.now) (g.W.Write.contents c.write_whole.new.out) (letter c.args.side ∷ space ∷ []) = rw c.letter_of.ensures at c.in_ok-write_whole.ensures.ok in
    on_err_weaker c.write_whole-2.result
    (λ (end : AppendsPrefix (g.W.Write.contents c.write_digits.new.out) (g.W.Write.contents c.write_whole-2.new.out) (line_feed ∷ [])).
    then_prefix _ (g.W.Write.contents c.write_whole.new.out) _ (letter c.args.side ∷ space ∷ []) (encode_lower c.args.bytes.now ++ line_feed ∷ []) head
    (then_prefix _ (g.W.Write.contents c.write_digits.new.out) _ (encode_lower c.args.bytes.now) (line_feed ∷ []) c.in_ok-write_digits.ensures.ok end))
    c.write_whole-2.ensures.err
