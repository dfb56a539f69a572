use Rattle.nbd_session.proofs.{Common.{◌≡◌, ◌+◌, ◌∙◌, ap, arith, fold, min, rules, zero-add, piece_size, total}, judge.ChunkFaultLemmas.fold-total}
use Rattle.nbd_session.proofs.spans.bytes_in.Goals as goal

pub returns : goal.returns
returns c =
    let pieces = c.args.pieces.now in
    let folded : c.fold.result ≡ fold (λ sum p. min (sum + piece_size p) 340282366920938463463374607431768211455) 0 pieces = search rules in
    folded ∙ fold-total 340282366920938463463374607431768211455 0 pieces (omega arith) ∙ ap (λ n. min n 340282366920938463463374607431768211455) (zero-add (total pieces))
