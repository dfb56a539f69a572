use Rattle.nbd_lines.proofs.{Common.{held, arith, err_from_is_err_and, on_err_weaker, piece_lines, subst, sym, size_line, Appends, AppendsPrefix}, PrintedContentsLemmas.printed_read, UnwrittenLemmas.{are_held, from_0}}
use Rattle.nbd_export.proofs.HeldLemmas.{length-held_from}
use Rattle.nbd_capture.proofs.WriterLemmas.{prefix_then, then_prefix}
use Rattle.nbd_lines.specs.internal.{AreBytes, left}
use Rattle.nbd_export.specs.Extents.{byte_of, size_of}
use Rattle.std.proofs.{KnownBytes.Appends-trans, lemmas.Result.on_ok_weaker}
use Rattle.nbd_lines.proofs.contents_writing.write_contents.Goals as goal

pub returns-in_err-write_size-clause-err : goal.returns-in_err-write_size-clause-err
returns-in_err-write_size-clause-err g c =
    let p = err_from_is_err_and c.from_residual.result c.from_residual.ensures.1 in
    let old = g.W.Write.contents c.args.out.now in
    let new = g.W.Write.contents c.write_size.new.out in
    let size = size_of c.args.contents.now in
    let line : AppendsPrefix old new (size_line size) = subst (λ n. AppendsPrefix old new (size_line n)) c.size.ensures c.in_err-write_size.ensures.err in
    rw p.1 (subst (AppendsPrefix old new) (sym (from_0 (byte_of c.args.contents.now) size)) (prefix_then old new (size_line size) (piece_lines 0 (left c.args.contents.now 0)) line))

pub returns-clause-ok : goal.returns-clause-ok
returns-clause-ok g c =
    let old = g.W.Write.contents c.args.out.now in
    let mid = g.W.Write.contents c.write_size.new.out in
    let new = g.W.Write.contents c.write_pieces.new.out in
    let size = size_of c.args.contents.now in
    let line : Appends old mid (size_line size) = subst (λ n. Appends old mid (size_line n)) c.size.ensures c.in_ok-write_size.ensures.ok in
    on_ok_weaker c.write_pieces.result
    (λ (lines : Appends mid new (piece_lines 0 (left c.args.contents.now 0))). subst (Appends old new) (sym (from_0 (byte_of c.args.contents.now) size)) (Appends-trans old mid new (size_line size) _ line lines))
    c.write_pieces.ensures.ok

pub returns-clause-err : goal.returns-clause-err
returns-clause-err g c =
    let old = g.W.Write.contents c.args.out.now in
    let mid = g.W.Write.contents c.write_size.new.out in
    let new = g.W.Write.contents c.write_pieces.new.out in
    let size = size_of c.args.contents.now in
    let line : Appends old mid (size_line size) = subst (λ n. Appends old mid (size_line n)) c.size.ensures c.in_ok-write_size.ensures.ok in
    on_err_weaker c.write_pieces.result
    (λ (lines : AppendsPrefix mid new (piece_lines 0 (left c.args.contents.now 0))). subst (AppendsPrefix old new) (sym (from_0 (byte_of c.args.contents.now) size)) (then_prefix old mid new (size_line size) (piece_lines 0 (left c.args.contents.now 0)) line lines))
    c.write_pieces.ensures.err

pub returns-clause-read : goal.returns-clause-read
returns-clause-read g c =
    let f = byte_of c.args.contents.now in
    let size = size_of c.args.contents.now in
    on_ok_weaker c.write_pieces.result
    (λ (bytes : AreBytes c.args.contents.now 0 size). λ small. printed_read (held c.args.contents.now) (let len = length-held_from f 0 size in omega (arith, len, small)) (are_held f 0 size (λ x lo hi. bytes x lo (omega (arith, hi)))))
    c.write_pieces.ensures.bytes
