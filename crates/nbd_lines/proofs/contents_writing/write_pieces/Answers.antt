use Rattle.nbd_lines.proofs.{Common.{◌≡◌, ◌++◌, ◌-◌, ◌≤◌, ◌∙◌, List, ℕ, [], ap, arith, append-nil, err_from_is_err_and, on_err_weaker, length-take-le, subst, sym, take, piece_lines, Appends, AppendsPrefix}, UnwrittenLemmas.{Left, all_written, at_the_end, bytes_follow, more_bytes, none_left, run_broken, run_ended, run_goes_on, unwritten, with_next}}
use Rattle.nbd_capture.proofs.WriterLemmas.{broken_off, nothing_yet, one_more, plainly}
use Rattle.nbd_lines.specs.internal.{left, run_line}
use Rattle.nbd_export.specs.{Extents.{byte_of, size_of}, declared.kind.Kind.TheVariants.Bytes, contracts.kind.Kind.the_type}
use Rattle.std.proofs.{Common.rules, lemmas.Result.on_ok_weaker}
use denote.Enum.Bare.{same_false, same_true}
use Rattle.nbd_lines.proofs.contents_writing.write_pieces.Goals as goal

pub loop-at-init : goal.loop-at-init
loop-at-init g c = grind (arith, nothing_yet, plainly)

pub returns-in_err-from-clause-err : goal.returns-in_err-from-clause-err
returns-in_err-from-clause-err g c =
    let p = err_from_is_err_and c.from_residual.result c.from_residual.ensures.1 in
    let end = c.piece_at-next.result.1 in
    let at = c.loop-at.at in
    let behind = c.piece_at-next.ensures.behind in
    rw p.1 (run_broken (g.W.Write.contents c.args.out.now) (g.W.Write.contents c.loop-at.out) (g.W.Write.contents c.write_before.new.out) (piece_lines 0 (left c.args.contents.now 0))
    c.loop-at.kind c.piece_at-next.result.0 c.loop-at.from at end (take (end - at) c.piece_at-next.new.buffer) (left c.args.contents.now at) (left c.args.contents.now end)
    c.loop-at.invariant.begun behind (λ e. length-take-le (end - at) c.piece_at-next.new.buffer (let few = c.piece_at-next.ensures.few e in omega arith)) c.piece_at-next.ensures.piece c.loop-at.invariant.wrote c.in_err-from.ensures.err)

pub returns-in_err-write_bytes-clause-err : goal.returns-in_err-write_bytes-clause-err
returns-in_err-write_bytes-clause-err g c =
    let p = err_from_is_err_and c.from_residual-in_err-write_bytes.result c.from_residual-in_err-write_bytes.ensures.1 in
    let end = c.piece_at-next.result.1 in
    let at = c.loop-at.at in
    let old = g.W.Write.contents c.args.out.now in
    let mid = g.W.Write.contents c.write_before.new.out in
    let new = g.W.Write.contents c.write_bytes.new.out in
    let all = piece_lines 0 (left c.args.contents.now 0) in
    let bytes = take (end - at) c.piece_at-next.new.buffer in
    let past = run_ended old (g.W.Write.contents c.loop-at.out) mid all c.loop-at.kind c.piece_at-next.result.0 c.loop-at.from at end c.in_ok-from.from bytes (left c.args.contents.now at) (left c.args.contents.now end)
    c.loop-at.invariant.begun c.piece_at-next.ensures.behind (λ e. length-take-le (end - at) c.piece_at-next.new.buffer (let few = c.piece_at-next.ensures.few e in omega arith)) c.piece_at-next.ensures.piece c.loop-at.invariant.wrote c.in_ok-from.ensures.same c.in_ok-from.ensures.other in
    rw p.1 (broken_off (λ (bytes : List ℕ). bytes) plainly old mid new all (with_next c.piece_at-next.result.0 c.in_ok-from.from at end bytes (left c.args.contents.now end)) _ _ past.1
    (bytes_follow c.piece_at-next.result.0 c.in_ok-from.from at end bytes (left c.args.contents.now end) (same_true the_type (search rules) c.piece_at-next.result.0 Bytes (sym c.if-eq.ensures))) c.in_err-write_bytes.ensures.err)

pub loop-at-preserved-in_ok-write_bytes : goal.loop-at-preserved-in_ok-write_bytes
loop-at-preserved-in_ok-write_bytes g c =
    let end = c.piece_at-next.result.1 in
    let at = c.loop-at.at in
    let old = g.W.Write.contents c.args.out.now in
    let mid = g.W.Write.contents c.write_before.new.out in
    let new = g.W.Write.contents c.write_bytes.new.out in
    let all = piece_lines 0 (left c.args.contents.now 0) in
    let bytes = take (end - at) c.piece_at-next.new.buffer in
    let past = run_ended old (g.W.Write.contents c.loop-at.out) mid all c.loop-at.kind c.piece_at-next.result.0 c.loop-at.from at end c.in_ok-from.from bytes (left c.args.contents.now at) (left c.args.contents.now end)
    c.loop-at.invariant.begun c.piece_at-next.ensures.behind (λ e. length-take-le (end - at) c.piece_at-next.new.buffer (let few = c.piece_at-next.ensures.few e in omega arith)) c.piece_at-next.ensures.piece c.loop-at.invariant.wrote c.in_ok-from.ensures.same c.in_ok-from.ensures.other in
    let begun = past.0 in
    let behind = c.piece_at-next.ensures.behind in
    record {
      begun = omega (arith, begun, behind);
      within = c.piece_at-next.ensures.within;
      bytes = more_bytes (byte_of c.args.contents.now) at end c.loop-at.invariant.bytes c.piece_at-next.ensures.bytes;
      wrote = one_more (λ (bytes : List ℕ). bytes) plainly old mid new all (with_next c.piece_at-next.result.0 c.in_ok-from.from at end bytes (left c.args.contents.now end)) _ _ past.1
          (bytes_follow c.piece_at-next.result.0 c.in_ok-from.from at end bytes (left c.args.contents.now end) (same_true the_type (search rules) c.piece_at-next.result.0 Bytes (sym c.if-eq.ensures))) c.in_ok-write_bytes.ensures.ok;
    }

pub loop-at-preserved : goal.loop-at-preserved
loop-at-preserved g c =
    let end = c.piece_at-next.result.1 in
    let at = c.loop-at.at in
    let old = g.W.Write.contents c.args.out.now in
    let mid = g.W.Write.contents c.write_before.new.out in
    let all = piece_lines 0 (left c.args.contents.now 0) in
    let bytes = take (end - at) c.piece_at-next.new.buffer in
    let past = run_ended old (g.W.Write.contents c.loop-at.out) mid all c.loop-at.kind c.piece_at-next.result.0 c.loop-at.from at end c.in_ok-from.from bytes (left c.args.contents.now at) (left c.args.contents.now end)
    c.loop-at.invariant.begun c.piece_at-next.ensures.behind (λ e. length-take-le (end - at) c.piece_at-next.new.buffer (let few = c.piece_at-next.ensures.few e in omega arith)) c.piece_at-next.ensures.piece c.loop-at.invariant.wrote c.in_ok-from.ensures.same c.in_ok-from.ensures.other in
    let begun = past.0 in
    let behind = c.piece_at-next.ensures.behind in
    record {
      begun = omega (arith, begun, behind);
      within = c.piece_at-next.ensures.within;
      bytes = more_bytes (byte_of c.args.contents.now) at end c.loop-at.invariant.bytes c.piece_at-next.ensures.bytes;
      wrote = subst (Left old mid all) (run_goes_on c.piece_at-next.result.0 c.in_ok-from.from at end bytes (left c.args.contents.now end) (same_false the_type c.piece_at-next.result.0 Bytes (sym c.if-eq.ensures))) past.1;
    }

pub returns-clause-ok : goal.returns-clause-ok
returns-clause-ok g c =
    let f = byte_of c.args.contents.now in
    let at = c.loop-at.at in
    let le : size_of c.args.contents.now ≤ at = (let size = c.size-size.ensures in let stop = c.loop-at-test.false in omega (arith, size, stop)) in
    let text : unwritten c.loop-at.kind c.loop-at.from at (left c.args.contents.now at) ≡ run_line c.loop-at.kind c.loop-at.from (at - c.loop-at.from) ++ [] =
    ap (unwritten c.loop-at.kind c.loop-at.from at) (none_left f (size_of c.args.contents.now) at le) ∙ at_the_end c.loop-at.kind c.loop-at.from at ∙ sym (append-nil (run_line c.loop-at.kind c.loop-at.from (at - c.loop-at.from))) in
    on_ok_weaker c.write_run.result
    (λ (line : Appends (g.W.Write.contents c.loop-at.out) (g.W.Write.contents c.write_run.new.out) (run_line c.loop-at.kind c.loop-at.from (at - c.loop-at.from))).
    all_written (g.W.Write.contents c.args.out.now) (g.W.Write.contents c.write_run.new.out) (piece_lines 0 (left c.args.contents.now 0))
    (one_more (λ (bytes : List ℕ). bytes) plainly (g.W.Write.contents c.args.out.now) (g.W.Write.contents c.loop-at.out) (g.W.Write.contents c.write_run.new.out) (piece_lines 0 (left c.args.contents.now 0)) _ _ [] c.loop-at.invariant.wrote text line))
    c.write_run.ensures.ok

pub returns-clause-err : goal.returns-clause-err
returns-clause-err g c =
    let f = byte_of c.args.contents.now in
    let at = c.loop-at.at in
    let le : size_of c.args.contents.now ≤ at = (let size = c.size-size.ensures in let stop = c.loop-at-test.false in omega (arith, size, stop)) in
    let text : unwritten c.loop-at.kind c.loop-at.from at (left c.args.contents.now at) ≡ run_line c.loop-at.kind c.loop-at.from (at - c.loop-at.from) ++ [] =
    ap (unwritten c.loop-at.kind c.loop-at.from at) (none_left f (size_of c.args.contents.now) at le) ∙ at_the_end c.loop-at.kind c.loop-at.from at ∙ sym (append-nil (run_line c.loop-at.kind c.loop-at.from (at - c.loop-at.from))) in
    on_err_weaker c.write_run.result
    (λ (line : AppendsPrefix (g.W.Write.contents c.loop-at.out) (g.W.Write.contents c.write_run.new.out) (run_line c.loop-at.kind c.loop-at.from (at - c.loop-at.from))).
    broken_off (λ (bytes : List ℕ). bytes) plainly (g.W.Write.contents c.args.out.now) (g.W.Write.contents c.loop-at.out) (g.W.Write.contents c.write_run.new.out) (piece_lines 0 (left c.args.contents.now 0)) _ _ [] c.loop-at.invariant.wrote text line)
    c.write_run.ensures.err

pub returns-clause-bytes : goal.returns-clause-bytes
returns-clause-bytes g c = on_ok_weaker c.write_run.result (λ _. λ x lo hi. c.loop-at.invariant.bytes x lo (let size = c.size-size.ensures in let stop = c.loop-at-test.false in omega (arith, size, stop, hi))) c.write_run.ensures.ok
