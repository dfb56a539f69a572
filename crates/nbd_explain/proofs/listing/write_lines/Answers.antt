use Rattle.nbd_explain.proofs.{Common.{◌≡◌, length, arith, rules}, FateLemmas.{all_lines, next_line}}
use Rattle.nbd_explain.proofs.listing.write_lines.Goals as goal

pub loop-place-preserved : goal.loop-place-preserved
loop-place-preserved g c =
    let count : c.len.result ≡ length c.args.fates.items = search rules in
    let within : c.len-place-end.result ≡ length c.args.fates.items = search rules in
    λ messages is. next_line messages c.args.fates.items c.len.result c.loop-place.place c.index-fate.result.now (g.W.Write.contents c.args.out.now)
    (g.W.Write.contents c.loop-place.out) (g.W.Write.contents c.write_line.new.out) is count (omega (arith, count, within, c.loop-place-test.true)) c.index-fate.ensures
    (c.loop-place.invariant messages is) c.in_ok-write_line.ensures.appends

pub returns-clause-appends : goal.returns-clause-appends
returns-clause-appends g c =
    let within : c.len-place-end.result ≡ length c.args.fates.items = search rules in
    λ messages is. all_lines messages c.args.fates.items c.len-place-end.result c.loop-place.place (g.W.Write.contents c.args.out.now) (g.W.Write.contents c.loop-place.out) is within
    (omega (arith, c.loop-place-test.false)) (c.loop-place.invariant messages is)
