use Rattle.nbd_explain.proofs.{Common.{IfOk, subst, ◌≡◌}, OrderingLemmas.several_line}
use Rattle.nbd_explain.proofs.ordering.unexplained.Goals as goal

pub returns-then-reads-ne1 : goal.returns-then-reads-ne1
returns-then-reads-ne1 c =
    subst (λ line. IfOk c.format.result (λ text. text.bytes.items ≡ line)) (several_line c.args.transcript.now c.args.reads.now c.args.offset c.if-reads-ne1.true) (rw c.in_ok-reads.ensures at c.format.ensures.ok)
