use Rattle.nbd_session.proofs.{Common.{[], arith, sym, subst, take, Monitor, Memory, Some, IsShut, sent}, judge.PieceLemmas.{awaits_some, closed_memory, sent_nothing, took}}
use Rattle.nbd_session.proofs.monitor.Monitor.step.Goals as goal

pub returns-in-Err-clause-kept : goal.returns-in-Err-clause-kept
returns-in-Err-clause-kept c = λ past st.
    subst (λ (h : Monitor). IsShut (record h { closed = Some Memory }) (sent past c.args.side []) Memory) (sym c.in-Err.ensures.unchanged)
    (subst (λ p. IsShut (record c.args.self.now { closed = Some Memory }) p Memory) (sym (sent_nothing past c.args.side)) (closed_memory c.args.self.now past st))

pub settle-requires : goal.settle-requires
settle-requires c =
    let past = c.requires.stands.0 in
    let st = c.requires.stands.1 in (
      sent past c.args.side (take c.min-count.result c.args.left.now),
      took c.args.self.now c.take.new.self past c.args.side c.args.left.now c.missing.result c.min-count.result st c.requires.filled c.type_inv.left
          (c.missing.ensures.awaited past st) c.min-count.ensures c.in-Ok.ensures.incoming c.in-Ok.ensures.counted,
    )

pub returns-in-Ok-clause-some : goal.returns-in-Ok-clause-some
returns-in-Ok-clause-some c = λ unclosed.
    let past = c.requires.stands.0 in
    let st = c.requires.stands.1 in
    let some = awaits_some c.args.self.now past c.args.side c.missing.result st (c.missing.ensures.awaited past st) in
    let filled = c.requires.filled in
    omega (arith, some, filled)

pub returns-in-Ok-clause-kept : goal.returns-in-Ok-clause-kept
returns-in-Ok-clause-kept c = λ past st.
    c.settle.ensures.kept (sent past c.args.side (take c.min-count.result c.args.left.now))
    (took c.args.self.now c.take.new.self past c.args.side c.args.left.now c.missing.result c.min-count.result st c.requires.filled c.type_inv.left
    (c.missing.ensures.awaited past st) c.min-count.ensures c.in-Ok.ensures.incoming c.in-Ok.ensures.counted)
