use Rattle.nbd_session.proofs.{Common.{sym, subst, None, Some, Wire, IsExpecting, IsKept, Knows, completed}, judge.PieceLemmas.kept, steps.{ConcludeLemmas.{head_missing, head_shut, is_expecting}, HoldingLemmas.same_if_expected}}
use Rattle.nbd_session.proofs.monitor.Monitor.settle.Goals as goal

pub conclude-requires : goal.conclude-requires
conclude-requires c = (
  c.requires.0,
  subst (λ h. IsExpecting h c.args.side c.in-Ok-Some.expected c.requires.0) (sym c.note_expected.ensures)
      (is_expecting c.args.self.now c.args.side c.in-Ok-Some.expected c.requires.0 c.requires.1 (subst (Knows c.args.self.now c.args.side) c.in-Ok-Some.field-0-is c.in-Ok-Some.ensures.known)),
)

pub returns-in-Ok-Some-clause-kept : goal.returns-in-Ok-Some-clause-kept
returns-in-Ok-Some-clause-kept c = λ past t.
    c.conclude.ensures.kept past (subst (λ h. IsExpecting h c.args.side c.in-Ok-Some.expected past) (sym c.note_expected.ensures)
    (is_expecting c.args.self.now c.args.side c.in-Ok-Some.expected past t (subst (Knows c.args.self.now c.args.side) c.in-Ok-Some.field-0-is c.in-Ok-Some.ensures.known)))

pub returns-in-Ok-None-clause-kept : goal.returns-in-Ok-None-clause-kept
returns-in-Ok-None-clause-kept c = λ past t.
    subst (λ h. IsKept h past) (sym (same_if_expected c.args.self.now c.args.side None (c.in-Ok-None.ensures.none c.in-Ok-None.field-0-is)))
    (kept _ past (head_missing c.args.self.now c.args.side past t (subst (Knows c.args.self.now c.args.side) c.in-Ok-None.field-0-is c.in-Ok-None.ensures.known)))

pub returns-in-Err-clause-kept : goal.returns-in-Err-clause-kept
returns-in-Err-clause-kept c = λ past t.
    subst (λ held. IsKept held (completed past c.refuse.result)) (sym c.refuse.ensures.closed)
    (subst (λ m. IsKept (record c.args.self.now { closed = Some (Wire c.args.self.now.taken c.in-Err.fault) }) (completed past m)) (sym c.refuse.ensures.none)
    (head_shut c.args.self.now c.args.side past t c.in-Err.fault c.in-Err.ensures.refused (Some (Wire c.args.self.now.taken c.in-Err.fault))))
