use Rattle.nbd_session.proofs.{Common.{◌≤◌, ◌<◌, ◌∙◌, sym, subst, length, Some, Wire, IsKept, completed}, judge.PieceLemmas.kept, steps.ConcludeLemmas.{refused_at_end, stands_in, still_missing, whole_at_end}}
use Rattle.nbd_session.proofs.monitor.Monitor.conclude.Goals as goal

pub returns-then-payload-payload_length-clause-kept : goal.returns-then-payload-payload_length-clause-kept
returns-then-payload-payload_length-clause-kept c = λ past e.
    kept c.args.self.now past (still_missing c.args.self.now c.args.side c.args.expected past e c.payload-payload.result.now (cc)
    (subst (λ n. length c.payload-payload.result.now < n) c.payload_length.ensures c.if-payload-payload_length.true))

pub last_fault-requires : goal.last_fault-requires
last_fault-requires c =
    let e = c.requires.1 in
    stands_in c.args.self.now.state e.taken.reader.core e.taken.shows c.args.expected e.is.placed

pub returns-in-Some-clause-kept : goal.returns-in-Some-clause-kept
returns-in-Some-clause-kept c = λ past e.
    let shut = refused_at_end c.args.self.now c.args.side c.args.expected past e c.payload-payload.result.now (cc)
    (subst (λ n. n ≤ length c.payload-payload.result.now) c.payload_length.ensures c.if-payload-payload_length.false) c.in-Some.fault
    (λ core s. sym c.in-Some.is ∙ c.last_fault.ensures core s) (Some (Wire c.args.self.now.taken c.in-Some.fault)) in
    subst (λ held. IsKept held (completed past c.refuse.result)) (sym c.refuse.ensures.closed)
    (subst (λ m. IsKept (record c.args.self.now { closed = Some (Wire c.args.self.now.taken c.in-Some.fault) }) (completed past m)) (sym c.refuse.ensures.none) shut)

pub accept-requires : goal.accept-requires
accept-requires c = (
  c.requires.0,
  whole_at_end c.args.self.now c.args.side c.args.expected c.requires.0 c.requires.1 c.payload-payload.result.now (cc)
      (subst (λ n. n ≤ length c.payload-payload.result.now) c.payload_length.ensures c.if-payload-payload_length.false)
      (λ core s. sym c.in-None.is ∙ c.last_fault.ensures core s),
)

pub returns-in-None-clause-kept : goal.returns-in-None-clause-kept
returns-in-None-clause-kept c = λ past e.
    c.accept.ensures.kept past (whole_at_end c.args.self.now c.args.side c.args.expected past e c.payload-payload.result.now (cc)
    (subst (λ n. n ≤ length c.payload-payload.result.now) c.payload_length.ensures c.if-payload-payload_length.false)
    (λ core s. sym c.in-None.is ∙ c.last_fault.ensures core s))
