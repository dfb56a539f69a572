use Rattle.nbd_session.proofs.{Common.{◌++◌, ◌∙◌, ap, arith, subst, drop, take, option_to_list, past_of, stretch_bytes, stretches_of, take-append-drop, Adds, SessionView, bytes_taken, pairs_of, session_view}, judge.PieceLemmas.stands_open, pushed.LogLemmas.{added_more, logged_closed, logged_more, noted_as, stretches_within}}
use Rattle.nbd_session.proofs.session.Session.step.Goals as goal

pub invariant_of-self : goal.invariant_of-self
invariant_of-self c =
    logged_closed c.self.inside.monitor c.self.inside.log c.reserve.new.self c.reserve.ensures.same c.self.invariant (ap (λ (r : SessionView). r.closed) c.self.view_is ∙ c.requires.open)

pub add-requires-clause-fits : goal.add-requires-clause-fits
add-requires-clause-fits c =
    let within = stretches_within c.args.side (session_view c.self.inside.monitor c.self.inside.log) c.self.invariant.stretches in
    let same = ap (λ xs. stretch_bytes c.args.side (stretches_of xs)) c.reserve.ensures.same.1 in
    let taken = ap bytes_taken c.self.view_is in
    let fits = c.requires.fits in
    let count = c.step-count.ensures.within in
    omega (arith, within, same, taken, fits, count)

pub invariant_of-self-2 : goal.invariant_of-self-2
invariant_of-self-2 c =
    let more = take c.step-count.result.0 c.args.left.now in
    let unclosed = ap (λ (r : SessionView). r.closed) c.self.view_is ∙ c.requires.open in
    logged_more c.self.inside.monitor c.step-count.new.self c.self.inside.log c.add.new.self c.args.side more c.step-count.result.1 c.self.invariant
    (c.step-count.ensures.kept (past_of (session_view c.self.inside.monitor c.self.inside.log)) (stands_open c.self.inside.monitor _ c.self.invariant.follows.kept unclosed))
    (c.add.ensures.messages ∙ ap (λ ms. ms ++ option_to_list c.step-count.result.1) c.reserve.ensures.same.0)
    (noted_as c.args.side c.step-count.result.0 c.args.left.now _ _ _ c.step-count.ensures.within c.reserve.ensures.same.1 c.add.ensures.stretches)

pub returns-clause-adds : goal.returns-clause-adds
returns-clause-adds c =
    let more = take c.step-count.result.0 c.args.left.now in
    let unclosed = ap (λ (r : SessionView). r.closed) c.self.view_is ∙ c.requires.open in
    let new : SessionView = session_view c.step-count.new.self c.add.new.self in
    subst (λ (r : SessionView). Adds (pairs_of r) (pairs_of new) r.messages new.messages c.args.side c.args.left.now (drop c.step-count.result.0 c.args.left.now)) c.self.view_is
    (added_more c.self.inside.monitor c.step-count.new.self c.self.inside.log c.add.new.self c.args.side more c.step-count.result.1 c.self.invariant
    (c.step-count.ensures.kept (past_of (session_view c.self.inside.monitor c.self.inside.log)) (stands_open c.self.inside.monitor _ c.self.invariant.follows.kept unclosed))
    (c.add.ensures.messages ∙ ap (λ ms. ms ++ option_to_list c.step-count.result.1) c.reserve.ensures.same.0)
    (noted_as c.args.side c.step-count.result.0 c.args.left.now _ _ _ c.step-count.ensures.within c.reserve.ensures.same.1 c.add.ensures.stretches)
    c.args.left.now (drop c.step-count.result.0 c.args.left.now) (take-append-drop c.step-count.result.0 c.args.left.now))
