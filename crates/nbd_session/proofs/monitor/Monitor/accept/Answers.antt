use Rattle.nbd_session.proofs.{Common.{◌∙◌, ap, sym, subst, Some, Memory, IsKept, IsShut, Monitor, completed, message_of}, steps.{ConcludeLemmas.where_ok, EmptiedLemmas.{answers, kept_accepted, kept_shut, may}, SettleLemmas.shut_memory}, monitor.Monitor.accept.Goals.{then-is_err, else-is_err}}
use Rattle.nbd_session.proofs.monitor.Monitor.accept.Goals as goal

pub returns-in_default-clause-kept : goal.returns-in_default-clause-kept
returns-in_default-clause-kept c = λ past w.
    subst (λ (h : Monitor). IsShut (record h { closed = Some Memory }) past Memory) (sym c.in_default.ensures.unchanged)
    (shut_memory c.args.self.now c.args.side past w.expecting.taken (Some Memory))

pub complete-requires-clause-may : goal.complete-requires-clause-may
complete-requires-clause-may c =
    may c.args.self.now c.take_payload.new.self c.args.side c.args.expected c.requires.0 c.requires.1 c.message-message.result
    (c.message-message.ensures ∙ ap (message_of c.args.expected) c.in-Ok.ensures.payload) c.in-Ok.ensures.empty

pub complete-requires-clause-place : goal.complete-requires-clause-place
complete-requires-clause-place c =
    answers c.args.self.now c.take_payload.new.self c.args.side c.args.expected c.requires.0 c.requires.1 c.message-message.result
    (c.message-message.ensures ∙ ap (message_of c.args.expected) c.in-Ok.ensures.payload) c.in-Ok.ensures.empty c.place-place.result c.place-place.ensures

pub returns-clause-kept : goal.returns-clause-kept
returns-clause-kept c = λ past w.
    let held = c.args.self.now in
    let is_m = c.message-message.ensures ∙ ap (message_of c.args.expected) c.in-Ok.ensures.payload in
    elim c.if-is_err.branch [
      | then-is_err b ↦ subst (λ (h : Monitor). IsKept h (completed past (Some c.message-message.result))) (sym b.self-is)
          (kept_shut held c.take_payload.new.self c.args.side c.args.expected past w c.message-message.result is_m c.in-Ok.ensures.empty c.complete.new.self c.complete.ensures.profile)
      | else-is_err b ↦
          let ok = sym b.if-is_err.false ∙ c.is_err.ensures.value in
          subst (λ (h : Monitor). IsKept h (completed past (Some c.message-message.result))) (sym b.self-is)
          (kept_accepted held c.take_payload.new.self c.args.side c.args.expected past w c.message-message.result is_m c.in-Ok.ensures.empty c.complete.new.self c.complete.ensures.profile
          (where_ok _ c.complete.result ok c.complete.ensures.shown) (where_ok _ c.complete.result ok c.complete.ensures.known))
    ]
