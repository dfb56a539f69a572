use Rattle.nbd_session.proofs.{Common.{arith, ◌∙◌, ap, sym, subst, IncomingView, IsFormFound, IsHeadRefused}, expecting.FormLemmas.{found_length}, steps.{ConcludeLemmas.{head_refused, head_whole, knows_again, knows_expected, knows_short, turn_refused}, SettleLemmas.{handed_on}}}
use Rattle.nbd_session.proofs.monitor.Monitor.told.Goals as goal

pub returns-in-Some-clause-known : goal.returns-in-Some-clause-known
returns-in-Some-clause-known c = grind (arith, knows_again)

pub returns-in_default-form_of-clause-refused : goal.returns-in_default-form_of-clause-refused
returns-in_default-form_of-clause-refused c =
    turn_refused c.args.self.now c.args.side c.head-head.result.now (c.head-head.ensures ∙ ap (λ (v : IncomingView). v.head) c.incoming-incoming.ensures) (ap (λ (v : IncomingView). v.expected) (sym c.incoming-incoming.ensures) ∙ sym c.expected.ensures ∙ c.in_default.is)
    (subst (IsFormFound c.args.self.now.state c.args.side c.head-head.result.now) c.in_default-form_of.is c.form_of.ensures)

pub returns-then-head-length-clause-known : goal.returns-then-head-length-clause-known
returns-then-head-length-clause-known c =
    let known = found_length c.args.self.now.state c.args.side c.head-head.result.now c.form_of.result c.in-Some-form_of.form c.form_of.ensures c.in-Some-form_of.is c.length.result c.length.ensures.is in
    knows_short c.args.self.now c.args.side c.head-head.result.now (c.head-head.ensures ∙ ap (λ (v : IncomingView). v.head) c.incoming-incoming.ensures) (ap (λ (v : IncomingView). v.expected) (sym c.incoming-incoming.ensures) ∙ sym c.expected.ensures ∙ c.in_default.is) c.length.result known c.if-head-length.true

pub decide-requires : goal.decide-requires
decide-requires c =
    let known = found_length c.args.self.now.state c.args.side c.head-head.result.now c.form_of.result c.in-Some-form_of.form c.form_of.ensures c.in-Some-form_of.is c.length.result c.length.ensures.is in
    record {
      form = (c.args.side, subst (IsFormFound c.args.self.now.state c.args.side c.head-head.result.now) c.in-Some-form_of.is c.form_of.ensures);
      whole = head_whole c.args.self.now c.args.side c.head-head.result.now (c.head-head.ensures ∙ ap (λ (v : IncomingView). v.head) c.incoming-incoming.ensures) (ap (λ (v : IncomingView). v.expected) (sym c.incoming-incoming.ensures) ∙ sym c.expected.ensures ∙ c.in_default.is) c.length.result known c.requires.0 c.requires.1 c.if-head-length.false
          ∙ c.length.ensures.is;
    }

pub returns-in_err-decide-clause-refused : goal.returns-in_err-decide-clause-refused
returns-in_err-decide-clause-refused c =
    handed_on _ c.from_residual.result c.in_err-decide.field-0.0 (IsHeadRefused c.args.self.now c.args.side) c.from_residual.ensures.1
    (head_refused c.args.self.now c.args.side c.head-head.result.now (c.head-head.ensures ∙ ap (λ (v : IncomingView). v.head) c.incoming-incoming.ensures) (ap (λ (v : IncomingView). v.expected) (sym c.incoming-incoming.ensures) ∙ sym c.expected.ensures ∙ c.in_default.is) c.in_err-decide.field-0.0
    (c.in_err-decide.ensures.refused c.args.side (subst (IsFormFound c.args.self.now.state c.args.side c.head-head.result.now) c.in-Some-form_of.is c.form_of.ensures)))

pub returns-clause-known : goal.returns-clause-known
returns-clause-known c =
    knows_expected c.args.self.now c.args.side c.head-head.result.now (c.head-head.ensures ∙ ap (λ (v : IncomingView). v.head) c.incoming-incoming.ensures) (ap (λ (v : IncomingView). v.expected) (sym c.incoming-incoming.ensures) ∙ sym c.expected.ensures ∙ c.in_default.is) c.in_ok-decide.field-0
    (c.in_ok-decide.ensures.expected c.args.side (subst (IsFormFound c.args.self.now.state c.args.side c.head-head.result.now) c.in-Some-form_of.is c.form_of.ensures)) c.in_ok-decide.ensures.placed

pub returns-then-head-length-clause-none : goal.returns-then-head-length-clause-none
returns-then-head-length-clause-none c = λ e. ap (λ (v : IncomingView). v.expected) (sym c.incoming-incoming.ensures) ∙ sym c.expected.ensures ∙ c.in_default.is
