use Rattle.nbd_session.proofs.{Common.{◌≡◌, ◌∙◌, ap, sym, subst, length, length-append, arith, None, IncomingView, IsFormFound, incoming_of}, expecting.FormLemmas.{found_length}, steps.{HoldingLemmas.{rest_is}, MissingLemmas.{bare, first_is_missing, head_is_missing, payload_missing}}}
use Rattle.nbd_session.proofs.monitor.Monitor.missing.Goals as goal

pub overflow_sub-result : goal.overflow_sub-result
overflow_sub-result c =
    let p = ap length (c.payload.ensures ∙ ap (λ (v : IncomingView). v.payload) c.incoming-incoming.ensures) in
    let m = (payload_missing c.args.self.now c.requires.0 c.args.side c.requires.1 c.in-Some.expected (ap (λ (v : IncomingView). v.expected) (sym c.incoming-incoming.ensures) ∙ sym c.expected.ensures ∙ c.in-Some.is)).0 in
    omega (arith, m, p)

pub overflow_sub-result-in-Some-form_of : goal.overflow_sub-result-in-Some-form_of
overflow_sub-result-in-Some-form_of c =
    let none : (incoming_of c.args.self.now c.args.side).expected ≡ None = ap (λ (v : IncomingView). v.expected) (sym c.incoming-incoming.ensures) ∙ sym c.expected.ensures ∙ c.in_default.is in
    let is = c.head-head.ensures ∙ ap (λ (v : IncomingView). v.head) c.incoming-incoming.ensures in
    let known = found_length c.args.self.now.state c.args.side c.head-head.result.now c.form_of.result c.in-Some-form_of.form c.form_of.ensures c.in-Some-form_of.is c.length.result c.length.ensures.is in
    let m = (head_is_missing c.args.self.now c.requires.0 c.args.side c.requires.1 none c.head-head.result.now c.length.result is known).0 in
    omega (arith, m)

pub returns-in-Some-clause-awaited : goal.returns-in-Some-clause-awaited
returns-in-Some-clause-awaited c = λ past st.
    let p = ap length (c.payload.ensures ∙ ap (λ (v : IncomingView). v.payload) c.incoming-incoming.ensures) in
    let m = payload_missing c.args.self.now past c.args.side st c.in-Some.expected (ap (λ (v : IncomingView). v.expected) (sym c.incoming-incoming.ensures) ∙ sym c.expected.ensures ∙ c.in-Some.is) in
    let rest = ap length (rest_is c.args.self.now past c.args.side) in
    let len = length-append (incoming_of c.args.self.now c.args.side).head (incoming_of c.args.self.now c.args.side).payload in
    omega (arith, m, p, rest, len)

pub returns-in-Some-form_of : goal.returns-in-Some-form_of
returns-in-Some-form_of c =
    let known = found_length c.args.self.now.state c.args.side c.head-head.result.now c.form_of.result c.in-Some-form_of.form c.form_of.ensures c.in-Some-form_of.is c.length.result c.length.ensures.is in
    let is = c.head-head.ensures ∙ ap (λ (v : IncomingView). v.head) c.incoming-incoming.ensures in
    record {
      awaited = λ past st.
          let none : (incoming_of c.args.self.now c.args.side).expected ≡ None = ap (λ (v : IncomingView). v.expected) (sym c.incoming-incoming.ensures) ∙ sym c.expected.ensures ∙ c.in_default.is in
          let m = head_is_missing c.args.self.now past c.args.side st none c.head-head.result.now c.length.result is known in
          let rest = ap length (rest_is c.args.self.now past c.args.side ∙ bare c.args.self.now past c.args.side st none ∙ sym is) in
          omega (arith, m, rest);
      room = λ none.
          let len = ap length is in
          let short = (head_is_missing c.args.self.now c.requires.0 c.args.side c.requires.1 none c.head-head.result.now c.length.result is known).0 in
          omega (arith, short, len, c.length.ensures.fits);
    }

pub returns-in-None : goal.returns-in-None
returns-in-None c =
    let is = c.head-head.ensures ∙ ap (λ (v : IncomingView). v.head) c.incoming-incoming.ensures in
    let bad = subst (IsFormFound c.args.self.now.state c.args.side c.head-head.result.now) c.in-None.is c.form_of.ensures in
    record {
      awaited = λ past st.
          let none : (incoming_of c.args.self.now c.args.side).expected ≡ None = ap (λ (v : IncomingView). v.expected) (sym c.incoming-incoming.ensures) ∙ sym c.expected.ensures ∙ c.in_default.is in
          let m = first_is_missing c.args.self.now past c.args.side st none c.head-head.result.now is bad in
          let rest = ap length (rest_is c.args.self.now past c.args.side ∙ bare c.args.self.now past c.args.side st none ∙ sym is) in
          omega (arith, m, rest);
      room = λ none.
          let len = ap length is in
          let zero = (first_is_missing c.args.self.now c.requires.0 c.args.side c.requires.1 none c.head-head.result.now is bad).1 in
          omega (arith, len, zero);
    }
