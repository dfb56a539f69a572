use Rattle.nbd_session.proofs.{Common.{◌++◌, refl, sym, ◌∙◌, ap, subst, Some, BadMagic, same_Some, IsFormOf, form_length, expected_decision, rules}, expecting.{FormLemmas.{in_aborted, in_answer, in_choice, in_client_flags, in_exported, in_greeting, in_reply, in_request, refused_as, reply_length, request_length}, ReplyLemmas.{chunk_decision, chunk_refused, if_err, if_ok, no_reply_bad, reply_to, simple_decision, simple_refused}}, parsing.LeadingLemmas.{leading_simple-is}}
use Rattle.nbd_session.specs.declared.deciding.Form.TheVariants as forms
use Rattle.nbd_session.proofs.deciding.decide.Goals as goal

pub unwrap-requires : goal.unwrap-requires
unwrap-requires c =
    let head = c.args.head.now in
    let f = subst (IsFormOf c.args.state.now c.requires.form.0 head) c.in-Simple.is c.requires.form.1 in
    rw (leading_simple-is head c.type_inv.head c.simple_head.result (c.requires.whole ∙ ap form_length c.in-Simple.is) f.2.1 c.simple_head.ensures) (search rules)

pub returns-in-Greeting-clause-refused : goal.returns-in-Greeting-clause-refused
returns-in-Greeting-clause-refused c =
    let state = c.args.state.now in
    let head = c.args.head.now in
    if_err c.greeting.result _ _ c.greeting.ensures.refused (λ fault bad. refused_as state head c.args.counted _ _ c.in-Greeting.is c.requires.whole fault
    (λ s core shows f. (_, in_greeting state s core shows c.args.counted head head f, refl, bad)))

pub returns-in-ClientFlags-clause-refused : goal.returns-in-ClientFlags-clause-refused
returns-in-ClientFlags-clause-refused c =
    let state = c.args.state.now in
    let head = c.args.head.now in
    if_err c.client_flags.result _ _ c.client_flags.ensures.refused (λ fault bad. refused_as state head c.args.counted _ _ c.in-ClientFlags.is c.requires.whole fault
    (λ s core shows f. (_, in_client_flags state s core shows c.args.counted head head f, refl, bad)))

pub returns-in-Choice-clause-refused : goal.returns-in-Choice-clause-refused
returns-in-Choice-clause-refused c =
    let state = c.args.state.now in
    let head = c.args.head.now in
    if_err c.choice.result _ _ c.choice.ensures.refused (λ fault bad. refused_as state head c.args.counted _ _ c.in-Choice.is c.requires.whole fault
    (λ s core shows f. (_, in_choice state s core shows c.args.counted head head f, refl, bad)))

pub returns-in-Exported-clause-refused : goal.returns-in-Exported-clause-refused
returns-in-Exported-clause-refused c =
    let state = c.args.state.now in
    let head = c.args.head.now in
    if_err c.exported.result _ _ c.exported.ensures.refused (λ fault bad. refused_as state head c.args.counted _ _ c.in-Exported.is c.requires.whole fault
    (λ s core shows f. (_, in_exported state s core shows c.args.counted head head f, refl, bad)))

pub returns-in-Aborted-clause-refused : goal.returns-in-Aborted-clause-refused
returns-in-Aborted-clause-refused c =
    let state = c.args.state.now in
    let head = c.args.head.now in
    if_err c.abort_answer.result _ _ c.abort_answer.ensures.refused (λ fault bad. refused_as state head c.args.counted _ _ c.in-Aborted.is c.requires.whole fault
    (λ s core shows f. (_, in_aborted state s core shows c.args.counted head head f, refl, bad)))

pub returns-in-Answer-clause-refused : goal.returns-in-Answer-clause-refused
returns-in-Answer-clause-refused c =
    let state = c.args.state.now in
    let head = c.args.head.now in
    if_err c.answer.result _ _ c.answer.ensures.refused (λ fault bad. refused_as state head c.args.counted _ _ c.in-Answer.is c.requires.whole fault
    (λ s core shows f. (_, in_answer state s core shows c.args.counted head head c.in-Answer.chosen f, refl, bad core.selection)))

pub returns-in-Request-clause-refused : goal.returns-in-Request-clause-refused
returns-in-Request-clause-refused c =
    let state = c.args.state.now in
    let head = c.args.head.now in
    let x = c.in-Request.extended in
    if_err c.request.result _ _ c.request.ensures.refused (λ fault bad. refused_as state head c.args.counted _ _ c.in-Request.is c.requires.whole fault
    (λ s core shows f. (_, in_request state s core shows c.args.counted head head x f, request_length state s core shows c.args.counted x head, bad core)))

pub returns-in-Reply-clause-refused : goal.returns-in-Reply-clause-refused
returns-in-Reply-clause-refused c =
    let state = c.args.state.now in
    let head = c.args.head.now in
    let counted = c.args.counted in
    refused_as state head counted forms.Reply c.args.form c.in-Reply.is c.requires.whole BadMagic (λ s core shows f.
    let r = in_reply state s core shows counted head head f.0 f.1 in
    (_, r.2, reply_length state s core shows counted state.extended r.0 _ head forms.Reply f.2, no_reply_bad r.0 core counted state.extended head f.2))

pub returns-in-Simple-clause-expected : goal.returns-in-Simple-clause-expected
returns-in-Simple-clause-expected c =
    let state = c.args.state.now in
    let head = c.args.head.now in
    let counted = c.args.counted in
    let whole = c.requires.whole ∙ ap form_length c.in-Simple.is in
    if_ok c.simple.result _ _ c.simple.ensures.expected (λ x o s of core shows payload.
    let f = subst (IsFormOf state s head) c.in-Simple.is of in
    let r = in_reply state s core shows counted head (head ++ payload) f.0 f.1 in
    let is = same_Some _ _ (sym c.unwrap.ensures ∙ leading_simple-is head c.type_inv.head c.simple_head.result whole f.2.1 c.simple_head.ensures) in
    r.2 ∙ (λ i. Some (reply_to r.0 core counted (f.2.0 i) (head ++ payload)))
    ∙ ap Some (simple_decision r.0 core counted head c.unwrap.result f.2.1 whole is payload x r.1 (o core r.0 shows r.1)) ∙ (λ i. Some (expected_decision core x (sym whole i) payload)))

pub returns-in-Simple-clause-placed : goal.returns-in-Simple-clause-placed
returns-in-Simple-clause-placed c =
    let state = c.args.state.now in
    let head = c.args.head.now in
    let counted = c.args.counted in
    let f = subst (IsFormOf state c.requires.form.0 head) c.in-Simple.is c.requires.form.1 in
    if_ok c.simple.result _ _ c.simple.ensures.expected (λ x o core shows. let r = in_reply state c.requires.form.0 core shows counted head head f.0 f.1 in (o core r.0 shows r.1).placed)

pub returns-in-Simple-clause-refused : goal.returns-in-Simple-clause-refused
returns-in-Simple-clause-refused c =
    let state = c.args.state.now in
    let head = c.args.head.now in
    let counted = c.args.counted in
    let whole = c.requires.whole ∙ ap form_length c.in-Simple.is in
    if_err c.simple.result _ _ c.simple.ensures.refused (λ fault bad. refused_as state head counted _ _ c.in-Simple.is c.requires.whole fault (λ s core shows f.
    let r = in_reply state s core shows counted head head f.0 f.1 in
    let is = same_Some _ _ (sym c.unwrap.ensures ∙ leading_simple-is head c.type_inv.head c.simple_head.result whole f.2.1 c.simple_head.ensures) in (
      _,
      r.2,
      reply_length state s core shows counted state.extended r.0 _ head forms.Simple f.2,
      (λ i. (reply_to r.0 core counted (f.2.0 i) head).head_fault) ∙ simple_refused r.0 core counted head c.unwrap.result f.2.1 whole is fault (bad core r.0 shows r.1),
    )))

pub returns-in-Chunk-clause-expected : goal.returns-in-Chunk-clause-expected
returns-in-Chunk-clause-expected c =
    let state = c.args.state.now in
    let head = c.args.head.now in
    let counted = c.args.counted in
    let x = c.in-Chunk.extended in
    let whole = c.requires.whole ∙ ap form_length c.in-Chunk.is in
    if_ok c.chunk.result _ _ c.chunk.ensures.expected (λ y o s of core shows payload.
    let f = subst (IsFormOf state s head) c.in-Chunk.is of in
    let r = in_reply state s core shows counted head (head ++ payload) f.0 f.1 in
    r.2 ∙ (λ i. Some (reply_to r.0 core counted (f.2.0 i) (head ++ payload)))
    ∙ ap Some (chunk_decision r.0 core counted x head c.read_chunk.result f.2.1 whole c.read_chunk.ensures payload y r.1 (o core r.0 shows r.1)))

pub returns-in-Chunk-clause-placed : goal.returns-in-Chunk-clause-placed
returns-in-Chunk-clause-placed c =
    let state = c.args.state.now in
    let head = c.args.head.now in
    let counted = c.args.counted in
    let f = subst (IsFormOf state c.requires.form.0 head) c.in-Chunk.is c.requires.form.1 in
    if_ok c.chunk.result _ _ c.chunk.ensures.expected (λ y o core shows. let r = in_reply state c.requires.form.0 core shows counted head head f.0 f.1 in (o core r.0 shows r.1).placed)

pub returns-in-Chunk-clause-refused : goal.returns-in-Chunk-clause-refused
returns-in-Chunk-clause-refused c =
    let state = c.args.state.now in
    let head = c.args.head.now in
    let counted = c.args.counted in
    let x = c.in-Chunk.extended in
    let whole = c.requires.whole ∙ ap form_length c.in-Chunk.is in
    if_err c.chunk.result _ _ c.chunk.ensures.refused (λ fault bad. refused_as state head counted _ _ c.in-Chunk.is c.requires.whole fault (λ s core shows f.
    let r = in_reply state s core shows counted head head f.0 f.1 in (
      _,
      r.2,
      reply_length state s core shows counted state.extended r.0 _ head (forms.Chunk x) f.2,
      (λ i. (reply_to r.0 core counted (f.2.0 i) head).head_fault) ∙ chunk_refused r.0 core counted x head c.read_chunk.result f.2.1 whole c.read_chunk.ensures fault (bad core r.0 shows r.1),
    )))
