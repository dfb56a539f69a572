use Rattle.nbd_session.proofs.{Common.{refl, rules, sym, ◌∙◌, true, false, same_Some, NotFixedNewstyle, BadClientFlags}, expecting.NegotiationLemmas.{bad_client_flags, flags_fault, good_client_flags}, parsing.LeadingLemmas.leading_client_flags-is}
use Rattle.nbd_session.proofs.negotiation.client_flags.Goals as goal

pub unwrap-flags-requires : goal.unwrap-flags-requires
unwrap-flags-requires c =
    let head = c.args.head.now in
    rw (leading_client_flags-is head c.type_inv.head c.client_flags_head.result c.requires c.client_flags_head.ensures) (search rules)

pub returns-then-not-has_wide-clause-refused : goal.returns-then-not-has_wide-clause-refused
returns-then-not-has_wide-clause-refused c =
    let head = c.args.head.now in
    bad_client_flags head c.args.offered c.unwrap-flags.result NotFixedNewstyle
    (same_Some _ _ (sym c.unwrap-flags.ensures ∙ leading_client_flags-is head c.type_inv.head c.client_flags_head.result c.requires c.client_flags_head.ensures))
    (flags_fault c.args.offered c.unwrap-flags.result false _ (sym c.has_wide.ensures ∙ c.if-not-has_wide.true) refl)

pub returns-then-sets_more-clause-refused : goal.returns-then-sets_more-clause-refused
returns-then-sets_more-clause-refused c =
    let head = c.args.head.now in
    bad_client_flags head c.args.offered c.unwrap-flags.result BadClientFlags
    (same_Some _ _ (sym c.unwrap-flags.ensures ∙ leading_client_flags-is head c.type_inv.head c.client_flags_head.result c.requires c.client_flags_head.ensures))
    (flags_fault c.args.offered c.unwrap-flags.result true true (sym c.has_wide.ensures ∙ c.if-not-has_wide.false) (sym c.sets_more.ensures ∙ c.if-sets_more.true))

pub returns-clause-expected : goal.returns-clause-expected
returns-clause-expected c = λ now payload.
    let head = c.args.head.now in
    good_client_flags head payload c.args.offered c.unwrap-flags.result now c.requires
    (same_Some _ _ (sym c.unwrap-flags.ensures ∙ leading_client_flags-is head c.type_inv.head c.client_flags_head.result c.requires c.client_flags_head.ensures))
    (flags_fault c.args.offered c.unwrap-flags.result true false (sym c.has_wide.ensures ∙ c.if-not-has_wide.false) (sym c.sets_more.ensures ∙ c.if-sets_more.false))
