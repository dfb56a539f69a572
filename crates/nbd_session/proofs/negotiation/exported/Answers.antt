use Rattle.nbd_session.proofs.{Common.{rules, refl, sym, ◌∙◌, ap, not, true, false, same_Some, BadExport, ExportTooLarge, has, Exported, expected_decision, lt-ltb, le-ltb}, expecting.NegotiationLemmas.{bad_export, fault_of_export, good_export}, parsing.LeadingLemmas.leading_export-is}
use Rattle.nbd_wire.specs.declared.handshake.TheConstants as handshake
use Rattle.nbd_session.proofs.negotiation.exported.Goals as goal

pub unwrap-size-requires : goal.unwrap-size-requires
unwrap-size-requires c =
    let head = c.args.head.now in
    rw (leading_export-is head c.type_inv.head c.export_head.result c.requires c.export_head.ensures) (search rules)

pub returns-then-not-has-clause-refused : goal.returns-then-not-has-clause-refused
returns-then-not-has-clause-refused c =
    let head = c.args.head.now in
    let e = same_Some _ _ (sym c.unwrap-size.ensures ∙ leading_export-is head c.type_inv.head c.export_head.result c.requires c.export_head.ensures) in
    bad_export head (has c.args.client_flags handshake.C_NO_ZEROES) c.unwrap-size.result.0 c.unwrap-size.result.1 BadExport (ap (λ x. x.0) e) (ap (λ x. x.1) e)
    (fault_of_export c.unwrap-size.result.0 c.unwrap-size.result.1 false _ (sym c.has.ensures ∙ c.if-not-has.true) refl)

pub returns-then-size-gt-EXPORT_SIZE-clause-refused : goal.returns-then-size-gt-EXPORT_SIZE-clause-refused
returns-then-size-gt-EXPORT_SIZE-clause-refused c =
    let head = c.args.head.now in
    let e = same_Some _ _ (sym c.unwrap-size.ensures ∙ leading_export-is head c.type_inv.head c.export_head.result c.requires c.export_head.ensures) in
    bad_export head (has c.args.client_flags handshake.C_NO_ZEROES) c.unwrap-size.result.0 c.unwrap-size.result.1 ExportTooLarge (ap (λ x. x.0) e) (ap (λ x. x.1) e)
    (fault_of_export c.unwrap-size.result.0 c.unwrap-size.result.1 true true (sym c.has.ensures ∙ c.if-not-has.false) (lt-ltb _ _ c.if-size-gt-EXPORT_SIZE.true))

pub returns-clause-expected : goal.returns-clause-expected
returns-clause-expected c = λ now payload.
    let head = c.args.head.now in
    let e = same_Some _ _ (sym c.unwrap-size.ensures ∙ leading_export-is head c.type_inv.head c.export_head.result c.requires c.export_head.ensures) in
    good_export head payload (has c.args.client_flags handshake.C_NO_ZEROES) c.unwrap-size.result.0 c.unwrap-size.result.1 now c.requires (ap (λ x. x.0) e) (ap (λ x. x.1) e)
    (fault_of_export c.unwrap-size.result.0 c.unwrap-size.result.1 true false (sym c.has.ensures ∙ c.if-not-has.false) (le-ltb _ _ c.if-size-gt-EXPORT_SIZE.false))
    ∙ ap (λ z. expected_decision now (Exported c.unwrap-size.result.0 c.unwrap-size.result.1 (not z)) 10 payload) (sym c.has_wide-padded.ensures)
