use Rattle.nbd_state.proofs.{Common.{arith, ◌≡◌, [], ◌==◌, refl, sym, subst, false, if◌then◌else◌, length, ne_eqb, not, ◌∙◌, ap, core_with_request, sizes_for, sizes_kept, has_contexts, in_force, Asks, filter_of_head, carried, operation_of_head, IsShown, exporting, Shows}, CompletionLemmas.{added_unanswered, exporting_is, on_all, requested_shows}}
use Rattle.nbd_wire.specs.declared.commands.TheConstants as commands
use Rattle.nbd_state.proofs.state.State.request.Goals as goal

pub returns-clause-shown : goal.returns-clause-shown
returns-clause-shown c = on_all c.add.result (λ items places kept core export s p free.
    let head = c.args.head.now in
    let payload = c.args.payload.now in
    let exchange = c.in_ok-exchange-in-Transmission.exchange in
    let not_disc : (head.command == commands.DISC) ≡ false = ne_eqb head.command commands.DISC c.if-head-eq-DISC.false in
    let same : exporting c.in-Transmission.export ≡ export = exporting_is c.args.self.now core export c.in-Transmission.export s p c.in-Transmission.is in
    let filter = filter_of_head (has_contexts core) head payload in
    let e = operation_of_head head (carried head payload) (in_force core) filter (sizes_for core.structured head.command (sizes_kept core.sizing)) [] in
    let asks : Asks c.in-Transmission.export.flags (in_force core) filter head.length c.in_ok-asking-in-Transmission.asking =
    subst (λ b. Asks c.in-Transmission.export.flags (if b then core.selection.contexts else []) (filter_of_head (not (length (if b then core.selection.contexts else []) == 0)) head payload) head.length c.in_ok-asking-in-Transmission.asking) s.brings_contexts_is
    (subst (λ bytes. Asks c.in-Transmission.export.flags (if c.args.self.now.brings_contexts then core.selection.contexts else []) (filter_of_head (not (length (if c.args.self.now.brings_contexts then core.selection.contexts else []) == 0)) head bytes) head.length c.in_ok-asking-in-Transmission.asking) c.as_slice-bytes.ensures (c.in_ok-asking-in-Transmission.ensures core.selection s.selection_is)) in
    subst (λ b. Shows c.add.new.self (core_with_request b core e)) (sym not_disc)
    (requested_shows c.args.self.now c.add.new.self core export e exchange s p refl refl (free not_disc)
    (subst (λ x. IsShown x e exchange) same (subst (λ z. IsShown (exporting c.in-Transmission.export) (operation_of_head head (carried head payload) (in_force core) filter z []) exchange) (c.sizes_for-sizes.ensures ∙ (λ i. sizes_for (s.structured_is i) head.command ((c.kept.ensures ∙ ap sizes_kept s.sizing_is) i))) (c.in_ok-exchange-in-Transmission.ensures.shown (in_force core) filter asks))) items places kept))
    c.add.ensures.items c.add.ensures.places c.add.ensures.kept

pub returns-clause-adds : goal.returns-clause-adds
returns-clause-adds c = grind (arith, on_all, added_unanswered)
