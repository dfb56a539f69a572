use Rattle.nbd_state.proofs.{Common.{not-true, ℕ, ◌≡◌, ◌==◌, ◌∙◌, [], Some, ap, false, if◌then◌else◌, length, not, sym, true, ids_of, Asks, filter_of_head, HasSelection}, FilterLemmas.{asks_same, needs_contexts}, RecordingLemmas.weaken, selection.Selection.asking.Goals.{then-in_force, else-in_force}}
use Rattle.nbd_wire.specs.protocol.Contexts as contexts
use Rattle.nbd_state.proofs.selection.Selection.asking.Goals as goal

pub returns-in-Some : goal.returns-in-Some
returns-in-Some c = weaken c.asking_with.result (λ asking (f : (selection : contexts.Selection) (len : ℕ) → HasSelection c.args.self.now selection → (length selection.contexts == 0) ≡ false → Asks c.args.flags selection.contexts (Some (record { length = c.in-Some.range; ids = ids_of c.in-Some.ids.now })) len asking) selection s.
    let has_contexts = c.if-in_force.has_contexts in
    let is : filter_of_head has_contexts c.args.head.now c.args.payload.now ≡ Some (record { length = c.in-Some.range; ids = ids_of c.in-Some.ids.now }) = sym c.in-Some.ensures in
    let needed : has_contexts ≡ true = needs_contexts has_contexts c.args.head.now c.args.payload.now _ is in
    elim c.if-in_force.branch [
      | then-in_force w ↦ (
          let cs = selection.contexts in
          let there : cs ≡ (if c.args.in_force then cs else []) = ap (λ b. if b then cs else []) (sym w.if-in_force.true) in
          let some : not (length cs == 0) ≡ has_contexts = sym (w.has_contexts-is ∙ ap not (w.is_empty.ensures selection s)) in
          let full : (length cs == 0) ≡ false = not-true (length cs == 0) (some ∙ needed) in
          asks_same c.args.flags cs _ _ _ c.args.head.now.length asking there (sym is ∙ ap (λ b. filter_of_head b c.args.head.now c.args.payload.now) (sym some ∙ ap (λ l. not (length l == 0)) there)) (f selection c.args.head.now.length s full))
      | else-in_force w ↦ absurd (let q : false ≡ true = sym w.if-in_force.false ∙ sym w.has_contexts-is ∙ needed in cc)
    ])
    c.asking_with.ensures
