use Rattle.nbd_state.proofs.{Common.{ℕ, ◌≡◌, ◌∷◌, ◌==◌, ◌&&◌, ◌||◌, ◌∙◌, ap, arith, length, not, sym, contains, nat_cmp, are_once, has_id, is_among, ids_of}, FilterLemmas.{and_all, and_twice, neither, now_among, once_same, once_step, or_none}, selection.Selection.take_ids.Goals.{then-has_id+in_ok-once, else-has_id}}
use Rattle.nbd_state.proofs.selection.Selection.take_ids.Goals as goal

pub loop-id-init : goal.loop-id-init
loop-id-init c = grind (arith, once_same, and_all)

pub loop-id-smaller : goal.loop-id-smaller
loop-id-smaller c = let one : length (ids_of c.loop-id.rest.now) ≡ length (c.in-Some.id ∷ ids_of c.in-Some.later.now) = ap length c.in-Some.ensures in omega (arith, one)

pub loop-id-preserved : goal.loop-id-preserved
loop-id-preserved c = λ selection s empty.
    let h = c.loop-id.invariant selection s empty in
    let known = c.has_id.ensures selection s in
    let in_force = has_id selection.contexts in
    let old = c.loop-id.asked in
    let once = c.loop-id.once in
    let id = c.in-Some.id in
    let later = ids_of c.in-Some.later.now in
    let new = c.if-has_id.asked in
    let is_new : c.if-has_id.once ≡ (in_force id && not (contains nat_cmp old id)) = elim c.if-has_id.branch [
      | then-has_id+in_ok-once w ↦ grind (arith, known)
      | else-has_id w ↦ grind (arith, known)
    ] in
    let taken : (q : ℕ) → contains nat_cmp new q ≡ ((in_force id && (id == q)) || contains nat_cmp old q) = elim c.if-has_id.branch [
      | then-has_id+in_ok-once w ↦ (λ q. grind (arith, known))
      | else-has_id w ↦ (λ q. grind (arith, known))
    ] in (
      ap (λ b. (once && b) && are_once (λ i. in_force i && not (contains nat_cmp new i)) later) is_new
          ∙ once_step in_force (λ i. in_force i && not (contains nat_cmp old i)) (λ i. in_force i && not (contains nat_cmp new i)) once id later (and_twice (in_force id) (not (contains nat_cmp old id)))
          (λ i. ap (λ b. in_force i && not b) (taken i) ∙ neither (in_force i) (in_force id && (id == i)) (contains nat_cmp old i))
          ∙ ap (λ ids. once && are_once (λ i. in_force i && not (contains nat_cmp old i)) ids) (sym c.in-Some.ensures) ∙ h.0,
      λ q. ap (λ b. b || (in_force q && is_among later q)) (taken q)
          ∙ now_among in_force id q (contains nat_cmp old q) (is_among later q)
          ∙ ap (λ ids. contains nat_cmp old q || (in_force q && is_among ids q)) (sym c.in-Some.ensures) ∙ h.1 q,
    )

pub returns : goal.returns
returns c = λ selection s empty.
    let h = c.loop-id.invariant selection s empty in
    let in_force = has_id selection.contexts in
    let asked = c.loop-id.asked in (
      sym (and_all c.loop-id.once) ∙ ap (λ ids. c.loop-id.once && are_once (λ i. in_force i && not (contains nat_cmp asked i)) ids) (sym c.in_default.ensures) ∙ h.0,
      λ q. sym (or_none (contains nat_cmp asked q) (in_force q)) ∙ ap (λ ids. contains nat_cmp asked q || (in_force q && is_among ids q)) (sym c.in_default.ensures) ∙ h.1 q,
    )
