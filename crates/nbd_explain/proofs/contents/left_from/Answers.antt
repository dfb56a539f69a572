use Rattle.std.specs.Option.{option_map}
use Rattle.nbd_wire.specs.Prelude.{Start, start_byte, FitsImage, effect, effects, IsWrong, asked_at}
use Rattle.nbd_wire.specs.declared.verdict.Verdict.{Verdict, TheVariants.{Yes, Wire, Image, Order, Content, Status}}
use Rattle.nbd_judge.specs.{Beginnings.initial_of, Images.IsOtherSize, Verdicts.IsVerdict}
use Rattle.nbd_order.specs.{Leaving.IsLeft, declared.leaving.Left.{Left, TheVariants.{Contents, NoExport, Refused}}}
use Rattle.nbd_explain.proofs.Common.{◌≡◌, ℕ, zero, suc, List, [], Option, Some, None, Result, Ok, Err, IfOk, refl, subst, sym, ◌∙◌, rules, Entry, Profile, Asked, Report, no_export}
use Rattle.nbd_explain.specs.internal.Leaving.{IsLeftBy, entries_of}
use Rattle.nbd_explain.proofs.contents.left_from.Goals as goal
use Rattle.nbd_explain.proofs.contents.left_from.Goals.{in-Whole-default, in-Longer-None}

none_at : (k : ℕ) (asked : List Asked) → asked ≡ [] → asked_at k asked ≡ None
none_at zero asked e = refl
none_at (suc k) asked e = subst (λ l. asked_at (suc k) l ≡ None) (sym e) refl

-- where there is no request no entry serves a wrong byte
nobody_wrong : (r : Report) → r.asked ≡ [] → (order : List Entry) (byte : ℕ → Option ℕ) (i x : ℕ) → IsWrong (effects r) order byte i x → ⊥
nobody_wrong r nobody order byte i x wrong =
    let none : option_map effect None ≡ Some wrong.2.0 = subst (λ o. option_map effect o ≡ Some wrong.2.0) (none_at wrong.0.request r.asked nobody) wrong.2.1 in cc

module _ (profile : Profile) (r : Report) (order : List Entry) (one other : Start) (none : r.export ≡ None) (nobody : r.asked ≡ []) where
  fits : FitsImage r.export other
  fits = subst (λ o. FitsImage o other) (sym none) tt

  -- without an export a verdict does not hang on the start
  same_verdict : (v : Verdict) → IsVerdict profile r order one v → IsVerdict profile r order other v
  same_verdict (Image image size) h = absurd (subst (λ o. IsOtherSize o one image size) none h)
  same_verdict (Wire at fault) h = h
  same_verdict (Yes requests answered improper) h =
      (fits, (h.1.0, (λ i x wrong. nobody_wrong r nobody order (start_byte other) i x wrong), h.1.2, h.1.3, h.1.4))
  same_verdict (Order entry fault) h = (fits, h.1)
  same_verdict (Content request offset) h = absurd (nobody_wrong r nobody order (start_byte one) h.1.1.0.0 offset h.1.1.0.5.0)
  same_verdict (Status request offset) h = absurd (nobody_wrong r nobody order (start_byte one) h.1.1.0.0 offset h.1.1.0.5.0)

  -- and so does what is left
  same_left : (left : Left) → IsLeft profile r order one left → IsLeft profile r order other left
  same_left (Contents contents) h = absurd (let q : None ≡ Some h.1.0 = sym none ∙ h.1.1 in cc)
  same_left NoExport h = ((h.0.0, same_verdict h.0.0 h.0.1, h.0.2), h.1)
  same_left (Refused v) h = (same_verdict v h.0, h.1)

of_each : {E : Type 0} (P Q : Left → Type 0) (o : Result Left E) → ((left : Left) → P left → Q left) → IfOk o P → IfOk o Q
of_each P Q (Ok left) f h = f left h
of_each P Q (Err e) f h = tt

pub returns-in-Some : goal.returns-in-Some
returns-in-Some c = elim c.match-start.branch [
  | in-Whole-default w ↦ search rules
  | in-Longer-None w ↦
      let r = c.args.transcript.now in
      let none : r.export ≡ None = no_export r.export (sym w.in-Longer-None.is-1 ∙ c.export.ensures.export) in
      of_each _ _ c.left_by.result
      (λ left h initial is_read. subst (λ o. IsLeftBy c.args.profile r (entries_of o) initial left) (sym c.in-Some.is)
      (same_left c.args.profile r c.in-Some.order.items (initial_of c.match-start.start) initial none (c.export.ensures.facts.none none) left
      (subst (λ es. IsLeft c.args.profile r es (initial_of c.match-start.start) left) c.deref.ensures.value h)))
      c.left_by.ensures
]
