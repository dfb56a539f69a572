use Rattle.nbd_judge.proofs.Common.{◌≡◌, ◌<◌, ℕ, Option, length, Some, None, slice_get, slice_index_or, refl, sym, ◌∙◌, ap, subst, arith, slice_get-get_or, slice_get_within, Entry, Effect, IsWrong, effect, effects, Asked, AreSameBelow, report_of_request, contents_with_effect, IsServable, option_map}
use Rattle.nbd_judge.proofs.{contents.{EffectLemmas.{behind, next, none_through, served}, PartLemmas.well_placed, SortLemmas.kept_sorted}, verdicts.SoundLemmas.servable, replay.first_wrong.Goals.{in-Some+in_ok-found+in_default-found+in_ok-change, in_default}}
use Rattle.nbd_judge.proofs.replay.first_wrong.Goals as goal

pub wrong-requires-clause-sorted : goal.wrong-requires-clause-sorted
wrong-requires-clause-sorted g c =
    let e : Entry = slice_index_or c.args.order.now c.loop-i.i (record { request = 0; part = None }) in
    c.loop-i.invariant.sorted e.request (report_of_request c.in-Some.one.now) (sym c.in-Some.ensures)

pub wrong-requires-clause-servable : goal.wrong-requires-clause-servable
wrong-requires-clause-servable g c =
    let e : Entry = slice_index_or c.args.order.now c.loop-i.i (record { request = 0; part = None }) in
    subst (λ (n : ℕ). IsServable n (report_of_request c.in-Some.one.now)) (sym (c.loop-i.invariant.size ∙ c.requires.sized))
    (servable c.args.transcript.now c.requires.sound e.request (report_of_request c.in-Some.one.now) (sym c.in-Some.ensures))

pub change-requires-clause-servable : goal.change-requires-clause-servable
change-requires-clause-servable g c =
    let e : Entry = slice_index_or c.args.order.now c.loop-i.i (record { request = 0; part = None }) in
    subst (λ (n : ℕ). IsServable n (report_of_request c.in-Some.one.now)) (sym (c.wrong.ensures.size ∙ c.loop-i.invariant.size ∙ c.requires.sized))
    (servable c.args.transcript.now c.requires.sound e.request (report_of_request c.in-Some.one.now) (sym c.in-Some.ensures))

pub change-requires-clause-inside : goal.change-requires-clause-inside
change-requires-clause-inside g c =
    let e : Entry = slice_index_or c.args.order.now c.loop-i.i (record { request = 0; part = None }) in
    well_placed c.args.transcript.now c.args.order.now c.loop-i.i e (slice_get-get_or c.args.order.now c.loop-i.i (record { request = 0; part = None }) c.loop-i-test.true)
    (report_of_request c.in-Some.one.now) (sym c.in-Some.ensures) (c.requires.well c.loop-i.i)

pub returns-in-Some-found-clause-wrong : goal.returns-in-Some-found-clause-wrong
returns-in-Some-found-clause-wrong g c =
    let size : ℕ = g.C.Contents.size c.args.contents.now in
    let requests : ℕ → Option Effect = effects c.args.transcript.now in
    let initial : ℕ → Option ℕ = g.C.Contents.byte c.args.contents.now in
    let now : ℕ → Option ℕ = g.C.Contents.byte c.loop-i.contents in
    let told : Asked = report_of_request c.in-Some.one.now in
    let e : Entry = slice_index_or c.args.order.now c.loop-i.i (record { request = 0; part = None }) in
    let here : slice_get c.args.order.now c.loop-i.i ≡ Some e = slice_get-get_or c.args.order.now c.loop-i.i (record { request = 0; part = None }) c.loop-i-test.true in
    let sound : IsServable size told = subst (λ (n : ℕ). IsServable n told) (sym c.requires.sized) (servable c.args.transcript.now c.requires.sound e.request told (sym c.in-Some.ensures)) in
    let at : requests e.request ≡ Some (effect told) = ap (option_map effect) (sym c.in-Some.ensures) in
    let least = served size requests c.args.order.now initial now c.loop-i.i e here c.loop-i.invariant.bytes told at sound (Some c.in-Some-found.offset) (rw c.in-Some-found.is at c.in_ok-found.ensures.least) in
    (c.loop-i.i, e, here, refl, ((c.in-Some-found.offset, least.0), c.loop-i.invariant.none), least)

pub loop-i-preserved : goal.loop-i-preserved
loop-i-preserved g c =
    let size : ℕ = g.C.Contents.size c.args.contents.now in
    let requests : ℕ → Option Effect = effects c.args.transcript.now in
    let initial : ℕ → Option ℕ = g.C.Contents.byte c.args.contents.now in
    let now : ℕ → Option ℕ = g.C.Contents.byte c.loop-i.contents in
    let e : Entry = slice_index_or c.args.order.now c.loop-i.i (record { request = 0; part = None }) in
    let here : slice_get c.args.order.now c.loop-i.i ≡ Some e = slice_get-get_or c.args.order.now c.loop-i.i (record { request = 0; part = None }) c.loop-i-test.true in
    elim c.match-asked.branch [
      | in-Some+in_ok-found+in_default-found+in_ok-change w ↦
          (let told : Asked = report_of_request w.in-Some.one.now in
          let sound : IsServable size told = subst (λ (n : ℕ). IsServable n told) (sym c.requires.sized) (servable c.args.transcript.now c.requires.sound e.request told (sym w.in-Some.ensures)) in
          let at : requests e.request ≡ Some (effect told) = ap (option_map effect) (sym w.in-Some.ensures) in
          let after : ℕ → Option ℕ = g.C.Contents.byte w.change.new.contents in
          let done : AreSameBelow size after (contents_with_effect e.part (Some (effect told)) now) =
          subst (λ (n : ℕ). AreSameBelow n after (contents_with_effect e.part (Some (effect told)) now)) (w.wrong.ensures.size ∙ c.loop-i.invariant.size)
          (subst (λ (f : ℕ → Option ℕ). AreSameBelow (g.C.Contents.size w.wrong.new.contents) after (contents_with_effect e.part (Some (effect told)) f)) w.wrong.ensures.bytes w.in_ok-change.ensures.done) in
          let none : (x : ℕ) → IsWrong requests c.args.order.now initial c.loop-i.i x → ⊥ =
          served size requests c.args.order.now initial now c.loop-i.i e here c.loop-i.invariant.bytes told at sound None (rw w.in_default-found.is at w.in_ok-found.ensures.least) in
          record {
            size = ap g.C.Contents.size w.contents-is ∙ w.change.ensures.size ∙ w.wrong.ensures.size ∙ c.loop-i.invariant.size;
            bytes = λ x l. ap (λ s. g.C.Contents.byte s x) w.contents-is
                ∙ next size requests c.args.order.now initial now c.loop-i.i e here c.loop-i.invariant.bytes after
                (subst (λ (o : Option Effect). AreSameBelow size after (contents_with_effect e.part o now)) (sym at) done) x l;
            sorted = λ k a at. rw w.reads-is (kept_sorted c.loop-i.reads w.wrong.new.reads c.args.transcript.now.asked e.request told (sym w.in-Some.ensures) w.in_ok-found.ensures.sorted c.loop-i.invariant.sorted k a at);
            none = none_through c.args.transcript.now c.args.order.now initial c.loop-i.i c.loop-i.invariant.none none;
          })
      | in_default w ↦
          (let at : requests e.request ≡ None = ap (option_map effect) (sym w.in_default.ensures) in
          record {
            size = ap g.C.Contents.size w.contents-is ∙ c.loop-i.invariant.size;
            bytes = λ x l. ap (λ s. g.C.Contents.byte s x) w.contents-is
                ∙ next size requests c.args.order.now initial now c.loop-i.i e here c.loop-i.invariant.bytes now
                (subst (λ (o : Option Effect). AreSameBelow size now (contents_with_effect e.part o now)) (sym at) (λ y m. refl)) x l;
            sorted = λ k a at. rw w.reads-is (c.loop-i.invariant.sorted k a at);
            none = none_through c.args.transcript.now c.args.order.now initial c.loop-i.i c.loop-i.invariant.none
                (λ x h. (let d : h.0 ≡ e = (let q : Some h.0 ≡ Some e = sym h.1 ∙ here in cc) in
                let r : requests e.request ≡ Some h.2.0 = ap (λ (y : Entry). requests y.request) (sym d) ∙ h.2.1 in
                let q : None ≡ Some h.2.0 = sym at ∙ r in absurd (cc)));
          })
    ]

pub returns-clause-wrong : goal.returns-clause-wrong
returns-clause-wrong g c = λ i h. c.loop-i.invariant.none i (let l : i < length c.args.order.now = slice_get_within c.args.order.now i h.1.0 h.1.1 in omega arith) h

pub returns-clause-left : goal.returns-clause-left
returns-clause-left g c = λ e. (
  c.loop-i.invariant.size,
  λ x l. c.loop-i.invariant.bytes x l
      ∙ behind (effects c.args.transcript.now) c.args.order.now (g.C.Contents.byte c.args.contents.now) c.loop-i.i x c.loop-i-test.false,
)
