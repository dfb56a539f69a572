use Rattle.std.proofs.{Common.OnErr, lemmas.List.Concat.flat_map-append}
use Rattle.std.specs.Vec.Iter.{into_iter_items}
use Rattle.nbd_explain.proofs.Common.{◌≡◌, ℕ, List, [], ◌∷◌, ◌++◌, Option, Result, Ok, Err, sym, ap, subst, ◌∙◌, append_assoc, Appends, Appends-trans, AppendsPrefix, Message, message_lines, prefix_then, then_prefix}
use Rattle.nbd_lines.specs.Script.{shown_line}
use Rattle.nbd_explain.proofs.show.write_messages.Goals as goal

-- the lines of some messages, and that of one more
one_more : (old mid new : Option (List ℕ)) (done : List Message) (m : Message) → Appends old mid (message_lines done)
    → Appends mid new (message_lines (m ∷ [])) → Appends old new (message_lines (done ++ m ∷ []))
one_more old mid new done m past more =
    subst (Appends old new) (sym (flat_map-append shown_line done (m ∷ [])))
    (Appends-trans old mid new (message_lines done) (message_lines (m ∷ [])) past more)

-- a fault in that of one more
stopped_in : (old mid new : Option (List ℕ)) (all done rest : List Message) (m : Message) → done ++ m ∷ rest ≡ all
    → Appends old mid (message_lines done) → AppendsPrefix mid new (message_lines (m ∷ [])) → AppendsPrefix old new (message_lines all)
stopped_in old mid new all done rest m e past more =
    subst (AppendsPrefix old new) (sym (flat_map-append shown_line done (m ∷ rest)) ∙ ap message_lines e)
    (then_prefix old mid new (message_lines done) (message_lines (m ∷ rest)) past
    (subst (AppendsPrefix mid new) (sym (flat_map-append shown_line (m ∷ []) rest)) (prefix_then mid new (message_lines (m ∷ [])) (message_lines rest) more)))

pub loop-message-preserved : goal.loop-message-preserved
loop-message-preserved g c =
    let at = c.loop-message in
    let steps : into_iter_items at.message-iterator ≡ c.in-Some.message ∷ into_iter_items c.next.new.self = c.in-Some.ensures.steps.0 in (
      tt,
      tt,
      append_assoc at.yielded (c.in-Some.message ∷ []) _ ∙ rw (← steps) at.invariant.2,
      one_more _ (g.W.Write.contents at.out) _ at.yielded c.in-Some.message at.invariant.3 c.in_ok-show_by.ensures.ok,
    )

-- what holds however the lines were written
after_all : {A E : Type 0} (P : Type 0) (o : Result A E) → P → OnErr o P
after_all P (Ok a) p = tt
after_all P (Err e) p = p

pub returns-in_err-show_by-clause-err : goal.returns-in_err-show_by-clause-err
returns-in_err-show_by-clause-err g c =
    let at = c.loop-message in
    let steps : into_iter_items at.message-iterator ≡ c.in-Some.message ∷ into_iter_items c.next.new.self = c.in-Some.ensures.steps.0 in
    after_all _ c.from_residual.result
    (stopped_in _ (g.W.Write.contents at.out) _ c.args.messages.items at.yielded (into_iter_items c.next.new.self) c.in-Some.message
    (rw (← steps) at.invariant.2) at.invariant.3 c.in_err-show_by.ensures.err)
