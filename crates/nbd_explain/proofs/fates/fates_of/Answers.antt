use Rattle.nbd_explain.proofs.Common.{◌≡◌, ◌∙◌, ◌∷◌, ◌++◌, ◌+◌, ◌-◌, ◌<◌, ℕ, List, [], length, drop, sym, ap, subst, arith, drop_more, Message, AreReplies, fate, fates_behind}
use Rattle.nbd_explain.proofs.fates.fates_of.Goals as goal

pub loop-behind-preserved : goal.loop-behind-preserved
loop-behind-preserved c =
    let ms : List Message = c.args.messages.now in
    let b : ℕ = c.loop-behind.behind in
    let m : Message = c.index-messages-messages.result in
    let later : List Message = drop (length ms - b) ms in
    let at : b < length ms = c.loop-behind-test.true in
    let place : length ms - 1 - b + 1 ≡ length ms - b = omega (arith, at) in
    let before : length ms - (b + 1) ≡ length ms - 1 - b = omega (arith, at) in
    let split : drop (length ms - (b + 1)) ms ≡ m ∷ later =
    ap (λ i. drop i ms) before ∙ drop_more ms (length ms - 1 - b) m (omega (arith, at))
    ∙ ap (λ (x : Message). x ∷ drop (length ms - 1 - b + 1) ms) (sym c.index-messages-messages.is) ∙ ap (λ i. m ∷ drop i ms) place in
    record {
      fates = c.in_ok-push.ensures.items ∙ ap (λ f. c.loop-behind.fates.items ++ (f ∷ [])) (c.fate_of.ensures later c.loop-behind.invariant.replies)
          ∙ ap (λ fs. fs ++ (fate m later ∷ [])) c.loop-behind.invariant.fates ∙ ap fates_behind (sym split);
      replies = subst (λ (l : List Message). AreReplies l c.note.new.replies) (sym split) (c.in_ok-note.ensures later c.loop-behind.invariant.replies);
    }
