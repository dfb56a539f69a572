use Rattle.nbd_state.proofs.{Common.{◌∙◌, ap, refl, sym, Simple, ends_reply, is_failing, piece_of, simple_piece}, RecordingLemmas.weaken}
use Rattle.nbd_state.proofs.asked.Exchange.take_simple.Goals as goal

pub returns-clause-taken : goal.returns-clause-taken
unfolding ends_reply is_failing piece_of
returns-clause-taken c = weaken c.take.result (λ x taken export e cookie s u.
    taken export e (Simple c.args.error cookie c.args.payload.now) s u refl refl (sym (c.in_ok-piece.ensures ∙ ap (λ o. simple_piece o c.args.payload.now) s.offset)) refl)
    c.take.ensures.taken
