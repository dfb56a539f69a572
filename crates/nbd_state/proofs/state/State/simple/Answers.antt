use Rattle.nbd_state.proofs.{Common.{rules, ◌<◌, ap, length, refl, sym, subst, slice_set, place_at, Simple, ends_reply, State}, CompletionLemmas.{counted_now, indexed, on_one, replied_shows}, TellingLemmas.tells_at}
use Rattle.nbd_state.proofs.state.State.simple.Goals as goal

pub returns-clause-shown : goal.returns-clause-shown
unfolding ends_reply
returns-clause-shown c = on_one c.take_simple.result (λ _ taken core export r s p.
    let state = c.args.self.now in
    let mid = c.end_if.new.self in
    let place = c.args.place in
    let x = c.index_mut.result.now in
    replied_shows state mid _ core export c.args.cookie place (Simple c.args.error c.args.cookie c.args.payload.now) x c.take_simple.new.self r s p refl
    c.requires.place
    (indexed state mid place x c.end_if.ensures.kept (subst (λ (z : State). place < length z.exchanges.items) (sym c.end_if.ensures.kept) c.requires.within) c.index_mut.ensures.value)
    (λ e q x u. let t = taken export e c.args.cookie x u in (t.0, counted_now e state.exchanges.items (search rules) t.1))
    c.end_if.ensures.kept
    c.end_if.ensures.left refl
    (ap (λ (z : State). slice_set z.exchanges.items place c.take_simple.new.self) c.end_if.ensures.kept))
    c.take_simple.ensures.taken

pub returns-clause-tells : goal.returns-clause-tells
returns-clause-tells c = on_one c.take_simple.result (λ _ first.
    let state = c.args.self.now in
    let mid = c.end_if.new.self in
    let place = c.args.place in
    let x = c.index_mut.result.now in
    tells_at (place_at state.outstanding c.args.cookie) c.args.known place state.exchanges.items (slice_set mid.exchanges.items place c.take_simple.new.self) x c.take_simple.new.self
    c.requires.place
    (indexed state mid place x c.end_if.ensures.kept (subst (λ (z : State). place < length z.exchanges.items) (sym c.end_if.ensures.kept) c.requires.within) c.index_mut.ensures.value)
    first
    (ap (λ (z : State). slice_set z.exchanges.items place c.take_simple.new.self) c.end_if.ensures.kept))
    c.take_simple.ensures.first
