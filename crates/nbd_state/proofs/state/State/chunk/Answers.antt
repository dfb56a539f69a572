use Rattle.nbd_state.proofs.{Common.{rules, ◌<◌, ◌∙◌, ◌&&◌, ◌==◌, ap, length, refl, sym, subst, None, slice_set, place_at, chunk_of, State, in_force, status_in, is_allocation_told, if◌then◌else◌}, HeadLemmas.{chunk_cookie, chunk_ends}, CompletionLemmas.{counted_now, indexed, on_one, replied_shows, size_fits}, TellingLemmas.tells_at}
use Rattle.nbd_state.proofs.state.State.chunk.Goals as goal

pub returns-clause-shown : goal.returns-clause-shown
returns-clause-shown c = on_one c.take_chunk.result (λ _ taken core export r s p.
    let state = c.args.self.now in
    let mid = c.end_if.new.self in
    let place = c.args.place in
    let x = c.index_mut.result.now in
    replied_shows state mid _ core export c.args.head.now.cookie place (chunk_of c.args.head.now c.args.payload.now) x c.take_chunk.new.self r s p (chunk_cookie c.args.head.now.flags c.args.head.now.kind c.args.head.now.cookie c.args.payload.now c.args.head.now.at)
    c.requires.place
    (indexed state mid place x c.end_if.ensures.kept (subst (λ (z : State). place < length z.exchanges.items) (sym c.end_if.ensures.kept) c.requires.within) c.index_mut.ensures.value)
    (λ e q x u.
    let t = taken export e x u (size_fits core export r p) (c.is_allocation_told-zeroes.ensures core s ∙ ap (λ p. is_allocation_told (in_force core) (status_in (chunk_of c.args.head.now p))) c.as_slice.ensures ∙ ap (λ cs. is_allocation_told cs (status_in (chunk_of c.args.head.now c.args.payload.now))) (sym q)) in
    (t.0, counted_now e state.exchanges.items (search rules) t.1))
    c.end_if.ensures.kept
    (λ q. c.end_if.ensures.left q ∙ ap (λ b. if b && (c.args.head.now.cookie == q) then None else place_at c.args.self.now.outstanding q) (c.has.ensures ∙ sym (chunk_ends c.args.head.now.flags c.args.head.now.kind c.args.head.now.cookie c.args.payload.now c.args.head.now.at))) refl
    (ap (λ (z : State). slice_set z.exchanges.items place c.take_chunk.new.self) c.end_if.ensures.kept))
    c.take_chunk.ensures.taken

pub returns-clause-tells : goal.returns-clause-tells
returns-clause-tells c = on_one c.take_chunk.result (λ _ first.
    let state = c.args.self.now in
    let mid = c.end_if.new.self in
    let place = c.args.place in
    let x = c.index_mut.result.now in
    tells_at (place_at state.outstanding c.args.head.now.cookie) c.args.known place state.exchanges.items (slice_set mid.exchanges.items place c.take_chunk.new.self) x c.take_chunk.new.self
    c.requires.place
    (indexed state mid place x c.end_if.ensures.kept (subst (λ (z : State). place < length z.exchanges.items) (sym c.end_if.ensures.kept) c.requires.within) c.index_mut.ensures.value)
    first
    (ap (λ (z : State). slice_set z.exchanges.items place c.take_chunk.new.self) c.end_if.ensures.kept))
    c.take_chunk.ensures.first
