use Rattle.nbd_state.proofs.{Common.{arith, ap, refl, subst, sym, ◌∙◌, MayAsk, MayComplete, MayTake, Shows, chunk_of, complete, cookie_of}, CompletionLemmas.on, HeadLemmas.chunk_cookie, PhaseLemmas.{answered_chunk, answered_simple, chunk_completes, chunked_in, request_completes, request_transmits, requested_in, shows_exported, shows_flags, shows_greeted, shows_same, simple_in}, TellingLemmas.known_told}
use Rattle.nbd_state.specs.Places.{request_of}
use Rattle.nbd_state.proofs.state.State.complete.Goals as goal

pub request-requires : goal.request-requires
request-requires c = request_transmits c.args.self.now c.args.message.now c.in-Some.head c.in-Some.payload.now c.requires.may c.in-Some.ensures

pub returns-in-Some-clause-shown : goal.returns-in-Some-clause-shown
returns-in-Some-clause-shown c = on c.request.result (λ f core r s sn ok.
    let head = c.in-Some.head in
    let payload = c.in-Some.payload.now in
    let a = requested_in core core.phase head payload (subst (λ m. MayComplete core core.phase m) c.in-Some.ensures ok) in
    shows_same core c.args.message.now (request_of head payload) c.in-Some.ensures
    (subst (Shows c.request.new.self) (sym (request_completes core head payload)) (f core a.0 s a.1 (λ d. subst (λ b. MayAsk b core head.cookie head.offset head.length) d a.2))))
    c.request.ensures.shown

pub chunk-requires-clause-within : goal.chunk-requires-clause-within
chunk-requires-clause-within c =
    let q = c.in-Some-chunk_in in
    answered_chunk c.args.self.now c.args.message.now q.head q.payload.now c.args.place c.requires.may q.ensures.0
    (c.requires.place q.head.cookie (ap cookie_of q.ensures.0 ∙ chunk_cookie q.head.flags q.head.kind q.head.cookie q.payload.now q.head.at))

pub returns-in-Some-chunk_in-clause-shown : goal.returns-in-Some-chunk_in-clause-shown
returns-in-Some-chunk_in-clause-shown c = on c.chunk.result (λ f core r s sn ok.
    let q = c.in-Some-chunk_in in
    let a = chunked_in core core.phase q.head q.payload.now (subst (λ m. MayComplete core core.phase m) q.ensures.0 ok) in
    shows_same core c.args.message.now (chunk_of q.head q.payload.now) q.ensures.0
    (subst (Shows c.chunk.new.self) (sym (chunk_completes core q.head q.payload.now)) (f core a.0 r s a.1)))
    c.chunk.ensures.shown

pub returns-in-Some-chunk_in-clause-known : goal.returns-in-Some-chunk_in-clause-known
returns-in-Some-chunk_in-clause-known c = on c.chunk.result (λ tells core before r s h.
    let q = c.in-Some-chunk_in in
    known_told core c.args.message.now c.args.known before c.args.self.now q.head.cookie c.chunk.new.self.exchanges.items s
    (ap cookie_of q.ensures.0 ∙ chunk_cookie q.head.flags q.head.kind q.head.cookie q.payload.now q.head.at) tells h)
    c.chunk.ensures.tells

pub simple-requires-clause-within : goal.simple-requires-clause-within
simple-requires-clause-within c =
    answered_simple c.args.self.now c.in-Simple.error c.in-Simple.cookie c.in-Simple.payload c.args.place (subst (MayTake c.args.self.now) c.in-Simple.is c.requires.may)
    (c.requires.place c.in-Simple.cookie (ap cookie_of c.in-Simple.is))

pub returns-in-Greeting-clause-shown : goal.returns-in-Greeting-clause-shown
returns-in-Greeting-clause-shown c = λ core r s sn ok.
    shows_same core c.args.message.now _ c.in-Greeting.is
    (shows_greeted c.args.self.now _ core s c.in-Greeting.flags (subst (λ m. MayComplete core core.phase m) c.in-Greeting.is ok) refl)

pub returns-in-ClientFlags-clause-shown : goal.returns-in-ClientFlags-clause-shown
returns-in-ClientFlags-clause-shown c = λ core r s sn ok.
    shows_same core c.args.message.now _ c.in-ClientFlags.is
    (shows_flags c.args.self.now _ core s c.in-ClientFlags.flags (subst (λ m. MayComplete core core.phase m) c.in-ClientFlags.is ok) refl)

pub returns-in-Exported-clause-shown : goal.returns-in-Exported-clause-shown
returns-in-Exported-clause-shown c = λ core r s sn ok.
    shows_same core c.args.message.now _ c.in-Exported.is
    (shows_exported c.args.self.now _ core s c.in-Exported.size c.in-Exported.flags c.in-Exported.padded _ (subst (λ m. MayComplete core core.phase m) c.in-Exported.is ok) refl refl)

pub returns-in-Simple-clause-shown : goal.returns-in-Simple-clause-shown
unfolding complete
returns-in-Simple-clause-shown c = grind (arith, on, simple_in, shows_same)

pub returns-in-Simple-clause-known : goal.returns-in-Simple-clause-known
returns-in-Simple-clause-known c = on c.simple.result (λ tells core before r s h.
    known_told core c.args.message.now c.args.known before c.args.self.now c.in-Simple.cookie c.simple.new.self.exchanges.items s (ap cookie_of c.in-Simple.is) tells h)
    c.simple.ensures.tells
