-- The replies to a request are one simple reply, or chunks of which the last and only the last ends the reply.
use Rattle.nbd_laws.proofs.Common.{and_parts, request_of_reply, option_and_then, arith, ◌≡◌, ℕ, ◌||◌, List, [], ◌∷◌, ◌++◌, refl, sym, ◌∙◌, ap, subst, Option, Some, None, Bool, false, eqb-true, Message, Request, Simple, Chunk, ExtendedRequest, ExtendedChunk, complete, cookie_of, ends_at, operations_of, Operation, Exporting, list_any, ends_reply, is_finished, Core, Phase, Transmission, operation, start, target, with_reply, IsReached, at_start, after_message, IsReplyAfter, IsReplyBetween, RepliesAreWhole, Profile}
use Rattle.nbd_laws.proofs.{judge.{WholeLemmas.allowed, AllowLemmas.{chunk_allow, extended_allow, finish_allow, simple_allow}, PhaseLemmas.{IsFound, find}}, runs.{ProfileLemmas.{at_base, profile_end, profile_stays}, ReachLemmas.run_reaches}, requests.{EachLemmas.{Asks, Each, each_complete, each_entry}, SoundnessLemmas.{InPhase, open_target, sound}}}
unfoldable use Rattle.nbd_laws.proofs.judge.WholeLemmas.{IsAllowed, MayReply}

-- each reply fits where it stands
abbrev AreWhole : Profile → Bool → Operation → List Message → Type 0
AreWhole profile structured e ms = (prefix back : List Message) (m : Message) → ms ≡ prefix ++ m ∷ back → IsReplyBetween profile structured e prefix m back

abbrev IsWhole : Profile → Bool → Operation → Type 0
IsWhole profile structured e = AreWhole profile structured e e.replies

-- where a list with one more message is cut
data IsCut (ms : List Message) (last : Message) (prefix back : List Message) (m : Message) : Type 0 where
  at_last : prefix ≡ ms → m ≡ last → back ≡ [] → IsCut ms last prefix back m
  before_last : (rest : List Message) → ms ≡ prefix ++ m ∷ rest → IsCut ms last prefix back m

cut_at : (ms : List Message) (last : Message) (prefix back : List Message) (m : Message) → ms ++ last ∷ [] ≡ prefix ++ m ∷ back → IsCut ms last prefix back m
cut_at [] last [] [] m e = at_last refl (cc) refl
cut_at [] last [] (x ∷ back) m e = absurd (cc)
cut_at [] last (x ∷ []) back m e = absurd (cc)
cut_at [] last (x ∷ y ∷ prefix) back m e = absurd (cc)
cut_at (n ∷ ms) last [] back m e = (let q : n ≡ m = cc in before_last ms (ap (λ x. x ∷ ms) q))
cut_at (n ∷ ms) last (x ∷ prefix) back m e = go (cut_at ms last prefix back m (cc))
  where
    nx : n ≡ x
    nx = cc

    go : IsCut ms last prefix back m → IsCut (n ∷ ms) last (x ∷ prefix) back m
    go (at_last p q r) = at_last (ap (λ l. x ∷ l) p ∙ ap (λ y. y ∷ ms) (sym nx)) q r
    go (before_last rest p) = before_last rest (ap (λ l. n ∷ l) p ∙ ap (λ y. y ∷ (prefix ++ m ∷ rest)) nx)

-- nothing in an unfinished reply ends it
ends_in : (prefix : List Message) (m : Message) (back : List Message) → list_any ends_reply (prefix ++ m ∷ back) ≡ false → ends_reply m ≡ false
ends_in [] m back h = go (ends_reply m) h
  where
    go : (b : Bool) → (b || list_any ends_reply back) ≡ false → b ≡ false
    go b h = grind arith
ends_in (n ∷ prefix) m back h = go (ends_reply n) h (ends_in prefix m back)
  where
    go : (b : Bool) → (b || list_any ends_reply (prefix ++ m ∷ back)) ≡ false → (list_any ends_reply (prefix ++ m ∷ back) ≡ false → ends_reply m ≡ false) → ends_reply m ≡ false
    go b h ih = grind arith

-- one more reply
whole_snoc : (profile : Profile) (structured : Bool) (e : Operation) (last : Message) → is_finished e ≡ false → AreWhole profile structured e e.replies → cookie_of last ≡ Some e.cookie → IsReplyAfter profile structured e e.replies last → AreWhole profile structured e (e.replies ++ last ∷ [])
whole_snoc profile structured e last open_ w c h prefix back m q = grind (arith, cut_at, ends_in)

none_yet : (profile : Profile) (structured : Bool) (e : Operation) → e.replies ≡ [] → IsWhole profile structured e
none_yet profile structured e n [] back m q = absurd (let w : [] ≡ m ∷ back = sym n ∙ q in cc)
none_yet profile structured e n (x ∷ prefix) back m q = absurd (let w : [] ≡ x ∷ (prefix ++ m ∷ back) = sym n ∙ q in cc)

-- the cookie of the request that a reply answers
found_cookie : (core : Core) (cookie k : ℕ) (e : Operation) → target cookie core.entries ≡ Some k → operation k core.entries ≡ Some e → e.cookie ≡ cookie
found_cookie core cookie k e t is =
    let f : IsFound cookie k core.entries = find cookie core.entries k t in
    grind (arith, f, find, eqb-true, and_parts)

chunk_behind : (profile : Profile) (structured : Bool) (export : Exporting) (e : Operation) (flags kind cookie : ℕ) (p : List ℕ) → MayReply profile structured export e (Chunk flags kind cookie p) → IsReplyAfter profile structured e e.replies (Chunk flags kind cookie p)
unfolding ends_reply
chunk_behind profile structured export e flags kind cookie p may = grind (arith, chunk_allow, finish_allow)

extended_behind : (profile : Profile) (structured : Bool) (export : Exporting) (e : Operation) (flags kind cookie at : ℕ) (p : List ℕ) → MayReply profile structured export e (ExtendedChunk flags kind cookie at p) → IsReplyAfter profile structured e e.replies (ExtendedChunk flags kind cookie at p)
unfolding ends_reply
extended_behind profile structured export e flags kind cookie at p may = grind (arith, extended_allow, finish_allow)

whole_asks : (profile : Profile) (structured : Bool) (core : Core) (m : Message) → Asks (IsWhole profile structured) core m
whole_asks profile structured core (Request flags command cookie offset len p) = none_yet profile structured _ refl
whole_asks profile structured core (ExtendedRequest flags command cookie offset len p) = none_yet profile structured _ refl
whole_asks profile structured core m = grind arith

-- a reply that may complete fits behind those before it
behind_it : (profile : Profile) (structured : Bool) (export : Exporting) (e : Operation) (m : Message) → MayReply profile structured export e m → IsReplyAfter profile structured e e.replies m
unfolding MayReply
behind_it profile structured export e (Simple error cookie p) h = grind (arith, simple_allow profile structured export e error cookie p h)
behind_it profile structured export e (Chunk flags kind cookie p) h = chunk_behind profile structured export e flags kind cookie p h
behind_it profile structured export e (ExtendedChunk flags kind cookie at p) h = extended_behind profile structured export e flags kind cookie at p h
behind_it profile structured export e m h = absurd h

whole_reply : (core : Core) (export : Exporting) (m : Message) (k : ℕ) (e : Operation) → request_of_reply core m ≡ Some k → operation k core.entries ≡ Some e → MayReply core.profile core.structured export e m → IsWhole core.profile core.structured e → IsWhole core.profile core.structured (with_reply e m)
whole_reply core export m k e q is h w prefix back n at = go (cookie_of m) refl q
  where
    go : (o : Option ℕ) → cookie_of m ≡ o → option_and_then (λ k. target k core.entries) o ≡ Some k → IsReplyBetween core.profile core.structured (with_reply e m) prefix n back
    go None c q = absurd (cc)
    go (Some cookie) c q =
        let b = whole_snoc core.profile core.structured e m (open_target core cookie k e q is) w (c ∙ ap Some (sym (found_cookie core cookie k e q is))) (behind_it core.profile core.structured export e m h) prefix back n at in
        record { cookie = b.cookie; ends = b.ends; fits = (grind arith) }

none_there : (core : Core) (phase : Phase) (m : Message) → IsAllowed core phase m → (P : Operation → Type 0) → ((export : Exporting) → phase ≡ Transmission export → ⊥) → InPhase phase core.entries → Each P (complete core m).entries
unfolding IsAllowed complete
none_there core phase m ok P out g = grind arith

-- in negotiation there is no request, and in transmission structured replies stay as they are
whole_complete : (core : Core) (phase : Phase) (m : Message) → core.phase ≡ phase → IsAllowed core phase m → Each (IsWhole core.profile core.structured) core.entries → InPhase phase core.entries → Each (IsWhole core.profile (complete core m).structured) (complete core m).entries
unfolding IsAllowed complete
whole_complete core (Transmission export) m q ok w g =
    subst (λ b. Each (IsWhole core.profile b) (complete core m).entries) (sym ((grind arith)))
    (each_complete (IsWhole core.profile core.structured) core (Transmission export) m ok w (whole_asks core.profile core.structured core m) (λ export' k e p q is h. whole_reply core export' m k e q is h))
whole_complete core phase m q ok w g = none_there core phase m ok (IsWhole core.profile (complete core m).structured) (λ export e. (cc)) g

whole : {core : Core} → IsReached core → Each (IsWhole core.profile core.structured) core.entries
whole at_start = tt
whole (after_message {c = c} m r sn ok) = subst (λ p. Each (IsWhole p (complete c m).structured) (complete c m).entries) (sym (profile_stays c m)) (whole_complete c c.phase m refl (allowed c c.phase m ok) (whole r) (sound r))

pub replies_are_whole : RepliesAreWhole
replies_are_whole profile items run k e prefix back m is q =
    each_entry (IsWhole profile (ends_at start items).core.structured) k (operations_of items) e (subst (λ (c : Core). Each (IsWhole profile c.structured) c.entries) (at_base profile items) (grind (arith, profile_end, whole, run_reaches))) is prefix back m q
