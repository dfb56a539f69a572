-- What holds of each request goes on to hold as messages complete, where it holds of each new request and stays with each reply.
use Rattle.nbd_laws.proofs.Common.{◌≡◌, ℕ, zero, suc, ◌==◌, List, [], ◌∷◌, ◌++◌, refl, sym, subst, Option, Some, None, Bool, true, false, arith, Message, Request, Simple, Chunk, ExtendedRequest, ExtendedChunk, Operation, Exporting, complete, core_with_request, filter_in, has_contexts, operation_asked, reply_to, request_of_reply, written, Core, Phase, Transmission, operation, target, with_reply, with_reply_at}
unfoldable use Rattle.nbd_laws.proofs.judge.WholeLemmas.{IsAllowed, MayReply}
use Rattle.nbd_wire.specs.declared.commands.TheConstants as commands

abbrev pub Each : (Operation → Type 0) → List Operation → Type 0
Each P [] = Unit {0}
Each P (e ∷ es) = P e × Each P es

pub each_weaker : (P Q : Operation → Type 0) → ((e : Operation) → P e → Q e) → (es : List Operation) → Each P es → Each Q es
each_weaker P Q f [] t = tt
each_weaker P Q f (e ∷ es) t = (f e t.0, each_weaker P Q f es t.1)

pub each_entry : (P : Operation → Type 0) (k : ℕ) (es : List Operation) (e : Operation) → Each P es → operation k es ≡ Some e → P e
each_entry P k [] e t h = absurd (cc)
each_entry P zero (x ∷ es) e t h = absurd (cc)
each_entry P (suc zero) (x ∷ es) e t h = let q : x ≡ e = cc in subst P q t.0
each_entry P (suc (suc k)) (x ∷ es) e t h = each_entry P (suc k) es e t.1 h

each_snoc : (P : Operation → Type 0) (es : List Operation) (e : Operation) → Each P es → P e → Each P (es ++ e ∷ [])
each_snoc P [] e t h = (h, tt)
each_snoc P (x ∷ es) e t h = (t.0, each_snoc P es e t.1 h)

each_answered : (P : Operation → Type 0) (k : ℕ) (m : Message) (es : List Operation) (e : Operation) → Each P es → operation k es ≡ Some e → (P e → P (with_reply e m)) → Each P (with_reply_at k m es)
each_answered P k m [] e t h r = tt
each_answered P zero m (x ∷ es) e t h r = t
each_answered P (suc zero) m (x ∷ es) e t h r = let q : e ≡ x = cc in (subst (λ y. P y → P (with_reply y m)) q r t.0, t.1)
each_answered P (suc (suc k)) m (x ∷ es) e t h r = (t.0, each_answered P (suc k) m es e t.1 h r)

each_replied : (P : Operation → Type 0) (o : Option ℕ) (core : Core) (m : Message) (k : ℕ) (e : Operation) → o ≡ Some k → operation k core.entries ≡ Some e → Each P core.entries → (P e → P (with_reply e m)) → Each P (reply_to o core m).entries
each_replied P (Some j) core m k e q is t r = let s : j ≡ k = cc in each_answered P j m core.entries e t (subst (λ i. operation i core.entries ≡ Some e) (sym s) is) r
each_replied P None core m k e q is t r = t

each_requested : (P : Operation → Type 0) (b : Bool) (core : Core) (e : Operation) → Each P core.entries → P e → Each P (core_with_request b core e).entries
each_requested P b core e t h = grind (arith, each_snoc)

-- a message that is a request asks for one of which it holds
abbrev pub Asks : (Operation → Type 0) → Core → Message → Type 0
Asks P core (Request flags command cookie offset len p) = P (operation_asked false core flags command cookie offset len p None)
Asks P core (ExtendedRequest flags command cookie offset len p) =
    P (operation_asked true core flags command cookie offset len (written command p) (filter_in (has_contexts core) flags command p))
Asks P core m = Unit {0}

-- a reply leaves it with the request that it answers
abbrev pub Replies : (Operation → Type 0) → Core → Phase → Message → Type 0
Replies P core phase m = (export : Exporting) (k : ℕ) (e : Operation) → phase ≡ Transmission export → request_of_reply core m ≡ Some k → operation k core.entries ≡ Some e
    → MayReply core.profile core.structured export e m → P e → P (with_reply e m)

pub each_complete : (P : Operation → Type 0) (core : Core) (phase : Phase) (m : Message) → IsAllowed core phase m → Each P core.entries → Asks P core m → Replies P core phase m → Each P (complete core m).entries
unfolding IsAllowed complete
each_complete P core phase (Request flags command cookie offset len p) ok t a r = each_requested P (command == commands.DISC) core _ t a
each_complete P core phase (ExtendedRequest flags command cookie offset len p) ok t a r = each_requested P (command == commands.DISC) core _ t a
each_complete P core (Transmission export) (Simple error cookie p) (k, e, found, is, h) t a r = each_replied P (target cookie core.entries) core _ k e found is t (r export k e refl found is h)
each_complete P core (Transmission export) (Chunk flags kind cookie p) (k, e, found, is, h) t a r = each_replied P (target cookie core.entries) core _ k e found is t (r export k e refl found is h)
each_complete P core (Transmission export) (ExtendedChunk flags kind cookie at p) (k, e, found, is, h) t a r = each_replied P (target cookie core.entries) core _ k e found is t (r export k e refl found is h)
each_complete P core phase m ok t a r = grind arith
