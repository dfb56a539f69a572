-- The metadata contexts that each request was asked with.
use Rattle.nbd_laws.proofs.Common.{arith, ◌≡◌, ℕ, zero, suc, ◌==◌, List, [], ◌∷◌, ◌++◌, refl, sym, ◌∙◌, ap, Option, Some, None, Bool, Message, Greeting, ClientFlags, Choice, Answer, Exported, Request, Context, Item, Completes, Serves, Operation, Exporting, Obeys, after, complete, core_with_request, ends_at, reply_to, Core, Phase, State, Greet, Flags, Choosing, Naming, Aborting, Answering, Transmission, export_in, in_force, operation, with_reply_at, start_of, AreAskedWith, ContextsStay}
use Rattle.nbd_laws.proofs.judge.WholeLemmas.{allowed}
unfoldable use Rattle.nbd_laws.proofs.judge.WholeLemmas.{IsAllowed}
use Rattle.nbd_wire.specs.declared.commands.TheConstants as commands

pub asked_snoc : (contexts : List Context) (es : List Operation) (e : Operation) → AreAskedWith contexts es → e.contexts ≡ contexts → AreAskedWith contexts (es ++ e ∷ [])
asked_snoc contexts [] e a q = (q, tt)
asked_snoc contexts (d ∷ es) e a q = (a.0, asked_snoc contexts es e a.1 q)

pub asked_answered : (contexts : List Context) (k : ℕ) (m : Message) (es : List Operation) → AreAskedWith contexts es → AreAskedWith contexts (with_reply_at k m es)
asked_answered contexts k m [] a = tt
asked_answered contexts (suc (suc k)) m (e ∷ es) a = (a.0, asked_answered contexts (suc k) m es a.1)
asked_answered contexts k m (e ∷ es) a = a

-- the contexts of one of them are these
pub asked_at : (contexts : List Context) (k : ℕ) (es : List Operation) (e : Operation) → AreAskedWith contexts es → operation k es ≡ Some e → e.contexts ≡ contexts
asked_at contexts k [] e a q = absurd (cc)
asked_at contexts zero (d ∷ es) e a q = absurd (cc)
asked_at contexts (suc zero) (d ∷ es) e a q = let r : d ≡ e = cc in ap (λ (x : Operation). x.contexts) (sym r) ∙ a.0
asked_at contexts (suc (suc k)) (d ∷ es) e a q = asked_at contexts (suc k) es e a.1 q

-- the requests were asked with the contexts in force, and before transmission there is none
record IsSteady (core : Core) : Type 0 where
  none : export_in core.phase ≡ None → core.entries ≡ []
  asked : AreAskedWith (in_force core) core.entries

-- before transmission nothing but requests counts
idle : (core next : Core) → export_in core.phase ≡ None → next.entries ≡ core.entries → IsSteady core → IsSteady next
idle core next before same s = grind arith

requested : (b : Bool) (core : Core) (e : Operation) (export : Exporting) → core.phase ≡ Transmission export → e.contexts ≡ in_force core → IsSteady core → IsSteady (core_with_request b core e)
requested b core e export q same s = grind (arith, asked_snoc)

replied : (o : Option ℕ) (core : Core) (m : Message) (export : Exporting) → core.phase ≡ Transmission export → IsSteady core → IsSteady (reply_to o core m)
replied o core m export q s = grind (arith, asked_answered)

completed : (core : Core) (phase : Phase) (m : Message) → core.phase ≡ phase → IsAllowed core phase m → IsSteady core → IsSteady (complete core m)
unfolding IsAllowed complete
completed core Greet (Greeting flags) q ok s = idle core (complete core (Greeting flags)) (ap export_in q) refl s
completed core Flags (ClientFlags flags) q ok s = idle core (complete core (ClientFlags flags)) (ap export_in q) refl s
completed core Choosing (Choice id p) q ok s = idle core (complete core (Choice id p)) (ap export_in q) refl s
completed core Aborting (Answer option kind p) q ok s = idle core (complete core (Answer option kind p)) (ap export_in q) refl s
completed core (Answering o a i) (Answer option kind p) q ok s = idle core (complete core (Answer option kind p)) (ap export_in q) refl s
completed core Naming (Exported size flags padded) q ok s = idle core (complete core (Exported size flags padded)) (ap export_in q) refl s
completed core (Transmission export) (Request flags command cookie offset len p) q ok s = requested (command == commands.DISC) core _ export q refl s
completed core phase m q ok s = search (requested, replied)

steady : (state : State) (items : List Item) → Obeys state items → IsSteady state.core → IsSteady (ends_at state items).core
steady state [] ob s = s
steady state (Completes side m ∷ items) ob s = steady (after state (Completes side m)) items ob.1 (completed state.core state.core.phase m refl (allowed state.core state.core.phase m ob.0.0) s)
steady state (Serves e ∷ items) ob s = steady (after state (Serves e)) items ob.1 (record { none = s.none; asked = s.asked })
steady state (item ∷ items) ob s = steady state items ob.1 s

pub contexts_stay : ContextsStay
contexts_stay profile items run = (steady (start_of profile) items run.obeys (record { none = λ q. refl; asked = tt })).asked
