-- The outstanding requests of a core have distinct cookies.
use Rattle.nbd_laws.proofs.Common.{and_parts, not-true, ◌≡◌, ℕ, zero, suc, ◌==◌, List, [], ◌∷◌, ◌++◌, refl, ◌∙◌, ap, subst, Option, Some, None, Bool, false, arith, eqb-true, eq-eqb, IsTrue, is_some, IsServedAt, Server, Message, Request, ExtendedRequest, Profile, operations_of, report, Item, Starts, Completes, Serves, service_order, Operation, Exporting, list_any, ends_reply, is_finished, MayComplete, MayStartIn, Obeys, after, request_of_reply, complete, cookie_of, ends_at, inside_at, makes_due, core_with_request, option_and_then, Core, Phase, State, Transmission, with_reply_at, operation, is_awaiting, start, start_of, target, target_from, export_in, AnswersRequest, CookiesAreDistinct, EachReplyAnswersOne, EmptyIsExplained, ServedOnceAfterCompletion}
use Rattle.nbd_laws.proofs.{judge.{WholeLemmas.allowed, PhaseLemmas.{IsFound, find}, AllowLemmas.{MayAsk, ask_allow, extended_ask_allow}}, runs.{PartLemmas.{obeys_back, obeys_prefix, served_in}, ProfileLemmas.{at_base, phase_at_base}}}
unfoldable use Rattle.nbd_laws.proofs.judge.WholeLemmas.{IsAllowed}
use Rattle.nbd_wire.specs.declared.commands.TheConstants as commands

-- no outstanding request has this cookie
abbrev pub Free : ℕ → List Operation → Type 0
Free cookie [] = Unit {0}
Free cookie (e ∷ es) = (is_awaiting cookie e ≡ false) × Free cookie es

-- the outstanding requests have distinct cookies
abbrev pub AreDistinct : List Operation → Type 0
AreDistinct [] = Unit {0}
AreDistinct (e ∷ es) = (is_finished e ≡ false → Free e.cookie es) × AreDistinct es

free_of : (n cookie : ℕ) (es : List Operation) → target_from n cookie es ≡ None → Free cookie es
free_of n cookie [] h = tt
free_of n cookie (e ∷ es) h = grind (arith, free_of (suc n) cookie es)

free-snoc : (cookie : ℕ) (es : List Operation) (e : Operation) → Free cookie es → is_awaiting cookie e ≡ false → Free cookie (es ++ e ∷ [])
free-snoc cookie [] e h k = (k, tt)
free-snoc cookie (x ∷ es) e h k = (h.0, free-snoc cookie es e h.1 k)

distinct-snoc : (es : List Operation) (e : Operation) → AreDistinct es → Free e.cookie es → AreDistinct (es ++ e ∷ [])
distinct-snoc [] e d f = ((λ u. tt), tt)
distinct-snoc (x ∷ es) e d f = ((λ u. free-snoc x.cookie es e (d.0 u) ((grind (arith, eqb-true, eq-eqb)))), distinct-snoc es e d.1 f.1)

-- a request with one more reply is finished where it was
pub any-snoc : (p : Message → Bool) (ms : List Message) (m : Message) → list_any p (ms ++ m ∷ []) ≡ false → list_any p ms ≡ false
any-snoc p [] m h = refl
any-snoc p (n ∷ ms) m h = grind (arith, any-snoc p ms m)

free_answered : (cookie k : ℕ) (m : Message) (es : List Operation) → Free cookie es → Free cookie (with_reply_at k m es)
free_answered cookie k m [] h = tt
free_answered cookie zero m (e ∷ es) h = h
free_answered cookie (suc zero) m (e ∷ es) h = ((grind (arith, any-snoc)), h.1)
free_answered cookie (suc (suc k)) m (e ∷ es) h = (h.0, free_answered cookie (suc k) m es h.1)

distinct_answered : (k : ℕ) (m : Message) (es : List Operation) → AreDistinct es → AreDistinct (with_reply_at k m es)
distinct_answered k m [] d = tt
distinct_answered zero m (e ∷ es) d = d
distinct_answered (suc zero) m (e ∷ es) d = ((λ f. d.0 (any-snoc ends_reply e.replies m f)), d.1)
distinct_answered (suc (suc k)) m (e ∷ es) d = ((λ f. free_answered e.cookie (suc k) m es (d.0 f)), distinct_answered (suc k) m es d.1)

distinct_requested : (b : Bool) (core : Core) (e : Operation) (offset len : ℕ) → MayAsk b core e.cookie offset len → AreDistinct core.entries → AreDistinct (core_with_request b core e).entries
unfolding target
distinct_requested b core e offset len h d = grind (arith, distinct-snoc, free_of)

distinct_allowed : (core : Core) (phase : Phase) (m : Message) → IsAllowed core phase m → AreDistinct core.entries → AreDistinct (complete core m).entries
unfolding IsAllowed complete
distinct_allowed core (Transmission export) (Request flags command cookie offset len p) ok d = distinct_requested (command == commands.DISC) core _ offset len (ask_allow core command cookie offset len ok.0 ok.1) d
distinct_allowed core (Transmission export) (ExtendedRequest flags command cookie offset len p) ok d = distinct_requested (command == commands.DISC) core _ offset len (extended_ask_allow core flags command cookie offset len ok.0 ok.1) d
distinct_allowed core phase m ok d = grind (arith, distinct_requested, ask_allow, extended_ask_allow, distinct_answered)

pub distinct_complete : (core : Core) (phase : Phase) (m : Message) → MayComplete core phase m → AreDistinct core.entries → AreDistinct (complete core m).entries
distinct_complete core phase m ok d = distinct_allowed core phase m (allowed core phase m ok) d

pub distinct : (state : State) (items : List Item) → Obeys state items → AreDistinct state.core.entries → AreDistinct (ends_at state items).core.entries
distinct state [] ob d = d
distinct state (Completes s m ∷ items) ob d = distinct (after state (Completes s m)) items ob.1 (distinct_complete state.core state.core.phase m ob.0.0 d)
distinct state (Serves e ∷ items) ob d = distinct (after state (Serves e)) items ob.1 d
distinct state (item ∷ items) ob d = distinct state items ob.1 d

pub free_at : (cookie k : ℕ) (es : List Operation) (e : Operation) → Free cookie es → operation k es ≡ Some e → e.cookie ≡ cookie → is_finished e ≡ false → ⊥
free_at cookie k [] e f h c u = absurd (cc)
free_at cookie zero (x ∷ es) e f h c u = absurd (cc)
free_at cookie (suc zero) (x ∷ es) e f h c u = grind (arith, eq-eqb)
free_at cookie (suc (suc k)) (x ∷ es) e f h c u = free_at cookie (suc k) es e f.1 h c u

same_cookie : (es : List Operation) → AreDistinct es → (j k : ℕ) (d e : Operation) → operation j es ≡ Some d → operation k es ≡ Some e → is_finished d ≡ false → is_finished e ≡ false → d.cookie ≡ e.cookie → j ≡ k
same_cookie (x ∷ es) a (suc (suc j)) (suc (suc k)) d e h i f g c = ap suc (same_cookie es a.1 (suc j) (suc k) d e h i f g c)
same_cookie es a j k d e h i f g c = grind (arith, free_at)

distinct_of : (profile : Profile) (prefix back : List Item) → Obeys (start_of profile) (prefix ++ back) → AreDistinct (operations_of prefix)
distinct_of profile prefix back ob = grind (arith, at_base, distinct, obeys_prefix)

pub cookies_are_distinct : CookiesAreDistinct
cookies_are_distinct profile prefix back run j k d e h i c = grind (arith, same_cookie, distinct_of)

answers_found : (profile : Profile) (prefix : List Item) (m : Message) (cookie k : ℕ) → AreDistinct (operations_of prefix) → cookie_of m ≡ Some cookie → target cookie (operations_of prefix) ≡ Some k →
    ((x : ℕ) → IsTrue (makes_due (ends_at (start_of profile) prefix).core (Starts Server m) k x) → IsServedAt (inside_at (ends_at start prefix).core k) (service_order prefix) k x) →
    (k : ℕ) × (e : Operation) × AnswersRequest profile prefix m k e
answers_found profile prefix m cookie k d c h n =
    let f : IsFound cookie k (operations_of prefix) = find cookie (operations_of prefix) k h in
    grind (arith, f, find, and_parts, eqb-true, not-true, same_cookie)

pub in_transmission : (phase : Phase) (export : Exporting) → export_in phase ≡ Some export → phase ≡ Transmission export
in_transmission phase export e = grind arith

pub each_reply_answers_one : EachReplyAnswersOne
unfolding MayStartIn
each_reply_answers_one profile prefix back m export run e = go (cookie_of m) refl some
  where
    ob : Obeys (ends_at (start_of profile) prefix) (Starts Server m ∷ back)
    ob = obeys_back (start_of profile) prefix (Starts Server m ∷ back) run.obeys

    some : IsTrue (is_some (option_and_then (λ k. target k (operations_of prefix)) (cookie_of m)))
    some = subst (λ (c : Core). IsTrue (is_some (request_of_reply c m))) (at_base profile prefix)
        (subst (λ phase. MayStartIn phase (ends_at (start_of profile) prefix).core Server m) (phase_at_base profile prefix ∙ in_transmission (ends_at start prefix).core.phase export e) ob.0.2).0

    served : (k x : ℕ) → IsTrue (makes_due (ends_at (start_of profile) prefix).core (Starts Server m) k x) → IsServedAt (inside_at (ends_at start prefix).core k) (service_order prefix) k x
    served k x h =
        subst (λ js. IsServedAt (inside_at (ends_at start prefix).core k) js k x) (served_in (start_of profile) prefix)
        (subst (λ (c : Core). IsServedAt (inside_at c k) (ends_at (start_of profile) prefix).served k x) (at_base profile prefix) (ob.0.3 k x h))

    go : (c : Option ℕ) → cookie_of m ≡ c → IsTrue (is_some (option_and_then (λ k. target k (operations_of prefix)) c)) → (k : ℕ) × (e : Operation) × AnswersRequest profile prefix m k e
    go None c h = absurd (cc)
    go (Some cookie) c h = at (target cookie (operations_of prefix)) refl h
      where
        at : (t : Option ℕ) → target cookie (operations_of prefix) ≡ t → IsTrue (is_some t) → (k : ℕ) × (e : Operation) × AnswersRequest profile prefix m k e
        at None t h = absurd (cc)
        at (Some k) t h = answers_found profile prefix m cookie k (distinct_of profile prefix (Starts Server m ∷ back) run.obeys) c t (served k)

pub served_once_after_completion : ServedOnceAfterCompletion
served_once_after_completion profile prefix back e run = grind (arith, obeys_back, at_base, served_in)

pub empty_is_explained : EmptyIsExplained
unfolding report
empty_is_explained profile initial = grind arith
