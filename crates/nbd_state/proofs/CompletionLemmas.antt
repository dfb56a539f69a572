-- What a state shows once a message has completed.
use Rattle.nbd_state.proofs.Common.{◌≡◌, ℕ, zero, suc, ◌<◌, ◌==◌, ◌&&◌, List, [], ◌∷◌, ◌++◌, length, refl, sym, ◌∙◌, ap, subst, Option, Some, None, Bool, false, if◌then◌else◌, arith, slice_get, slice_index_or, slice_set, Result, IfOk, OnOk, ◌^◌, slice_get_read, place_at, Message, Operation, Exporting, ends_reply, is_finished, cookie_of, core_with_reply, noted, reply_to, shown_with, Context, Core, Transmission, with_reply_at, operation, target, with_reply, export_in, in_force, Asked, Exchange, Export, State, AddsUnanswered, IsShown, exporting, IsReached, AreAskedWith, asked_answered, asked_snoc, AreShown, HasSelection, Shows, ended_if, phase_shown, place_of, shown_if, shown_in, IsNotedWith, InPhase, open_target, sound, known_if, option_and_then}
use Rattle.nbd_state.proofs.{NotingLemmas.{ended_added, ended_set, fresh, shown_added, shown_set}, PlacedLemmas.{IsPlaced, are_shown_in, place_shows_operation, shown_length}, TargetLemmas.{distinct_reached, target_replied, target_requested}}
use Rattle.nbd_wire.specs.protocol.States as definitions
use Rattle.nbd_state.specs.declared.state.Phase.TheVariants as shown
use Rattle.nbd_laws.proofs.requests.ContextLemmas.{asked_at}

shown_snoc : (export : Exporting) (es : List Operation) (xs : List Exchange) (e : Operation) (x : Exchange) → AreShown (Some export) es xs → IsShown export e x → AreShown (Some export) (es ++ e ∷ []) (xs ++ x ∷ [])
shown_snoc export (d ∷ es) (y ∷ xs) e x s h = (s.0, shown_snoc export es xs e x s.1 h)
shown_snoc export es xs e x s h = grind arith

shown_answered : (export : Exporting) (k : ℕ) (m : Message) (es : List Operation) (xs : List Exchange) (e : Operation) (y : Exchange) → AreShown (Some export) es xs → operation (suc k) es ≡ Some e → IsShown export (with_reply e m) y →
    AreShown (Some export) (with_reply_at (suc k) m es) (slice_set xs k y)
shown_answered export k m [] xs e y s i h = absurd (cc)
shown_answered export k m (d ∷ es) [] e y s i h = absurd s
shown_answered export zero m (d ∷ es) (x ∷ xs) e y s i h = (let q : e ≡ d = cc in (subst (λ z. IsShown export (with_reply z m) y) q h, s.1))
shown_answered export (suc k) m (d ∷ es) (x ∷ xs) e y s i h = (s.0, shown_answered export k m es xs e y s.1 i h)

-- before transmission there are none
none_shown : (o p : Option Exporting) (es : List Operation) (xs : List Exchange) → o ≡ None → AreShown o es xs → AreShown p es xs
none_shown o p [] [] n s = tt
none_shown o p es xs n s = grind (arith, shown_length)

-- before transmission none was asked
none_asked : (o : Option Exporting) (contexts : List Context) (es : List Operation) (xs : List Exchange) → o ≡ None → AreShown o es xs → AreAskedWith contexts es
none_asked o contexts [] xs n s = tt
none_asked o contexts es xs n s = grind (arith, shown_length)

place_if : (b : Bool) (t : Option ℕ) → (if b then None else place_of t) ≡ place_of (if b then None else t)
place_if b t = grind arith

-- a message of the negotiation changes the phase and what it says of the handshake
pub negotiation_is_shown : (old new : State) (core next : Core) → Shows old core → export_in core.phase ≡ None → next.entries ≡ core.entries → next.shown ≡ core.shown → next.ended_at ≡ core.ended_at → new.exchanges ≡ old.exchanges → new.outstanding ≡ old.outstanding →
    new.profile ≡ next.profile → new.phase ≡ phase_shown next.phase → new.offered ≡ next.offered → new.client_flags ≡ next.client_flags → new.structured ≡ next.structured → new.extended ≡ next.extended → new.disconnected ≡ next.disconnected →
    HasSelection new.selection next.selection → new.brings_contexts ≡ next.brings_contexts → new.sizing ≡ next.sizing → Shows new next
negotiation_is_shown old new core next s n e q ended h t l k m r f g h14 h15 agreed h17 = grind (arith, none_asked, none_shown)

-- one more request
pub requested_shows : (old new : State) (core : Core) (export : Exporting) (e : Operation) (x : Exchange) → Shows old core → core.phase ≡ Transmission export → e.replies ≡ [] → e.contexts ≡ in_force core → target e.cookie core.entries ≡ None → IsShown export e x →
    new.exchanges.items ≡ old.exchanges.items ++ x ∷ [] → ((q : ℕ) → place_at new.outstanding q ≡ (if e.cookie == q then Some (length old.exchanges.items) else place_at old.outstanding q)) →
    new ≡ record old { exchanges = new.exchanges; outstanding = new.outstanding } → Shows new (record core { entries = core.entries ++ e ∷ [] })
requested_shows old new core export e x s p r asked t h l places kept = grind (arith, asked_snoc, shown_snoc, are_shown_in, shown_added, fresh, ended_added, shown_length, target_requested)

-- one more reply to the request with this cookie
pub replied_shows : (old mid new : State) (core : Core) (export : Exporting) (cookie place : ℕ) (m : Message) (x y : Exchange) → IsReached core → Shows old core → core.phase ≡ Transmission export → cookie_of m ≡ Some cookie →
    place_at old.outstanding cookie ≡ Some place → slice_get old.exchanges.items place ≡ Some x → ((e : Operation) → e.contexts ≡ in_force core → IsShown export e x → is_finished e ≡ false → IsShown export (with_reply e m) y × IsNotedWith e m (length old.exchanges.items) x.asked y.asked) →
    mid ≡ record old { outstanding = mid.outstanding } → ((q : ℕ) → place_at mid.outstanding q ≡ (if ends_reply m && (cookie == q) then None else place_at old.outstanding q)) →
    new ≡ record mid { exchanges = new.exchanges } → new.exchanges.items ≡ slice_set old.exchanges.items place y → Shows new (core_with_reply core m)
replied_shows old mid new core export cookie place m x y r s p c g i step kept left made items = subst (λ t. Shows new (reply_to t core m)) (sym named) shows
  where
    a : IsPlaced core export cookie place old.exchanges.items
    a = place_shows_operation old core export cookie place s p g

    named : option_and_then (λ k. target k core.entries) (cookie_of m) ≡ Some (suc place)
    named = ap (λ o. option_and_then (λ k. target k core.entries) o) c ∙ a.found

    same : a.x ≡ x
    same = let q : Some a.x ≡ Some x = sym a.stands ∙ i in cc

    stepped : IsShown export (with_reply a.e m) y × IsNotedWith a.e m (length old.exchanges.items) x.asked y.asked
    stepped = step a.e (asked_at (in_force core) (suc place) core.entries a.e s.asked_with a.numbered) (subst (λ z. IsShown export a.e z) same a.shown) (open_target core cookie (suc place) a.e a.found a.numbered)

    count : length old.exchanges.items ≡ length core.entries
    count = sym (shown_length (export_in core.phase) core.entries old.exchanges.items s.are_shown)

    shows : Shows new (reply_to (Some (suc place)) core m)
    shows = record {
      asked_with = asked_answered (in_force core) (suc place) m core.entries s.asked_with;
      profile_is = ap (λ (z : State). z.profile) made ∙ ap (λ (z : State). z.profile) kept ∙ s.profile_is;
      phase_is = ap (λ (z : State). z.phase) made ∙ ap (λ (z : State). z.phase) kept ∙ s.phase_is;
      offered_is = ap (λ (z : State). z.offered) made ∙ ap (λ (z : State). z.offered) kept ∙ s.offered_is;
      client_flags_are = ap (λ (z : State). z.client_flags) made ∙ ap (λ (z : State). z.client_flags) kept ∙ s.client_flags_are;
      structured_is = ap (λ (z : State). z.structured) made ∙ ap (λ (z : State). z.structured) kept ∙ s.structured_is;
      extended_is = ap (λ (z : State). z.extended) made ∙ ap (λ (z : State). z.extended) kept ∙ s.extended_is;
      selection_is = subst (λ z. HasSelection z core.selection) (sym (ap (λ (z : State). z.selection) made ∙ ap (λ (z : State). z.selection) kept)) s.selection_is;
      brings_contexts_is = ap (λ (z : State). z.brings_contexts) made ∙ ap (λ (z : State). z.brings_contexts) kept ∙ s.brings_contexts_is;
      sizing_is = ap (λ (z : State). z.sizing) made ∙ ap (λ (z : State). z.sizing) kept ∙ s.sizing_is;
      disconnected_is = ap (λ (z : State). z.disconnected) made ∙ ap (λ (z : State). z.disconnected) kept ∙ s.disconnected_is;
      are_shown = subst (λ (q : definitions.Phase). AreShown (export_in q) (with_reply_at (suc place) m core.entries) new.exchanges.items) (sym p)
          (subst (λ xs. AreShown (Some export) (with_reply_at (suc place) m core.entries) xs) (sym items)
          (shown_answered export place m core.entries old.exchanges.items a.e y (are_shown_in old core export s p) a.numbered stepped.0));
      shown = λ q. ap (λ l. l ++ (if suc place == suc q then shown_with (operation (suc place) core.entries) m (length core.entries) else [])) (s.shown q)
          ∙ shown_set old.exchanges.items place q x y (shown_with (operation (suc place) core.entries) m (length core.entries)) i
          (stepped.1.shown ∙ ap (λ l. shown_in x.asked ++ l) ((λ j. shown_with (sym a.numbered j) m (count j))))
          ∙ ap (λ xs. shown_if (slice_get xs q)) (sym items);
      ended = λ q. ap (λ o. noted o ((suc place == suc q) && ends_reply m) (length core.entries)) (s.ended q)
          ∙ ended_set old.exchanges.items place q x y (ends_reply m) (length core.entries) i (stepped.1.ended ∙ ap (noted x.asked.ended_at (ends_reply m)) count)
          ∙ ap (λ xs. ended_if (slice_get xs q)) (sym items);
      places = λ q. ap (λ (z : State). place_at z.outstanding q) made ∙ left q ∙ ap (λ o. if ends_reply m && (cookie == q) then None else o) (s.places q)
          ∙ place_if (ends_reply m && (cookie == q)) (target q core.entries)
          ∙ ap place_of (sym (target_replied q cookie (suc place) m core.entries (distinct_reached r) a.found));
    }

-- the size of an export is a number of 64 bits
pub size_fits : (core : Core) (export : Exporting) → IsReached core → core.phase ≡ Transmission export → export.size < 2 ^ 64
size_fits core export r p = let i = subst (λ phase. InPhase phase core.entries) p (sound r) in let l = i.0 in omega (arith, l)

-- the exchange at a place below the length stands in the list
pub indexed : (old mid : State) (place : ℕ) (x : Exchange) → mid ≡ record old { outstanding = mid.outstanding } → place < length mid.exchanges.items → x ≡ slice_index_or mid.exchanges.items place x →
    slice_get old.exchanges.items place ≡ Some x
indexed old mid place x kept within is = subst (λ (z : State). slice_get z.exchanges.items place ≡ Some x) kept (slice_get_read mid.exchanges.items (length mid.exchanges.items) place x refl within is)

-- what follows from what holds of an Ok
pub on_one : {A E : Type 0} {P : A → Type 0} {C : Type 0} (r : Result A E) → ((x : A) → P x → C) → IfOk r P → OnOk r C
on_one r f p = grind arith

-- the count at a message's end is that of the exchanges
pub counted_now : {x y : Asked} {m : Message} (e : Operation) (xs : List Exchange) {count : ℕ} → count ≡ length xs → IsNotedWith e m count x y → IsNotedWith e m (length xs) x y
counted_now {x} {y} {m} e xs q h = subst (λ n. IsNotedWith e m n x y) q h

pub on_all : {A E : Type 0} {P Q R : Type 0} {C : Type 0} (r : Result A E) → (P → Q → R → C) → OnOk r P → OnOk r Q → OnOk r R → OnOk r C
on_all r f p q s = grind arith

pub on : {A E : Type 0} {P C : Type 0} (r : Result A E) → (P → C) → OnOk r P → OnOk r C
on r f p = grind arith

-- the export that the state has is the one that it shows
pub exporting_is : (state : State) (core : Core) (export : Exporting) (x : Export) → Shows state core → core.phase ≡ Transmission export → state.phase ≡ shown.Transmission x → exporting x ≡ export
exporting_is state core export x s p q = grind arith

at_end : (xs : List Exchange) (x : Exchange) → x.asked.known_at ≡ None → AddsUnanswered xs (xs ++ x ∷ [])
at_end [] x none zero = none
at_end [] x none (suc place) = refl
at_end (z ∷ xs) x none zero = refl
at_end (z ∷ xs) x none (suc place) = at_end xs x none place

pub added_unanswered : (x : Exchange) (old new : List Exchange) → x.asked.known_at ≡ None → new ≡ old ++ x ∷ [] → AddsUnanswered old new
added_unanswered x old new none is place = ap (λ xs. known_if (slice_get xs place)) is ∙ at_end old x none place
