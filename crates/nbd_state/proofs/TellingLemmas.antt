-- What the exchanges know once a message has completed.
use Rattle.nbd_state.proofs.{Common.{◌≡◌, ℕ, zero, suc, List, [], ◌∷◌, sym, ◌∙◌, ap, Option, Some, None, false, is_some, if◌then◌else◌, slice_get, slice_set, place_at, Message, cookie_of, is_this, noted, is_reply_to, Core, target, Exchange, State, AddsUnanswered, TellsOne, AreKnown, Shows, arith, find, known_if, place_of, option_and_then}, PlacedLemmas.no_entry}

pub unnoted : (o : Option ℕ) (n : ℕ) → noted o false n ≡ o
unnoted o n = grind arith

-- a list with another element at one place, to which so many are told
set_known : (xs : List Exchange) (i : ℕ) (z y : Exchange) (n : ℕ) → slice_get xs i ≡ Some z → y.asked.known_at ≡ (if is_some z.asked.known_at then z.asked.known_at else Some n) → TellsOne (Some i) n xs (slice_set xs i y)
set_known [] i z y n stands k p = absurd (cc)
set_known (x ∷ xs) zero z y n stands k zero = grind (arith, unnoted)
set_known (x ∷ xs) zero z y n stands k (suc p) = grind (arith, unnoted (known_if (slice_get xs p)) n)
set_known (x ∷ xs) (suc i) z y n stands k zero = grind (arith, unnoted (known_if (Some x)) n)
set_known (x ∷ xs) (suc i) z y n stands k (suc p) = grind (arith, set_known xs i z y n stands k p)

-- one exchange was told
pub tells_at : (told : Option ℕ) (n place : ℕ) (old new : List Exchange) (z y : Exchange) → told ≡ Some place → slice_get old place ≡ Some z → y.asked.known_at ≡ (if is_some z.asked.known_at then z.asked.known_at else Some n) → new ≡ slice_set old place y → TellsOne told n old new
tells_at told n place old new z y t stands k is = grind (arith, set_known)

-- a message that is no reply says of no request
pub known_asked : (core : Core) (m : Message) (n : ℕ) (before : ℕ → Option ℕ) (old new : List Exchange) → cookie_of m ≡ None → AddsUnanswered old new → AreKnown before old → AreKnown (λ k. noted (before k) (is_reply_to core m k) n) new
known_asked core m n before old new c adds h place = ap (λ o. noted (before (suc place)) (is_this (option_and_then (λ k. target k core.entries) o) (suc place)) n) c ∙ unnoted (before (suc place)) n ∙ h place ∙ sym (adds place)

-- the place of a request is one less than its number
at_place : (o : Option ℕ) (place : ℕ) → (o ≡ Some zero → ⊥) → is_this o (suc place) ≡ is_this (place_of o) place
at_place o place some = grind arith

-- a reply says of the request that it answers
pub known_told : (core : Core) (m : Message) (n : ℕ) (before : ℕ → Option ℕ) (state : State) (cookie : ℕ) (new : List Exchange) → Shows state core → cookie_of m ≡ Some cookie →
    TellsOne (place_at state.outstanding cookie) n state.exchanges.items new → AreKnown before state.exchanges.items → AreKnown (λ k. noted (before k) (is_reply_to core m k) n) new
known_told core m n before state cookie new s c tells h place =
    ap (λ o. noted (before (suc place)) (is_this (option_and_then (λ k. target k core.entries) o) (suc place)) n) c
    ∙ ap (λ b. noted (before (suc place)) b n) (at_place (target cookie core.entries) place (λ none. (let f = find cookie core.entries zero none in no_entry core.entries f.found f.numbered)) ∙ ap (λ o. is_this o place) (sym (s.places cookie)))
    ∙ ap (λ known. noted known (is_this (place_at state.outstanding cookie) place) n) (h place)
    ∙ sym (tells place)
