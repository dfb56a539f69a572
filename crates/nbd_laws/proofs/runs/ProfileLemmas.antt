-- What messages lead to does not hang on the profile that a session is held to.
use Rattle.nbd_laws.proofs.Common.{arith, ◌≡◌, ℕ, List, [], ◌∷◌, ◌++◌, refl, sym, ◌∙◌, ap, Some, Entry, Message, Profile, Base, Item, Starts, Completes, Serves, known_count, known_from, complete, ends_at, request_of_reply, Core, start, start_of, EndsAgree, with_profile, if◌then◌else◌, is_reply_to, length}

pub complete_with : (q : Profile) (core : Core) (m : Message) → complete (with_profile q core) m ≡ with_profile q (complete core m)
unfolding complete
complete_with q core m = grind (arith)

-- a message leaves the profile
pub profile_stays : (core : Core) (m : Message) → (complete core m).profile ≡ core.profile
profile_stays core m = ap (λ (c : Core). c.profile) (complete_with core.profile core m)

pub ends_with : (q : Profile) (core : Core) (js : List Entry) (items : List Item) →
    with_profile q (ends_at (record { core = core; served = js }) items).core ≡ (ends_at (record { core = with_profile q core; served = js }) items).core
ends_with q core js [] = refl
ends_with q core js (Completes s m ∷ items) = grind (arith, complete_with, ends_with q (complete core m) js items)
ends_with q core js (Serves k ∷ items) = ends_with q core (js ++ k ∷ []) items
ends_with q core js (item ∷ items) = ends_with q core js items

pub ends_agree : EndsAgree
ends_agree p q items = ends_with q (start_of p).core [] items

-- the items lead to the profile that they began with
pub profile_end : (p : Profile) (items : List Item) → (ends_at (start_of p) items).core.profile ≡ p
profile_end p items = ap (λ (c : Core). c.profile) (sym (ends_agree p p items))

-- the end of the items by the profile Base
pub at_base : (p : Profile) (items : List Item) → with_profile Base (ends_at (start_of p) items).core ≡ (ends_at start items).core
at_base p items = ends_agree p Base items

pub phase_at_base : (p : Profile) (items : List Item) → (ends_at (start_of p) items).core.phase ≡ (ends_at start items).core.phase
phase_at_base p items = ap (λ (c : Core). c.phase) (at_base p items)

pub reply_at_base : (p : Profile) (items : List Item) (m : Message) → request_of_reply (ends_at (start_of p) items).core m ≡ request_of_reply (ends_at start items).core m
reply_at_base p items m = ap (λ c. request_of_reply c m) (at_base p items)

known_with : (q : Profile) (core : Core) (k : ℕ) (items : List Item) → known_from (with_profile q core) k items ≡ known_from core k items
known_with q core k [] = refl
known_with q core k (Starts s m ∷ items) = ap (λ later. if is_reply_to core m k then Some (length core.entries) else later) (known_with q core k items)
known_with q core k (Completes s m ∷ items) = ap (λ c. known_from c k items) (complete_with q core m) ∙ known_with q (complete core m) k items
known_with q core k (item ∷ items) = known_with q core k items

-- the counts of the items by the profile Base
pub known_at_base : (p : Profile) (items : List Item) (k : ℕ) → known_from (start_of p).core k items ≡ known_count items k
known_at_base p items k = sym (known_with Base (start_of p).core k items)
