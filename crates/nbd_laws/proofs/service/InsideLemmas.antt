-- What lies inside a request does not change while messages complete.
use Rattle.nbd_laws.proofs.Common.{◌≡◌, ℕ, zero, suc, ◌<◌, ◌≤◌, List, [], ◌∷◌, ◌++◌, length, refl, sym, ◌∙◌, inl, inr, Option, arith, le_refl, Entry, Message, Greeting, ClientFlags, Choice, Answer, Exported, Profile, Base, Wide, Item, Byte, Starts, Completes, Serves, Exporting, Operation, is_proper, MayComplete, Obeys, complete, inside_at, inside_operation, is_by_chunk, Core, Phase, Greet, Flags, Choosing, Naming, Aborting, Answering, Transmission, operation, with_reply_at}
use Rattle.nbd_laws.proofs.{judge.WholeLemmas.allowed, runs.{PrefixLemmas.{InTransmission, asks, in_transmission, phase-complete, transmission_row}, TraceLemmas.length-complete}}
unfoldable use Rattle.nbd_laws.proofs.judge.WholeLemmas.{IsAllowed}

-- the core after the items
abbrev pub core_end : Core → List Item → Core
core_end core [] = core
core_end core (Completes s m ∷ items) = core_end (complete core m) items
core_end core (Byte s b ∷ items) = core_end core items
core_end core (Starts s m ∷ items) = core_end core items
core_end core (Serves e ∷ items) = core_end core items

pub entries_grow : (core : Core) (items : List Item) → length core.entries ≤ length (core_end core items).entries
entries_grow core [] = le_refl _
entries_grow core (Completes s m ∷ items) = grind (arith, length-complete, entries_grow (complete core m) items)
entries_grow core (item ∷ items) = entries_grow core items

-- requests come in transmission alone
abbrev pub IsSettled : Core → Type 0
IsSettled core = 0 < length core.entries → (export : Exporting) × (core.phase ≡ Transmission export)

-- a message completes in a phase without requests
settled_before : (core end : Core) (phase : Phase) → IsSettled core → core.phase ≡ phase → ((export : Exporting) → phase ≡ Transmission export → ⊥) → end.entries ≡ core.entries → IsSettled end
settled_before core end phase settled q other same l = grind arith

settled_in : (core : Core) (phase : Phase) (m : Message) → core.phase ≡ phase → IsAllowed core phase m → IsSettled core → IsSettled (complete core m)
unfolding IsAllowed complete
settled_in core Greet (Greeting flags) q ok h = settled_before core (complete core (Greeting flags)) Greet h q (λ export t. cc) refl
settled_in core Flags (ClientFlags flags) q ok h = settled_before core (complete core (ClientFlags flags)) Flags h q (λ export t. cc) refl
settled_in core Choosing (Choice id p) q ok h = settled_before core (complete core (Choice id p)) Choosing h q (λ export t. cc) refl
settled_in core Naming (Exported size flags padded) q ok h = settled_before core (complete core (Exported size flags padded)) Naming h q (λ export t. cc) refl
settled_in core Aborting (Answer option kind p) q ok h = settled_before core (complete core (Answer option kind p)) Aborting h q (λ export t. cc) refl
settled_in core (Answering asked asked_with info) (Answer option kind p) q ok h = grind (arith, settled_before)
settled_in core (Transmission export) m q ok h = λ l. (export, phase-complete core export m (transmission_row core export m ok) ∙ q)
settled_in core phase m q ok h = absurd ok

pub settled_complete : (core : Core) (m : Message) → MayComplete core core.phase m → IsSettled core → IsSettled (complete core m)
settled_complete core m ok h = settled_in core core.phase m refl (allowed core core.phase m ok) h

inside_replied : (export : Option Exporting) (j : ℕ) (m : Message) (es : List Operation) (k : ℕ) → inside_operation export (operation k (with_reply_at j m es)) ≡ inside_operation export (operation k es)
unfolding is_proper
inside_replied export j m [] k = refl
inside_replied export zero m (e ∷ es) k = refl
inside_replied export (suc zero) m (e ∷ es) zero = refl
inside_replied export (suc zero) m (e ∷ es) (suc zero) = grind arith
inside_replied export (suc (suc j)) m (e ∷ es) (suc (suc k)) = inside_replied export (suc j) m es (suc k)
inside_replied export j m es k = refl

operation_before : (k : ℕ) (es : List Operation) (e : Operation) → k ≤ length es → operation k (es ++ e ∷ []) ≡ operation k es
operation_before zero [] e l = refl
operation_before (suc k) [] e l = absurd (omega arith)
operation_before zero (x ∷ es) e l = refl
operation_before (suc zero) (x ∷ es) e l = refl
operation_before (suc (suc k)) (x ∷ es) e l = operation_before (suc k) es e (omega arith)

inside_complete : (core : Core) (m : Message) → MayComplete core core.phase m → IsSettled core → (k : ℕ) → 0 < k → k ≤ length core.entries → inside_at (complete core m) k ≡ inside_at core k
unfolding complete
inside_complete core m ok settled k p l =
    let t : (export : Exporting) × (core.phase ≡ Transmission export) = settled (omega arith) in
    let i : InTransmission core t.0 m = in_transmission t.1 ok in
    grind (arith, t, i, in_transmission, asks, operation_before, inside_replied, phase-complete)

-- what lies inside a request that has completed lies inside it at the end
pub inside_end : (items : List Item) (core : Core) (js : List Entry) → IsSettled core → Obeys (record { core = core; served = js }) items →
    (k : ℕ) → 0 < k → k ≤ length core.entries → inside_at core k ≡ inside_at (core_end core items) k
inside_end [] core js settled ob k p l = refl
inside_end (Completes s m ∷ items) core js settled ob k p l =
    let more : k ≤ length (complete core m).entries = elim (length-complete core m) [ inl e ↦ omega arith | inr e ↦ omega arith ] in
    sym (inside_complete core m ob.0.0 settled k p l) ∙ inside_end items (complete core m) js (settled_complete core m ob.0.0 settled) ob.1 k p more
inside_end (Serves e ∷ items) core js settled ob k p l = inside_end items core (js ++ e ∷ []) settled ob.1 k p l
inside_end (item ∷ items) core js settled ob k p l = inside_end items core js settled ob.1 k p l

-- a reply changes nothing of whether its request is served by chunk
chunk_replied : (q : Profile) (j : ℕ) (m : Message) (es : List Operation) (k : ℕ) → is_by_chunk q (operation k (with_reply_at j m es)) ≡ is_by_chunk q (operation k es)
chunk_replied q j m [] k = refl
chunk_replied Base (suc zero) m (e ∷ es) (suc zero) = refl
chunk_replied Wide (suc zero) m (e ∷ es) (suc zero) = refl
chunk_replied q (suc (suc j)) m (e ∷ es) (suc (suc k)) = chunk_replied q (suc j) m es (suc k)
chunk_replied q j m es k = refl

-- whether a request is served by chunk is the same at the end
pub chunk_end : (q : Profile) (core : Core) (items : List Item) (k : ℕ) → k ≤ length core.entries → is_by_chunk q (operation k core.entries) ≡ is_by_chunk q (operation k (core_end core items).entries)
unfolding complete
chunk_end q core [] k l = refl
chunk_end q core (Completes s m ∷ items) k l =
    let more : k ≤ length (complete core m).entries = elim (length-complete core m) [ inl e ↦ omega arith | inr e ↦ omega arith ] in
    (grind (arith, operation_before, chunk_replied)) ∙ chunk_end q (complete core m) items k more
chunk_end q core (item ∷ items) k l = chunk_end q core items k l
