-- When requests have to be served in a run, walking from a moment on.
use Rattle.nbd_laws.proofs.Common.{◌≡◌, ℕ, ◌<◌, ◌≤◌, ◌⊎◌, ◌||◌, ◌&&◌, not, List, [], ◌∷◌, ◌++◌, length, map, is_some, refl, sym, ◌∙◌, ap, inl, inr, Option, Some, None, Bool, true, false, arith, nat_le, if◌then◌else◌, leb-true, le-leb, Entry, Message, Profile, Item, Byte, Starts, Completes, Serves, Operation, ends_reply, first_shown, known_from, lesser_of, Obeys, complete, core_with_request, gives, inside_at, is_by_chunk, is_reply_to, is_this, makes_due, noted, reply_to, shown_with, Core, Shown, operation, Piece, byte_at, piece_offset, piece_size}
use Rattle.nbd_laws.proofs.{service.InsideLemmas.{IsSettled, chunk_end, core_end, entries_grow, inside_end, settled_complete}, runs.{ProfileLemmas.profile_stays, TraceLemmas.{answering, length-complete}}}
use Rattle.std.proofs.lemmas.Bool.{eqb-true}

-- the count of requests here where the condition holds, or else what came later
abbrev pub known_if : Bool → Core → Option ℕ → Option ℕ
known_if b core later = if b then Some (length core.entries) else later

-- how many requests had completed when request k had to be served for x
abbrev pub due_from : Core → List Item → (k x : ℕ) → Option ℕ
due_from core [] k x = None
due_from core (Byte s b ∷ items) k x = due_from core items k x
due_from core (Starts s m ∷ items) k x = known_if (makes_due core (Starts s m) k x) core (due_from core items k x)
due_from core (Completes s m ∷ items) k x = known_if (makes_due core (Completes s m) k x) core (due_from (complete core m) items k x)
due_from core (Serves e ∷ items) k x = due_from core items k x

-- what is known of a request has completed
pub known_within : (core : Core) (items : List Item) (k n : ℕ) → known_from core k items ≡ Some n → (0 < k) × (k ≤ length (core_end core items).entries)
known_within core [] k n e = absurd (cc)
known_within core (Starts s m ∷ items) k n e = grind (arith, core_end, answering, entries_grow, known_within core items k n)
known_within core (Completes s m ∷ items) k n e = known_within (complete core m) items k n e
known_within core (item ∷ items) k n e = known_within core items k n e

-- a request that is not served by chunk is due when its first reply starts
pub due_known : (q : Profile) (items : List Item) (core : Core) (js : List Entry) → Obeys (record { core = core; served = js }) items → core.profile ≡ q → (k x : ℕ) →
    is_by_chunk q (operation k (core_end core items).entries) ≡ false → due_from core items k x ≡ known_from core k items
due_known q [] core js ob prof k x other = refl
due_known q (Byte s b ∷ items) core js ob prof k x other = due_known q items core js ob.1 prof k x other
due_known q (Starts s m ∷ items) core js ob prof k x other = go (is_reply_to core m k) refl (due_known q items core js ob.1 prof k x other)
  where
    go : (b : Bool) → is_reply_to core m k ≡ b → due_from core items k x ≡ known_from core k items → known_if (b && not (is_by_chunk core.profile (operation k core.entries))) core (due_from core items k x) ≡ known_if b core (known_from core k items)
    go b r ih = grind (arith, answering, chunk_end)
due_known q (Completes s m ∷ items) core js ob prof k x other = go (is_reply_to core m k) refl ∙ due_known q items (complete core m) js ob.1 (profile_stays core m ∙ prof) k x other
  where
    go : (b : Bool) → is_reply_to core m k ≡ b →
        known_if (b && (is_by_chunk core.profile (operation k core.entries) && (ends_reply m || (inside_at core k x && gives (operation k core.entries) m x)))) core (due_from (complete core m) items k x) ≡ due_from (complete core m) items k x
    go true r =
        let w = answering core m k r in
        let c : is_by_chunk core.profile (operation k core.entries) ≡ false = ap (λ p. is_by_chunk p (operation k core.entries)) prof ∙ chunk_end q core (Completes s m ∷ items) k w.1 ∙ other in
        ap (λ b. known_if (b && (ends_reply m || (inside_at core k x && gives (operation k core.entries) m x))) core (due_from (complete core m) items k x)) c
    go false r = refl
due_known q (Serves e ∷ items) core js ob prof k x other = due_known q items core _ ob.1 prof k x other

-- the first count, or else a later one
abbrev pub or_later : Option ℕ → Option ℕ → Option ℕ
or_later (Some n) later = Some n
or_later None later = later

pub or_later-assoc : (a b c : Option ℕ) → or_later (or_later a b) c ≡ or_later a (or_later b c)
or_later-assoc a b c = grind arith

and_yes : (b : Bool) → (b && true) ≡ b
and_yes b = grind arith

-- what is noted with a message
pub noted_none : (o : Option ℕ) (n : ℕ) → o ≡ noted o false n
noted_none o n = grind arith

first_more : (xs ys : List Shown) (x : ℕ) → first_shown (xs ++ ys) x ≡ or_later (first_shown xs x) (first_shown ys x)
first_more [] ys x = refl
first_more (s ∷ xs) ys x = grind (arith, first_more xs ys x)

first_of_pieces : (ps : List Piece) (n x : ℕ) → first_shown (map (λ p. record { offset = piece_offset p; size = piece_size p; count = n }) ps) x ≡ (if is_some (byte_at ps x) then Some n else None)
first_of_pieces [] n x = refl
first_of_pieces (p ∷ ps) n x = grind (arith, first_of_pieces ps n x)

-- the count of the first message before the last one that showed x
abbrev pub shown_at : Core → (k x : ℕ) → Option ℕ
shown_at core k x = first_shown (core.shown k) x

-- the message shows x, and is not the last one
abbrev pub shows_at : Core → Message → (k x : ℕ) → Bool
shows_at core m k x = gives (operation k core.entries) m x && not (ends_reply m)

first_with : (o : Option Operation) (m : Message) (n x : ℕ) → first_shown (shown_with o m n) x ≡ (if gives o m x && not (ends_reply m) then Some n else None)
first_with o m n x = grind (arith, first_of_pieces, and_yes)

reply_shown : (o : Option ℕ) (core : Core) (m : Message) (k x : ℕ) → shown_at (reply_to o core m) k x ≡ noted (shown_at core k x) (is_this o k && shows_at core m k x) (length core.entries)
reply_shown o core m k x = grind (arith, noted_none, first_more, eqb-true, first_with)

request_shown : (b : Bool) (core : Core) (e : Operation) (k x n : ℕ) → shown_at (core_with_request b core e) k x ≡ noted (shown_at core k x) false n
request_shown b core e k x n = grind (arith, noted_none)

pub shown_complete : (core : Core) (m : Message) (k x : ℕ) → shown_at (complete core m) k x ≡ noted (shown_at core k x) (is_reply_to core m k && shows_at core m k x) (length core.entries)
unfolding complete
shown_complete core m k x = grind (arith, request_shown, reply_shown, noted_none)

pub ended_complete : (core : Core) (m : Message) (k : ℕ) → (complete core m).ended_at k ≡ noted (core.ended_at k) (is_reply_to core m k && ends_reply m) (length core.entries)
unfolding complete
ended_complete core m k = grind (arith, noted_none)

-- what was noted, or is noted now
pub noted_cases : (o : Option ℕ) (b : Bool) (n v : ℕ) → noted o b n ≡ Some v → (o ≡ Some v) ⊎ ((b ≡ true) × (v ≡ n))
noted_cases o b n v e = grind arith

-- no more is noted than has completed
pub record IsBounded (core : Core) : Type 0 where
  pub shown : (k x n : ℕ) → shown_at core k x ≡ Some n → n ≤ length core.entries
  pub ended : (k n : ℕ) → core.ended_at k ≡ Some n → n ≤ length core.entries

pub bounded_complete : (core : Core) (m : Message) → IsBounded core → IsBounded (complete core m)
bounded_complete core m h = record {
  shown = λ k x n e. elim (noted_cases (shown_at core k x) (is_reply_to core m k && shows_at core m k x) (length core.entries) n (sym (shown_complete core m k x) ∙ e)) [
    | inl a ↦ (let l : n ≤ length core.entries = h.shown k x n a in omega (arith, l, grows))
    | inr a ↦ omega (arith, a.1, grows)
  ];
  ended = λ k n e. elim (noted_cases (core.ended_at k) (is_reply_to core m k && ends_reply m) (length core.entries) n (sym (ended_complete core m k) ∙ e)) [
    | inl a ↦ (let l : n ≤ length core.entries = h.ended k n a in omega (arith, l, grows))
    | inr a ↦ omega (arith, a.1, grows)
  ];
}
  where
    grows : length core.entries ≤ length (complete core m).entries
    grows = elim (length-complete core m) [ inl q ↦ omega arith | inr q ↦ omega arith ]

pub known_or : (b : Bool) (core : Core) (later : Option ℕ) → or_later (if b then Some (length core.entries) else None) later ≡ known_if b core later
known_or b core later = grind arith

-- the count by what a READ has shown at an offset, and by its end
abbrev pub by_chunk : (within : Bool) → (shown ended : Option ℕ) → Option ℕ
by_chunk within shown ended = lesser_of (if within then shown else None) ended

-- one more message of its reply
by_chunk_noted : (within shows ends : Bool) (shown ended : Option ℕ) (n : ℕ) → ((v : ℕ) → shown ≡ Some v → v ≤ n) → ((v : ℕ) → ended ≡ Some v → v ≤ n) →
    by_chunk within (noted shown shows n) (noted ended ends n) ≡ or_later (by_chunk within shown ended) (if ends || (within && shows) then Some n else None)
by_chunk_noted within shows ends shown ended n hs he = grind (arith, le-leb, nat_le, leb-true)

-- what a READ by chunk has shown at the end is what fell due on the way
pub due_chunk : (q : Profile) (items : List Item) (core : Core) (js : List Entry) → Obeys (record { core = core; served = js }) items → IsSettled core → core.profile ≡ q → IsBounded core → (k x : ℕ) →
    is_by_chunk q (operation k (core_end core items).entries) ≡ true →
    by_chunk (inside_at (core_end core items) k x) (shown_at (core_end core items) k x) ((core_end core items).ended_at k)
    ≡ or_later (by_chunk (inside_at (core_end core items) k x) (shown_at core k x) (core.ended_at k)) (due_from core items k x)
due_chunk q [] core js ob settled prof h k x chunk = grind arith
due_chunk q (Byte s b ∷ items) core js ob settled prof h k x chunk = due_chunk q items core js ob.1 settled prof h k x chunk
due_chunk q (Starts s m ∷ items) core js ob settled prof h k x chunk = grind (arith, core_end, answering, chunk_end, due_chunk q items core js ob.1 settled prof h k x chunk)
due_chunk q (Completes s m ∷ items) core js ob settled prof h k x chunk =
    due_chunk q items next js ob.1 (settled_complete core m ob.0.0 settled) (profile_stays core m ∙ prof) (bounded_complete core m h) k x chunk
    ∙ ap (λ o. or_later o later) (here (is_reply_to core m k) refl)
    ∙ or_later-assoc before (if falls then Some (length core.entries) else None) later
    ∙ ap (or_later before) (known_or falls core later)
  where
    next : Core
    next = complete core m

    within : Bool
    within = inside_at (core_end next items) k x

    later : Option ℕ
    later = due_from next items k x

    before : Option ℕ
    before = by_chunk within (shown_at core k x) (core.ended_at k)

    falls : Bool
    falls = makes_due core (Completes s m) k x

    -- what a message of its reply makes due
    fall : (r : Bool) → is_reply_to core m k ≡ r →
        (if r && (ends_reply m || (within && gives (operation k core.entries) m x)) then Some (length core.entries) else None)
        ≡ (if r && (is_by_chunk core.profile (operation k core.entries) && (ends_reply m || (inside_at core k x && gives (operation k core.entries) m x))) then Some (length core.entries) else None)
    fall true r =
        let w = answering core m k r in
        let c : is_by_chunk core.profile (operation k core.entries) ≡ true = ap (λ p. is_by_chunk p (operation k core.entries)) prof ∙ chunk_end q core (Completes s m ∷ items) k w.1 ∙ chunk in
        let i : inside_at core k ≡ inside_at (core_end next items) k = inside_end (Completes s m ∷ items) core js settled ob k w.0 w.1 in
        sym (ap (λ b. if b && (ends_reply m || (inside_at core k x && gives (operation k core.entries) m x)) then Some (length core.entries) else None) c
        ∙ ap (λ f. if ends_reply m || (f x && gives (operation k core.entries) m x) then Some (length core.entries) else None) i)
    fall false r = refl

    noted_by : (r : Bool) → by_chunk within (noted (shown_at core k x) (r && shows_at core m k x) (length core.entries)) (noted (core.ended_at k) (r && ends_reply m) (length core.entries))
        ≡ or_later before (if r && (ends_reply m || (within && gives (operation k core.entries) m x)) then Some (length core.entries) else None)
    noted_by true = by_chunk_noted within (shows_at core m k x) (ends_reply m) (shown_at core k x) (core.ended_at k) (length core.entries) (λ v e. h.shown k x v e) (λ v e. h.ended k v e)
        ∙ ap (λ b. or_later before (if b then Some (length core.entries) else None)) (by_end (ends_reply m) within (gives (operation k core.entries) m x))
      where
        by_end : (d w g : Bool) → (d || (w && (g && not d))) ≡ (d || (w && g))
        by_end true w g = refl
        by_end false w g = ap (λ b. w && b) (and_yes g)
    noted_by r = grind (arith, by_chunk_noted, within, before, and_yes)

    here : (r : Bool) → is_reply_to core m k ≡ r → by_chunk within (shown_at next k x) (next.ended_at k) ≡ or_later before (if falls then Some (length core.entries) else None)
    here r e = grind (arith, within, shown_complete, ended_complete, noted_by, before, fall)
due_chunk q (Serves e ∷ items) core js ob settled prof h k x chunk = due_chunk q items core _ ob.1 settled prof h k x chunk
