-- A reply starts before it shows or ends anything.
use Rattle.nbd_laws.proofs.Common.{and_parts, ◌≡◌, ℕ, ◌≤◌, ◌&&◌, List, [], ◌∷◌, length, refl, sym, ◌∙◌, ap, subst, inl, inr, Option, Some, None, true, arith, Message, Side, Client, Server, Profile, Base, Item, Byte, Starts, Completes, Serves, ends_reply, Both, Reader, Rest, get, put, fresh_of, with_message, known_count, known_from, noted, IsRunOf, complete, ends_at, is_reply_to, Core, start, start_of, with_profile}
use Rattle.nbd_laws.proofs.{reading.{NotedLemmas.{core_led, known_of_run}, ReaderLemmas.{led, with_byte}}, runs.{ProfileLemmas.{at_base, known_at_base}, RunLemmas.core_end-ends_at, TraceLemmas.length-complete}, service.{DueLemmas.{ended_complete, noted_cases, shown_at, shown_complete, shows_at}, InsideLemmas.core_end}}

-- so many requests had completed when the first reply to request k started, and no fewer when it showed or ended something
pub record IsSooner (k : ℕ) (κ : Option ℕ) (core : Core) : Type 0 where
  pub bound : (u : ℕ) → κ ≡ Some u → u ≤ length core.entries
  pub shown : (x v : ℕ) → shown_at core k x ≡ Some v → (u : ℕ) × (κ ≡ Some u) × (u ≤ v) × (v ≤ length core.entries)
  pub ended : (v : ℕ) → core.ended_at k ≡ Some v → (u : ℕ) × (κ ≡ Some u) × (u ≤ v) × (v ≤ length core.entries)

-- one more message, before whose first byte so many requests had completed
sooner_complete : (k : ℕ) (κ : Option ℕ) (core : Core) (m : Message) (n : ℕ) → n ≤ length core.entries → IsSooner k κ core → IsSooner k (noted κ (is_reply_to core m k) n) (complete core m)
sooner_complete k κ core m n within h = record {
  bound = λ u e. elim (noted_cases κ (is_reply_to core m k) n u e) [
    | inl a ↦ (let l : u ≤ length core.entries = h.bound u a in omega (arith, l, grows))
    | inr a ↦ omega (arith, a.1, within, grows)
  ];
  shown = λ x v e. elim (noted_cases (shown_at core k x) (is_reply_to core m k && shows_at core m k x) (length core.entries) v (sym (shown_complete core m k x) ∙ e)) [
    | inl a ↦ before v (h.shown x v a)
    | inr a ↦ now v a.1 (and_parts (is_reply_to core m k) (shows_at core m k x) a.0).0
  ];
  ended = λ v e. elim (noted_cases (core.ended_at k) (is_reply_to core m k && ends_reply m) (length core.entries) v (sym (ended_complete core m k) ∙ e)) [
    | inl a ↦ before v (h.ended v a)
    | inr a ↦ now v a.1 (and_parts (is_reply_to core m k) (ends_reply m) a.0).0
  ];
}
  where
    grows : length core.entries ≤ length (complete core m).entries
    grows = elim (length-complete core m) [ inl q ↦ omega arith | inr q ↦ omega arith ]

    before : (v : ℕ) → (u : ℕ) × (κ ≡ Some u) × (u ≤ v) × (v ≤ length core.entries) → (u : ℕ) × (noted κ (is_reply_to core m k) n ≡ Some u) × (u ≤ v) × (v ≤ length (complete core m).entries)
    before v r = let l : v ≤ length core.entries = r.3 in (r.0, ap (λ o. noted o (is_reply_to core m k) n) r.1, r.2, omega (arith, l, grows))

    now : (v : ℕ) → v ≡ length core.entries → is_reply_to core m k ≡ true → (u : ℕ) × (noted κ (is_reply_to core m k) n ≡ Some u) × (u ≤ v) × (v ≤ length (complete core m).entries)
    now v e r = go κ (λ u. h.bound u)
      where
        go : (o : Option ℕ) → ((u : ℕ) → o ≡ Some u → u ≤ length core.entries) → (u : ℕ) × (noted o (is_reply_to core m k) n ≡ Some u) × (u ≤ v) × (v ≤ length (complete core m).entries)
        go (Some u) bound = let l : u ≤ length core.entries = bound u refl in (u, refl, omega (arith, e, l), omega (arith, e, grows))
        go None bound = (n, ap (λ b. noted None b n) r, omega (arith, e, within), omega (arith, e, grows))

-- what had completed before a side's bytes has completed
abbrev AreOlder : Reader → Type 0
AreOlder reader = (s : Side) → length (get reader.rests s).since.entries ≤ length reader.core.entries

older_put : (rests : Both Rest) (n : ℕ) (s : Side) (rest : Rest) → length rest.since.entries ≤ n → ((u : Side) → length (get rests u).since.entries ≤ n) → (u : Side) → length (get (put rests s rest) u).since.entries ≤ n
older_put rests n Client rest here all Client = here
older_put rests n Client rest here all Server = all Server
older_put rests n Server rest here all Client = all Client
older_put rests n Server rest here all Server = here

sooner_led : (k : ℕ) (items : List Item) (reader : Reader) → AreOlder reader → IsSooner k (reader.known k) reader.core → IsSooner k ((led reader items).known k) (led reader items).core
sooner_led k [] reader old h = h
sooner_led k (Byte s b ∷ items) reader old h =
    sooner_led k items (with_byte reader s b) (older_put reader.rests _ s _ ((grind arith)) old) h
sooner_led k (Starts s m ∷ items) reader old h = sooner_led k items reader old h
sooner_led k (Completes s m ∷ items) reader old h =
    sooner_led k items (with_message reader s (get reader.rests s) m)
    (older_put reader.rests _ s _ (grown (old s)) (λ u. grown (old u)))
    (sooner_complete k (reader.known k) reader.core m (length (get reader.rests s).since.entries) (old s) h)
  where
    grown : {n : ℕ} → n ≤ length reader.core.entries → n ≤ length (complete reader.core m).entries
    grown l = elim (length-complete reader.core m) [ inl q ↦ omega (arith, l, q) | inr q ↦ omega (arith, l, q) ]
sooner_led k (Serves e ∷ items) reader old h = sooner_led k items reader old h

-- at the end of a run
pub sooner_at_end : {profile : Profile} (items : List Item) → IsRunOf profile items → (k : ℕ) → IsSooner k (known_count items k) (ends_at start items).core
sooner_at_end {profile} items run k =
    let same : with_profile Base (core_end (start_of profile).core items) ≡ (ends_at start items).core =
    ap (with_profile Base) (core_end-ends_at (start_of profile).core [] items) ∙ at_base profile items in
    let first : Reader = fresh_of profile in
    let end : IsSooner k ((led first items).known k) (led first items).core =
    sooner_led k items first (elim [ Client ↦ omega arith | Server ↦ omega arith ]) (record { bound = λ u e. absurd (cc); shown = λ x v e. absurd (cc); ended = λ v e. absurd (cc) }) in
    let h : IsSooner k (known_from (start_of profile).core k items) (core_end (start_of profile).core items) =
    subst (λ o. IsSooner k o (core_end (start_of profile).core items)) (known_of_run items run k) (subst (IsSooner k ((led first items).known k)) (core_led first items) end) in
    subst (λ c. IsSooner k (known_count items k) c) same
    (subst (λ o. IsSooner k o (with_profile Base (core_end (start_of profile).core items))) (known_at_base profile items k) (record { bound = h.bound; shown = h.shown; ended = h.ended }))
