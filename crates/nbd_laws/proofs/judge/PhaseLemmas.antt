-- What the other side's messages leave as it was.
use Rattle.nbd_laws.proofs.Common.{◌≡◌, ℕ, suc, ◌+◌, ◌⊎◌, ◌==◌, List, [], ◌∷◌, ◌++◌, refl, sym, ◌∙◌, ap, subst, inl, inr, Some, None, Bool, true, false, not, ◌&&◌, if◌then◌else◌, append-nil, append_assoc, arith, Side, Client, Server, Message, turn, Operation, Exporting, is_finished, MayComplete, complete, core_with_request, side, Phase, Transmission, Core, in_force, operation, is_awaiting, target, target_from}
use Rattle.nbd_laws.proofs.{reading.ReaderLemmas.{Later, at_once, behind}, judge.WholeLemmas.allowed}
unfoldable use Rattle.nbd_laws.proofs.judge.WholeLemmas.{IsAllowed}

abbrev pub IsTransmitting : Phase → Type 0
IsTransmitting phase = (export : Exporting) × (phase ≡ Transmission export)

-- in the negotiation only the side whose turn it is completes a message
pub completes_in_turn : (core : Core) (phase : Phase) (m : Message) → MayComplete core phase m → (turn phase ≡ Some (side m)) ⊎ IsTransmitting phase
unfolding IsAllowed
completes_in_turn core phase m h = grind (arith, allowed core phase m h)

pub phase-requested : (b : Bool) (core : Core) (e : Operation) → (core_with_request b core e).phase ≡ core.phase
phase-requested b core e = grind arith

-- transmission does not end
pub transmission_stays : (core : Core) (export : Exporting) (m : Message) → MayComplete core (Transmission export) m → (complete core m).phase ≡ core.phase
unfolding IsAllowed complete
transmission_stays core export m h = grind (arith, phase-requested, allowed core (Transmission export) m h)

pub Later-transmission : {s : Side} {old now : Core} → Later s old now → (export : Exporting) → old.phase ≡ Transmission export → now.phase ≡ Transmission export
Later-transmission at_once export e = e
Later-transmission (behind {c = c} m ne ok l) export e =
    Later-transmission l export (transmission_stays c export m (subst (λ p. MayComplete c p m) e ok) ∙ e)

-- in transmission the contexts in force stay
pub in_force_stays : (core : Core) (export : Exporting) (m : Message) → MayComplete core (Transmission export) m → in_force (complete core m) ≡ in_force core
unfolding IsAllowed complete
in_force_stays core export m h = grind (arith, allowed core (Transmission export) m h)

pub extended-requested : (b : Bool) (core : Core) (e : Operation) → (core_with_request b core e).extended ≡ core.extended
extended-requested b core e = grind arith

pub Later-extended : {s : Side} {old now : Core} → Later s old now → (export : Exporting) → old.phase ≡ Transmission export → now.extended ≡ old.extended
unfolding IsAllowed complete
Later-extended at_once export e = refl
Later-extended (behind {c = c} m ne ok l) export e =
    let may : MayComplete c (Transmission export) m = subst (λ p. MayComplete c p m) e ok in
    Later-extended l export (transmission_stays c export m may ∙ e) ∙ (grind (arith, extended-requested, allowed c (Transmission export) m may))

-- while a side is in a message of the negotiation, nothing completes
pub Later-turn : {s : Side} {old now : Core} → Later s old now → turn old.phase ≡ Some s → old ≡ now
Later-turn at_once t = refl
Later-turn {s} (behind {c = c} m ne ok l) t = absurd (elim (completes_in_turn c c.phase m ok) [
  | inl q ↦ (let r : side m ≡ s = cc in ne r)
  | inr q ↦ (let r : turn c.phase ≡ None = ap turn q.1 in (cc))
])

-- the server's messages do not disconnect the client
pub Later-disconnected : {old now : Core} → Later Client old now → now.disconnected ≡ old.disconnected
unfolding complete
Later-disconnected at_once = refl
Later-disconnected (behind {c = c} m ne ok l) = Later-disconnected l ∙ (grind arith)

-- the first outstanding request with a cookie stays the first
target_from-append : (n cookie : ℕ) (es more : List Operation) (k : ℕ) → target_from n cookie es ≡ Some k → target_from n cookie (es ++ more) ≡ Some k
target_from-append n cookie [] more k h = absurd (cc)
target_from-append n cookie (e ∷ es) more k h = go ((e.cookie == cookie) && not (is_finished e)) h (λ h'. target_from-append (suc n) cookie es more k h')
  where
    go : (b : Bool) → (if b then Some (suc n) else target_from (suc n) cookie es) ≡ Some k → (target_from (suc n) cookie es ≡ Some k → target_from (suc n) cookie (es ++ more) ≡ Some k) → (if b then Some (suc n) else target_from (suc n) cookie (es ++ more)) ≡ Some k
    go b h ih = grind arith

pub target-append : (cookie : ℕ) (es more : List Operation) (k : ℕ) → target cookie es ≡ Some k → target cookie (es ++ more) ≡ Some k
unfolding target
target-append cookie es more k h = target_from-append 0 cookie es more k h

-- requests were added, and nothing else changed of the requests or of structured replies
pub record IsAppended (old now : Core) : Type 0 where
  pub more : List Operation
  pub entries_are : now.entries ≡ old.entries ++ more
  pub structured_is : now.structured ≡ old.structured
  pub profile_is : now.profile ≡ old.profile
  pub extended_is : now.extended ≡ old.extended

-- while the server is in a message, the client only adds requests
pub Later-appended : {old now : Core} → Later Server old now → (export : Exporting) → old.phase ≡ Transmission export → IsAppended old now
unfolding IsAllowed complete
Later-appended {old} at_once export t = record { more = []; entries_are = sym (append-nil old.entries); structured_is = refl; profile_is = refl; extended_is = refl }
Later-appended {old} {now} (behind {c = c} m ne ok l) export t =
    let ok' : MayComplete c (Transmission export) m = subst (λ p. MayComplete c p m) t ok in
    let a : IsAppended c (complete c m) = grind (arith, append-nil, allowed c (Transmission export) m ok') in
    let b : IsAppended (complete c m) now = Later-appended l export (transmission_stays c export m ok' ∙ t) in
    record {
      more = a.more ++ b.more;
      entries_are = b.entries_are ∙ ap (λ es. es ++ b.more) a.entries_are ∙ append_assoc c.entries a.more b.more;
      structured_is = b.structured_is ∙ a.structured_is;
      profile_is = b.profile_is ∙ a.profile_is;
      extended_is = b.extended_is ∙ a.extended_is;
    }

-- the request that a cookie finds
pub record IsFound (cookie k : ℕ) (es : List Operation) : Type 0 where
  pub found : Operation
  pub numbered : operation k es ≡ Some found
  pub waits : is_awaiting cookie found ≡ true

find_from : (n cookie : ℕ) (es : List Operation) (k : ℕ) → target_from n cookie es ≡ Some k → (j : ℕ) × (k ≡ n + suc j) × IsFound cookie (suc j) es
find_from n cookie [] k h = absurd (cc)
find_from n cookie (x ∷ es) k h = go (is_awaiting cookie x) refl h (find_from (suc n) cookie es k)
  where
    go : (b : Bool) → is_awaiting cookie x ≡ b → (if b then Some (suc n) else target_from (suc n) cookie es) ≡ Some k →
        (target_from (suc n) cookie es ≡ Some k → (j : ℕ) × (k ≡ suc n + suc j) × IsFound cookie (suc j) es) → (j : ℕ) × (k ≡ n + suc j) × IsFound cookie (suc j) (x ∷ es)
    go true q h ih = (let e : suc n ≡ k = cc in (0, omega arith, record { found = x; numbered = refl; waits = q }))
    go false q h ih = (let r = ih h in let e : k ≡ suc n + suc r.0 = r.1 in (suc r.0, omega arith, record { found = r.2.found; numbered = r.2.numbered; waits = r.2.waits }))

pub find : (cookie : ℕ) (es : List Operation) (k : ℕ) → target cookie es ≡ Some k → IsFound cookie k es
unfolding target
find cookie es k h = (let r = find_from 0 cookie es k h in let e : k ≡ suc r.0 = (let q : k ≡ 0 + suc r.0 = r.1 in omega arith) in subst (λ k. IsFound cookie k es) (sym e) r.2)

pub target_entry : (cookie : ℕ) (es : List Operation) (k : ℕ) → target cookie es ≡ Some k → (e : Operation) × (operation k es ≡ Some e)
target_entry cookie es k h = (let f : IsFound cookie k es = find cookie es k h in (f.found, f.numbered))
