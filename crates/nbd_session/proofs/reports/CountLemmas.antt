-- The request that a reply answers, by how many requests had completed when the reply started.
use Rattle.nbd_session.proofs.Common.{Client, some_held, none_held, ◌≡◌, ℕ, suc, ◌+◌, ◌<◌, List, [], ◌∷◌, ◌++◌, length, refl, sym, subst, inl, inr, Option, Some, None, arith, append-nil, le-leb, lt-leb, Side, Server, Operation, Exporting, Core, Phase, Transmission, target, target_from, decision_by_count, operation_counted, within, operation_of, decision, decision_with, judge, More, Rest, old_of, Kept, Later, Later-trans, old-empty, old-filled, IsAppended, Later-appended, Later-turn, kept_later, turn_of_reading}
use Rattle.nbd_laws.proofs.reading.ReaderLemmas.{Held}

above : (n cookie : ℕ) (es : List Operation) (j : ℕ) → target_from n cookie es ≡ Some j → n < j
above n cookie [] j h = absurd (cc)
above n cookie (e ∷ es) j h = grind (arith, above (suc n) cookie es j)

within_none : (count : ℕ) (o : Option ℕ) → ((k : ℕ) → o ≡ Some k → count < k) → within count o ≡ None
within_none count o h = grind (arith, lt-leb)

prefix_from : (n cookie : ℕ) (es more : List Operation) (count : ℕ) → count ≡ n + length es → target_from n cookie es ≡ within count (target_from n cookie (es ++ more))
prefix_from n cookie [] more count c = sym (within_none count (target_from n cookie more) (λ k e. (let l : n < k = above n cookie more k e in omega (arith, l, c))))
prefix_from n cookie (e ∷ es) more count c = grind (arith, prefix_from (suc n) cookie es more count (omega (arith, c)), within_none, above, le-leb)

-- where requests were only added, the count states the request that a cookie named before
pub entry_is_counted : (old now : Core) → IsAppended old now → (cookie : ℕ) → operation_of old now cookie ≡ operation_counted (length old.entries) now cookie
unfolding target
entry_is_counted old now a cookie = grind (arith, prefix_from)

-- the decisions of a server's bytes are those by the count; no other decision looks at it
pub decided_is_counted : (phase : Phase) (old now : Core) (s : Side) (bytes : List ℕ) → ((export : Exporting) → phase ≡ Transmission export → s ≡ Server → IsAppended old now) →
    decision phase old now s bytes ≡ decision_with phase (operation_counted (length old.entries) now) now s bytes
decided_is_counted phase old now s bytes h = grind (arith, entry_is_counted)

none_added : (core : Core) → IsAppended core core
none_added core = record { more = []; entries_are = sym (append-nil core.entries); structured_is = refl; profile_is = refl; extended_is = refl }

-- since a server's first byte requests were only added
kept_appended : {old now next : Core} {bytes : List ℕ} → Kept Server old now bytes → judge old now Server bytes ≡ More → Later Server now next → IsAppended old next
kept_appended {old} {now} {next} k m l =
    let later : Later Server old next = Later-trans (kept_later k) l in
    elim (turn_of_reading More k m (λ q. (cc))) [
      | inl t ↦ subst (IsAppended old) (Later-turn later t) (none_added old)
      | inr (export, t) ↦ Later-appended later export t
    ]

-- how many requests had completed before the first byte of a rest
abbrev pub count_of : Core → Rest → ℕ
count_of core rest = length (old_of core rest).entries

held_appended : {core : Core} {s : Side} {rest : Rest} → Held core s rest → s ≡ Server → IsAppended (old_of core rest) core
held_appended {s = Client} h q = absurd (cc)
held_appended {core} {s = Server} {rest = rest} (none_held r e) q = subst (λ old. IsAppended old core) (sym (old-empty core rest e)) (none_added core)
held_appended {core} {s = Server} {rest = rest} (some_held r now f k m l) q = subst (λ old. IsAppended old core) (sym (old-filled core rest f)) (kept_appended k m l)

-- what is decided of a reader's rest, by the count
pub held_counted : {core : Core} {s : Side} {rest : Rest} → Held core s rest → (bytes : List ℕ) → decision core.phase (old_of core rest) core s bytes ≡ decision_by_count (count_of core rest) core s bytes
held_counted {core} {s} {rest} h bytes = decided_is_counted core.phase (old_of core rest) core s bytes (λ export p q. held_appended h q)
