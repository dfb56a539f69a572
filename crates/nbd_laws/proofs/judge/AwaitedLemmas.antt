-- The length at which something is decided next: below it the judge lets a side's bytes go on,
-- also where the other side's messages complete meanwhile.
use Rattle.nbd_laws.proofs.Common.{◌≡◌, ℕ, ◌+◌, ◌<◌, ◌≤◌, ◌≢◌, ◌⊎◌, ◌==◌, List, [], ◌∷◌, ◌++◌, length, sym, ◌∙◌, ap, subst, inl, inr, Option, Some, None, Ok, Bool, nat_lt, if◌then◌else◌, arith, length-append, append-nil, lt-ltb, le-ltb, ltb-true, ltb-false, eqb-false, ne_eqb, Side, side_pairs, Core, awaited_length_by, awaited_length, Decision, judge, reading_by_decision, read_by, IsFilled, Reader, More, Rest, get, old_of, reads}
use Rattle.nbd_laws.proofs.{judge.{DecideLemmas.{last_reading, staged_reading_by}, BlockLemmas.{Awaits, GoesOn, extended, judged_at_once, reads_at_once, reads_short, with_rest}, SoundLemmas.kept_later, SteadyLemmas.{IsDeciding, IsSameHead, IsSteady, deciding}}, reading.ReaderLemmas.{AreHeld, Held, Kept, Later, Later-trans, at_once, begun, kept, none_held, old-filled, some_held}}

-- where the judge lets bytes go on, they lie in the head, or after a head without a fault
abbrev pub GoesBy : Decision → List ℕ → Type 0
GoesBy d bytes = (length bytes < d.head_length) ⊎ (d.head_length ≤ length bytes) × (d.head_fault ≡ None) × (length bytes ≢ d.head_length + d.payload_length)

pub in_head : (d : Decision) (bytes : List ℕ) → length bytes < d.head_length → read_by d bytes ≡ More
in_head d bytes l = ap (λ b. staged_reading_by b d.head_fault (length bytes == d.head_length + d.payload_length) (last_reading d.last_fault d.message)) (lt-ltb (length bytes) d.head_length l)

pub in_payload : (d : Decision) (bytes : List ℕ) → d.head_length ≤ length bytes → d.head_fault ≡ None → length bytes < d.head_length + d.payload_length → read_by d bytes ≡ More
in_payload d bytes l clean low = grind (arith, nat_lt, le-ltb, ne_eqb)

awaited_head : (d : Decision) (bytes : List ℕ) → length bytes < d.head_length → awaited_length_by (Some d) bytes ≡ d.head_length
awaited_head d bytes l = ap (λ (b : Bool). if b then d.head_length else d.head_length + d.payload_length) (lt-ltb (length bytes) d.head_length l)

module _ (s : Side) (now : Core) (F : Core → List ℕ → Decision) (st : IsSteady s now F) where
  short_first : (b : ℕ) → GoesBy (F now (b ∷ [])) (b ∷ []) → length (b ∷ []) < awaited_length_by (Some (F now (b ∷ []))) (b ∷ [])
  short_first b h = grind (arith, awaited_head)

  short_next : (bytes : List ℕ) → GoesBy (F now bytes) bytes → length bytes < awaited_length_by (Some (F now bytes)) bytes → (next : Core) → Later s now next → (b : ℕ) → GoesBy (F next (bytes ++ b ∷ [])) (bytes ++ b ∷ []) →
      length (bytes ++ b ∷ []) < awaited_length_by (Some (F next (bytes ++ b ∷ []))) (bytes ++ b ∷ [])
  short_next bytes g short next l b h = grind (arith, awaited_head, le-ltb, length-append)

  -- the awaited length is that of now
  awaited_stays : (bytes : List ℕ) → GoesBy (F now bytes) bytes → (next : Core) → Later s now next → awaited_length_by (Some (F next bytes)) bytes ≡ awaited_length_by (Some (F now bytes)) bytes
  awaited_stays bytes (inl low) next l =
      let same : (F next bytes).head_length ≡ (F now bytes).head_length =
      subst (λ bs. (F next bs).head_length ≡ (F now bytes).head_length) (append-nil bytes) (st.below next l bytes [] (omega (arith, low, length-append bytes []))) in
      let low' : length bytes < (F next bytes).head_length = omega (arith, low, same) in
      awaited_head (F next bytes) bytes low' ∙ same ∙ sym (awaited_head (F now bytes) bytes low)
  awaited_stays bytes (inr (long, clean, ne)) next l =
      let same : IsSameHead (F now bytes) (F next bytes) = subst (λ bs. IsSameHead (F now bytes) (F next bs)) (append-nil bytes) (st.beyond next l bytes [] long clean) in
      grind (arith, same, append-nil, le-ltb)

-- bytes that were judged to go on: what is decided next of them, and that nothing is before
pub record IsAwaiting (old : Core) (s : Side) (now : Core) (bytes : List ℕ) : Type 0 where
  pub short : length bytes < awaited_length old now s bytes
  pub awaits : Awaits old s now bytes (awaited_length old now s bytes)
  pub stays : (next : Core) → Later s now next → awaited_length old next s bytes ≡ awaited_length old now s bytes

pub some_decided : (o : Option Decision) (bytes : List ℕ) → reading_by_decision o bytes ≡ More → (d : Decision) × (o ≡ Some d)
some_decided o bytes e = grind arith

-- the first byte was judged to go on
pub first_more : {s : Side} {old now : Core} {bytes : List ℕ} → Kept s old now bytes → judge old now s bytes ≡ More → (b : ℕ) × (judge old old s (b ∷ []) ≡ More)
first_more (begun b lt r) m = (b, m)
first_more (kept {now = now} {bytes = bytes} b lt k m l r) m' = first_more k m

pub decision_of : {s : Side} {old now : Core} {bytes : List ℕ} → Kept s old now bytes → judge old now s bytes ≡ More → IsDeciding s old
decision_of {s} {old} k m = grind (arith, first_more, some_decided, deciding)

module _ (s : Side) (old : Core) (d : IsDeciding s old) where
  goes_by_d : (now : Core) → Later s old now → (bytes : List ℕ) → judge old now s bytes ≡ More → GoesBy (d.F now bytes) bytes
  goes_by_d now l bytes m = grind (arith, nat_lt, ltb-true, ltb-false, eqb-false)

  kept_short : {now : Core} {bytes : List ℕ} → Kept s old now bytes → judge old now s bytes ≡ More → length bytes < awaited_length_by (Some (d.F now bytes)) bytes
  kept_short (begun b lt r) m = short_first s old d.F (d.steady old at_once) b (goes_by_d old at_once (b ∷ []) m)
  kept_short {now = next} (kept {now = now} {bytes = bytes} b lt k m l r) m' =
      short_next s now d.F (d.steady now (kept_later k)) bytes (goes_by_d now (kept_later k) bytes m) (kept_short k m) next l b (goes_by_d next (Later-trans (kept_later k) l) (bytes ++ b ∷ []) m')

pub awaiting : {s : Side} {old now : Core} {bytes : List ℕ} → Kept s old now bytes → judge old now s bytes ≡ More → IsAwaiting old s now bytes
awaiting {s} {old} k m = grind (arith, decision_of, kept_later, kept_short, goes_by_d, Later-trans, awaited_head, in_head, le-ltb, in_payload, length-append, awaited_stays)

-- before a side's first byte
pub record IsWaiting (core : Core) (s : Side) : Type 0 where
  pub some : 0 < awaited_length core core s []
  pub goes : GoesOn core core s [] (awaited_length core core s [])

pub waiting : (core : Core) (s : Side) → IsWaiting core s
waiting core s = grind (arith, deciding, awaited_head, in_head, le-ltb, in_payload, length-append)

-- of a reader's rest: fewer bytes than are awaited, and nothing is judged before
pub record IsShort (core : Core) (s : Side) (rest : Rest) : Type 0 where
  pub short : length rest.bytes < awaited_length (old_of core rest) core s rest.bytes
  pub goes : GoesOn (old_of core rest) core s rest.bytes (awaited_length (old_of core rest) core s rest.bytes)

pub held_short : {core : Core} {s : Side} {rest : Rest} → Held core s rest → IsShort core s rest
held_short {core} {s} {rest} (none_held r e) = grind (arith, waiting)
held_short {core} {s} {rest} (some_held r now f k m l) =
    let a : IsAwaiting rest.since s now rest.bytes = awaiting k m in
    grind (arith, a, awaiting, old-filled)

-- bytes of one side up to the awaited length are judged once
pub reads_up_to : (reader : Reader) (s : Side) (more : List ℕ) → AreHeld reader → IsFilled more →
    length ((get reader.rests s).bytes ++ more) ≤ awaited_length (old_of reader.core (get reader.rests s)) reader.core s (get reader.rests s).bytes →
    reads reader (side_pairs s more) ≡ judged_at_once reader s more
reads_up_to reader s more held f l =
    reads_at_once reader s (awaited_length (old_of reader.core (get reader.rests s)) reader.core s (get reader.rests s).bytes) more f l (held_short (held s)).goes

-- below it they are kept
pub reads_below : (reader : Reader) (s : Side) (more : List ℕ) → AreHeld reader → IsFilled more →
    length ((get reader.rests s).bytes ++ more) < awaited_length (old_of reader.core (get reader.rests s)) reader.core s (get reader.rests s).bytes →
    reads reader (side_pairs s more) ≡ Ok (with_rest reader s (extended reader.core (get reader.rests s) more))
reads_below reader s more held f l =
    reads_short reader s (awaited_length (old_of reader.core (get reader.rests s)) reader.core s (get reader.rests s).bytes) more f l (held_short (held s)).goes
