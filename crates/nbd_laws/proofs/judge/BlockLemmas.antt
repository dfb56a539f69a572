-- Bytes of one side, taken at once: over any judge, what a reader reads of them is one append and one judgement.
use Rattle.nbd_laws.proofs.{Common.{Reading, rest_with, judge, ◌≡◌, ℕ, ◌<◌, ◌≤◌, List, [], ◌∷◌, ◌++◌, length, refl, sym, ◌∙◌, ap, subst, Result, Ok, append_assoc, length-append, arith, Side, Pair, side_pairs, Core, WireFault, get, put, Rest, Reader, More, old_of, IsFilled, settle, step, reads, on_ok}, reading.ReaderLemmas.{get-put_same, old-filled, IsFilled-snoc, Later}}

-- no longer list of these bytes and more is judged before it has n of them
abbrev pub GoesOn : (old now : Core) → Side → List ℕ → ℕ → Type 0
GoesOn old now s bytes n = (more : List ℕ) → IsFilled (bytes ++ more) → length (bytes ++ more) < n → judge old now s (bytes ++ more) ≡ More

-- nor where the other side's messages complete meanwhile
abbrev pub Awaits : (old : Core) → Side → (now : Core) → List ℕ → ℕ → Type 0
Awaits old s now bytes n = (next : Core) → Later s now next → GoesOn old next s bytes n

-- a side's rest with more bytes
abbrev pub extended : Core → Rest → List ℕ → Rest
extended core rest more = record { bytes = rest.bytes ++ more; since = old_of core rest }

-- the bytes of a side and these, judged once
abbrev pub judged_at_once : Reader → Side → List ℕ → Result Reader WireFault
judged_at_once reader s more =
    settle reader s (extended reader.core (get reader.rests s) more)
    (judge (old_of reader.core (get reader.rests s)) reader.core s ((get reader.rests s).bytes ++ more))

abbrev pub with_rest : Reader → Side → Rest → Reader
with_rest reader s rest = record reader { rests = put reader.rests s rest }

filled_behind : (bytes more : List ℕ) → IsFilled more → IsFilled (bytes ++ more)
filled_behind [] more f = f
filled_behind (b ∷ bytes) more f = tt

settle_same : (reader : Reader) (s : Side) (rest next : Rest) (r : Reading) → settle (with_rest reader s rest) s next r ≡ settle reader s next r
settle_same reader s rest next r = grind arith

pub reads-append : (reader : Reader) (ps qs : List Pair) → reads reader (ps ++ qs) ≡ on_ok (reads reader ps) (λ next. reads next qs)
reads-append reader [] qs = refl
reads-append reader (p ∷ ps) qs = go (step reader p.from p.byte) (λ next. reads-append next ps qs)
  where
    go : (r : Result Reader WireFault) → ((next : Reader) → reads next (ps ++ qs) ≡ on_ok (reads next ps) (λ last. reads last qs)) →
        on_ok r (λ next. reads next (ps ++ qs)) ≡ on_ok (on_ok r (λ next. reads next ps)) (λ last. reads last qs)
    go r ih = grind arith

module _ (reader : Reader) (s : Side) (old : Core) (n : ℕ) where
  abbrev next_rest : Rest → List ℕ → Rest
  next_rest rest more = record { bytes = rest.bytes ++ more; since = old }

  one_step : (rest : Rest) (b : ℕ) → old_of reader.core rest ≡ old →
      step (with_rest reader s rest) s b ≡ settle reader s (next_rest rest (b ∷ [])) (judge old reader.core s (rest.bytes ++ b ∷ []))
  one_step rest b o =
      ap (λ r. settle (with_rest reader s rest) s (rest_with reader.core r b) (judge (rest_with reader.core r b).since reader.core s (rest_with reader.core r b).bytes)) (get-put_same reader.rests s rest)
      ∙ (λ i. settle (with_rest reader s rest) s (record { bytes = rest.bytes ++ b ∷ []; since = o i }) (judge (o i) reader.core s (rest.bytes ++ b ∷ [])))
      ∙ settle_same reader s rest (next_rest rest (b ∷ [])) (judge old reader.core s (rest.bytes ++ b ∷ []))

  in_one : (rest : Rest) (b : ℕ) (more : List ℕ) → old_of reader.core rest ≡ old → length (rest.bytes ++ b ∷ more) ≤ n → GoesOn old reader.core s rest.bytes n →
      reads (with_rest reader s rest) (side_pairs s (b ∷ more)) ≡ settle reader s (next_rest rest (b ∷ more)) (judge old reader.core s (rest.bytes ++ b ∷ more))
  in_one rest b [] o l g = (grind arith) ∙ one_step rest b o
  in_one rest b (c ∷ more) o l g =
      let next : Rest = next_rest rest (b ∷ []) in
      let f : IsFilled next.bytes = IsFilled-snoc rest.bytes b in
      let short : length (rest.bytes ++ b ∷ []) < n = omega (arith, l, length-append rest.bytes (b ∷ c ∷ more), length-append rest.bytes (b ∷ [])) in
      let first : step (with_rest reader s rest) s b ≡ Ok (with_rest reader s next) = one_step rest b o ∙ ap (settle reader s next) (g (b ∷ []) f short) in
      let assoc : (tail : List ℕ) → next.bytes ++ tail ≡ rest.bytes ++ b ∷ tail = λ tail. append_assoc rest.bytes (b ∷ []) tail in
      let rest_is : length (next.bytes ++ c ∷ more) ≤ n = subst (λ bs. length bs ≤ n) (sym (assoc (c ∷ more))) l in
      let goes : GoesOn old reader.core s next.bytes n = λ tail filled low.
      subst (λ bs. judge old reader.core s bs ≡ More) (sym (assoc tail)) (g (b ∷ tail) (subst IsFilled (assoc tail) filled) (subst (λ bs. length bs < n) (assoc tail) low)) in
      ap (λ r. on_ok r (λ m. reads m (side_pairs s (c ∷ more)))) first
      ∙ in_one next c more (old-filled reader.core next f) rest_is goes
      ∙ ap (λ bs. settle reader s (record { bytes = bs; since = old }) (judge old reader.core s bs)) (assoc (c ∷ more))

-- bytes of one side, up to the next length at which something is decided, are judged once
pub reads_at_once : (reader : Reader) (s : Side) (n : ℕ) (more : List ℕ) → IsFilled more → length ((get reader.rests s).bytes ++ more) ≤ n →
    GoesOn (old_of reader.core (get reader.rests s)) reader.core s (get reader.rests s).bytes n →
    reads reader (side_pairs s more) ≡ judged_at_once reader s more
reads_at_once reader s n [] f l g = absurd f
reads_at_once reader s n (b ∷ more) f l g =
    ap (λ rests. reads (record reader { rests = rests }) (side_pairs s (b ∷ more))) (sym ((grind arith)))
    ∙ in_one reader s (old_of reader.core (get reader.rests s)) n (get reader.rests s) b more refl l g

-- below that length they are only kept
pub reads_short : (reader : Reader) (s : Side) (n : ℕ) (more : List ℕ) → IsFilled more → length ((get reader.rests s).bytes ++ more) < n →
    GoesOn (old_of reader.core (get reader.rests s)) reader.core s (get reader.rests s).bytes n →
    reads reader (side_pairs s more) ≡ Ok (with_rest reader s (extended reader.core (get reader.rests s) more))
reads_short reader s n more f l g =
    reads_at_once reader s n more f (omega (arith, l)) g
    ∙ ap (settle reader s (extended reader.core (get reader.rests s) more)) (g more (filled_behind (get reader.rests s).bytes more f) l)
