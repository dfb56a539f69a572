-- One more piece of a side, up to the next length at which something is decided, as the reader reads it.
use Rattle.nbd_session.proofs.Common.{◌≡◌, ℕ, ◌<◌, ◌≤◌, List, [], ◌∷◌, ◌++◌, length, sym, subst, append_assoc, arith, length-append, Side, AreBytes, Core, awaited_length, judge, Rest, More, old_of, IsFilled, IsReached, Kept, kept, kept_next, reached_of, at_once, IsFilled-snoc, held_short, GoesOn}
use Rattle.nbd_laws.proofs.reading.ReaderLemmas.{Held}

-- bytes up to the awaited length: each but the last was judged to go on
kept_block : (s : Side) (old core : Core) (n : ℕ) (bytes : List ℕ) (b : ℕ) (more : List ℕ) → IsReached core → Kept s old core (bytes ++ b ∷ []) → AreBytes more →
    length (bytes ++ b ∷ more) ≤ n → GoesOn old core s bytes n → Kept s old core (bytes ++ b ∷ more)
kept_block s old core n bytes b [] r k lt l g = k
kept_block s old core n bytes b (c ∷ more) r k lt l g =
    let assoc : (tail : List ℕ) → (bytes ++ b ∷ []) ++ tail ≡ bytes ++ b ∷ tail = λ tail. append_assoc bytes (b ∷ []) tail in
    let short : length (bytes ++ b ∷ []) < n = omega (arith, l, length-append bytes (b ∷ c ∷ more), length-append bytes (b ∷ [])) in
    let here : judge old core s (bytes ++ b ∷ []) ≡ More = g (b ∷ []) (IsFilled-snoc bytes b) short in
    let next : Kept s old core ((bytes ++ b ∷ []) ++ c ∷ []) = kept c lt.0 k here at_once r in
    let goes : GoesOn old core s (bytes ++ b ∷ []) n =
    λ tail filled low. subst (λ bs. judge old core s bs ≡ More) (sym (assoc tail)) (g (b ∷ tail) (subst IsFilled (assoc tail) filled) (subst (λ bs. length bs < n) (assoc tail) low)) in
    subst (λ bs. Kept s old core bs) (assoc (c ∷ more))
    (kept_block s old core n (bytes ++ b ∷ []) c more r next lt.1 (subst (λ bs. length bs ≤ n) (sym (assoc (c ∷ more))) l) goes)

pub kept_more : (core : Core) (s : Side) (rest : Rest) (more : List ℕ) → Held core s rest → IsFilled more → AreBytes more →
    length (rest.bytes ++ more) ≤ awaited_length (old_of core rest) core s rest.bytes → Kept s (old_of core rest) core (rest.bytes ++ more)
kept_more core s rest [] h f lt l = absurd f
kept_more core s rest (b ∷ more) h f lt l =
    kept_block s (old_of core rest) core (awaited_length (old_of core rest) core s rest.bytes) rest.bytes b more (reached_of h) (kept_next core s rest b lt.0 h) lt.1 l (held_short h).goes
