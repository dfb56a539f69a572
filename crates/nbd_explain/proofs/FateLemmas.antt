-- What became of each message, and the lines that say so.
use Rattle.nbd_explain.proofs.Common.{◌≡◌, ◌∙◌, ◌++◌, ◌∷◌, ◌+◌, ◌-◌, ◌<◌, ◌≤◌, ℕ, zero, suc, List, [], Option, append_assoc, append-nil, length, drop, refl, sym, ap, subst, arith, drop_of_length-le, get_or, get_or_append_left, length-append, get_or-append_seam, Appends-trans, Message, Outcome, Appends, AppendsLine, AppendsNames, AreLines, EndsWith, fate, fates_behind, named, none}
use Rattle.std.specs.Prelude.{codes}

-- lines were written that name messages, whatever names the rest of them is written behind
abbrev pub AppendsFront : (messages later : List Message) → (old new : Option (List ℕ)) → Type 0
AppendsFront messages later old new = (front : List ℕ)
    × ((rest : List ℕ) → AreLines later rest → AreLines messages (front ++ rest)) × Appends old new front

-- there is one for each message
fates_length : (ms : List Message) → length (fates_behind ms) ≡ length ms
fates_length [] = refl
fates_length (m ∷ later) = length-append (fates_behind later) (fate m later ∷ []) ∙ (let k = fates_length later in omega (arith, k))

-- that of the first message stands last
fate_at : (ms : List Message) (p : ℕ) (d : Option Outcome) → p < length ms
    → (m : Message) × (drop p ms ≡ m ∷ drop (suc p) ms) × (get_or (fates_behind ms) (length (fates_behind ms) - 1 - p) d ≡ fate m (drop (suc p) ms))
fate_at [] p d l = absurd (omega arith)
fate_at (first ∷ later) zero d l =
    let n = fates_length (first ∷ later) in
    let k = fates_length later in
    (first, refl, ap (λ i. get_or (fates_behind later ++ (fate first later ∷ [])) i d) (omega (arith, n, k)) ∙ get_or-append_seam (fates_behind later) (fate first later) [] d)
fate_at (first ∷ later) (suc p) d l =
    let n = fates_length (first ∷ later) in
    let k = fates_length later in
    let r = fate_at later p d (omega (arith, l)) in (
      r.0,
      r.1,
      ap (λ i. get_or (fates_behind later ++ (fate first later ∷ [])) i d) (omega (arith, n, k, l))
          ∙ get_or_append_left (fates_behind later) (fate first later ∷ []) d (length (fates_behind later) - 1 - p) (omega (arith, k, l)) ∙ r.2,
    )

-- one more line was written
pub next_line : (messages : List Message) (fates : List (Option Outcome)) (n p : ℕ) (f : Option Outcome) (old mid new : Option (List ℕ)) → fates ≡ fates_behind messages → n ≡ length fates → p < n
    → f ≡ get_or fates (n - 1 - p) f → AppendsFront messages (drop p messages) old mid → AppendsLine f mid new → AppendsFront messages (drop (p + 1) messages) old new
next_line messages fates n p f old mid new is count l here front line =
    let k = fates_length messages in
    let size : n ≡ length (fates_behind messages) = count ∙ ap length is in
    let r = fate_at messages p f (omega (arith, k, size, l)) in
    let words : List ℕ = line.1.0 in
    let ending : List ℕ = line.1.1 in
    let same : f ≡ fate r.0 (drop (suc p) messages) = here ∙ ap (λ fs. get_or fs (n - 1 - p) f) is ∙ ap (λ i. get_or (fates_behind messages) (i - 1 - p) f) size ∙ r.2 in
    let next : p + 1 ≡ suc p = omega arith in (
      front.0 ++ line.0,
      (λ rest later. (
          let tail : AreLines (drop (suc p) messages) rest = subst (λ i. AreLines (drop i messages) rest) next later in
          let lines : AreLines (drop p messages) (words ++ (ending ++ (codes "\n" ++ rest))) =
          subst (λ ms. AreLines ms (words ++ (ending ++ (codes "\n" ++ rest)))) (sym r.1) (named r.0 (drop (suc p) messages) words ending rest line.1.3 (subst (λ o. EndsWith o ending) same line.1.2) tail) in
          let text : line.0 ++ rest ≡ words ++ (ending ++ (codes "\n" ++ rest)) =
          ap (λ t. t ++ rest) line.1.4 ∙ append_assoc words (ending ++ codes "\n") rest ∙ ap (λ t. words ++ t) (append_assoc ending (codes "\n") rest) in
          subst (λ t. AreLines messages t) (ap (λ t. front.0 ++ t) (sym text) ∙ sym (append_assoc front.0 line.0 rest)) (front.1 _ lines))),
      Appends-trans old mid new front.0 line.0 front.2 line.2,
    )

-- all lines were written
pub all_lines : (messages : List Message) (fates : List (Option Outcome)) (n p : ℕ) (old new : Option (List ℕ)) → fates ≡ fates_behind messages → n ≡ length fates → n ≤ p
    → AppendsFront messages (drop p messages) old new → AppendsNames messages old new
all_lines messages fates n p old new is count l front =
    let k = fates_length messages in
    let size : n ≡ length (fates_behind messages) = count ∙ ap length is in
    (front.0, subst (λ t. AreLines messages t) (append-nil front.0) (front.1 [] (subst (λ ms. AreLines ms []) (sym (drop_of_length-le messages (omega (arith, k, size, l)))) none)), front.2)
