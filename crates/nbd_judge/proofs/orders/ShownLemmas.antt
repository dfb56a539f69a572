-- What of a READ the messages before the last one showed, and the least count at which a span was shown.
use Rattle.nbd_judge.proofs.Common.{◌≡◌, ℕ, zero, suc, ◌+◌, ◌<◌, ◌≤◌, ◌⊎◌, ◌&&◌, ◌==◌, Bor, inl, inr, List, [], ◌∷◌, length, refl, sym, ◌∙◌, ap, Option, Some, None, arith, Bool, IsTrue, if◌then◌else◌, slice_get, and_from, and_parts, cases_Bool, cases_eq, slice_get_past, slice_get_read, slice_get_within, IsLeast, Span, shown_in, with_counts, option_copied, IsItemAt, Piece, is_in, piece_offset, piece_size, first_shown, lesser_of, Shown, Entry, OrderFault, Missing, NotCovered, AreApart, IsFaultOfService, IsShownAt}
use Rattle.nbd_judge.proofs.contents.CompareLemmas.{from_in, in_from, least_as, least_lesser}
use Rattle.nbd_state.specs.declared.asked.Asked.{Asked}
use Rattle.nbd_wire.specs.declared.commands.TheConstants as commands

-- the range of a piece, with a count
abbrev pub span_at : ℕ → Piece → Shown
span_at n p = record { offset = piece_offset p; size = piece_size p; count = n }

pub shown_one : (ps : List Piece) (cs : List ℕ) (i : ℕ) (p : Piece) (n : ℕ) → slice_get ps i ≡ Some p → slice_get cs i ≡ Some n → slice_get (with_counts ps cs) i ≡ Some (span_at n p)
shown_one (q ∷ ps) (m ∷ cs) zero p n e f = (let a : q ≡ p = cc in let b : m ≡ n = cc in (λ i. Some (span_at (b i) (a i))))
shown_one (q ∷ ps) (m ∷ cs) (suc i) p n e f = shown_one ps cs i p n e f
shown_one ps cs i p n e f = absurd (cc)

pub shown_none : (ps : List Piece) (cs : List ℕ) (i : ℕ) → slice_get ps i ≡ None → slice_get (with_counts ps cs) i ≡ None
shown_none (q ∷ ps) (m ∷ cs) zero e = absurd (cc)
shown_none (q ∷ ps) (m ∷ cs) (suc i) e = shown_none ps cs i e
shown_none ps cs i e = refl

-- the piece and the count of a range
record IsOf (ps : List Piece) (cs : List ℕ) (i : ℕ) (s : Shown) : Type 0 where
  piece : Piece
  count : ℕ
  at : slice_get ps i ≡ Some piece
  counted : slice_get cs i ≡ Some count
  is : span_at count piece ≡ s

range_of : (ps : List Piece) (cs : List ℕ) (i : ℕ) (s : Shown) → slice_get (with_counts ps cs) i ≡ Some s → IsOf ps cs i s
range_of (q ∷ ps) (m ∷ cs) zero s e = record { piece = q; count = m; at = refl; counted = refl; is = cc }
range_of (q ∷ ps) (m ∷ cs) (suc i) s e = (let r = range_of ps cs i s e in record { piece = r.piece; count = r.count; at = r.at; counted = r.counted; is = r.is })
range_of ps cs i s e = absurd (cc)

-- one of the ranges has x, with this count
pub record HasAt (ws : List Shown) (x n : ℕ) : Type 0 where
  pub place : ℕ
  pub range : Shown
  pub at : slice_get ws place ≡ Some range
  pub has : IsTrue (is_in range.offset range.size x)
  pub counts : range.count ≡ n

pub first_has : (ws : List Shown) (x n : ℕ) → first_shown ws x ≡ Some n → HasAt ws x n
first_has [] x n e = absurd (cc)
first_has (s ∷ ws) x n e = elim (cases_Bool (is_in s.offset s.size x)) [
  | inl here ↦ record { place = 0; range = s; at = refl; has = here; counts = grind arith }
  | inr away ↦ (let h = first_has ws x n (grind arith) in record { place = suc h.place; range = h.range; at = h.at; has = h.has; counts = h.counts })
]

pub has_first : (ws : List Shown) (x i : ℕ) (s : Shown) → slice_get ws i ≡ Some s → IsTrue (is_in s.offset s.size x) → (n : ℕ) × (first_shown ws x ≡ Some n)
has_first [] x i s e h = absurd (cc)
has_first (t ∷ ws) x zero s e h = (let same : t ≡ s = cc in (t.count, ap (λ b. if b then Some t.count else first_shown ws x) (ap (λ (r : Shown). is_in r.offset r.size x) same ∙ h)))
has_first (t ∷ ws) x (suc i) s e h = (let r = has_first ws x i s e h in (if is_in t.offset t.size x then t.count else r.0, grind (arith, r.1)))

-- one of the ranges before place i meets the span, with this count
abbrev pub ShownBefore : List Shown → Span → (i n : ℕ) → Type 0
ShownBefore ws span i n = (x : ℕ) × IsTrue (is_in span.offset span.size x) × ((h : HasAt ws x n) × (h.place < i))

module _ (ws : List Shown) (span : Span) (i : ℕ) (least : Option ℕ) (before : IsLeast (ShownBefore ws span i) least) where
  grown : (n : ℕ) → ShownBefore ws span i n → ShownBefore ws span (i + 1) n
  grown n (x, j, (h, l)) = (x, j, (h, omega (arith, l)))

  -- there is no range at place i
  pub shown_past : slice_get ws i ≡ None → IsLeast (ShownBefore ws span (i + 1)) least
  shown_past none = least_as (ShownBefore ws span i) (ShownBefore ws span (i + 1)) least grown
      (λ n (x, j, (h, l)). elim (cases_eq h.place i) [
        | inl q ↦ absurd (let z : None ≡ Some h.range = sym none ∙ ap (slice_get ws) (sym q) ∙ h.at in (cc))
        | inr ne ↦ (x, j, (h, omega (arith, l, ne)))
      ]) before

  module _ (s : Shown) (here : Span) (at : slice_get ws i ≡ Some s) (meets : (x : ℕ) → is_in here.offset here.size x ≡ (is_in s.offset s.size x && is_in span.offset span.size x)) where
    same_range : (h : Shown) (j : ℕ) → j ≡ i → slice_get ws j ≡ Some h → h ≡ s
    same_range h j q f = (let z : Some h ≡ Some s = sym f ∙ ap (slice_get ws) q ∙ at in cc)

    -- the range at place i does not meet the span
    pub shown_apart : here.size ≡ 0 → IsLeast (ShownBefore ws span (i + 1)) least
    shown_apart empty = least_as (ShownBefore ws span i) (ShownBefore ws span (i + 1)) least grown
        (λ n (x, j, (h, l)). elim (cases_eq h.place i) [
          | inl q ↦ absurd (let r = same_range h.range h.place q h.at in
              let b = from_in here.offset here.size x (meets x ∙ and_from (is_in s.offset s.size x) (is_in span.offset span.size x) (ap (λ (t : Shown). is_in t.offset t.size x) (sym r) ∙ h.has) j) in
              omega (arith, b.0, b.1, empty))
          | inr ne ↦ (x, j, (h, omega (arith, l, ne)))
        ]) before

    -- it does
    pub shown_met : 0 < here.size → IsLeast (ShownBefore ws span (i + 1)) (lesser_of least (Some s.count))
    shown_met some = least_as (λ n. ShownBefore ws span i n ⊎ (n ≡ s.count)) (ShownBefore ws span (i + 1)) (lesser_of least (Some s.count))
        (λ n. elim [
          | inl b ↦ grown n b
          | inr q ↦ (let both = and_parts (is_in s.offset s.size here.offset) (is_in span.offset span.size here.offset) (sym (meets here.offset) ∙ in_from here.offset here.size here.offset (omega arith) (omega (arith, some))) in
              (here.offset, both.1, (record { place = i; range = s; at = at; has = both.0; counts = sym q }, omega arith)))
        ])
        (λ n (x, j, (h, l)). elim (cases_eq h.place i) [
          | inl q ↦ inr (sym h.counts ∙ ap (λ (t : Shown). t.count) (same_range h.range h.place q h.at))
          | inr ne ↦ inl (x, j, (h, omega (arith, l, ne)))
        ])
        (least_lesser (ShownBefore ws span i) (λ n. n ≡ s.count) least (Some s.count) before (refl, λ m l q. omega (arith, l, q)))

-- what of a READ was shown
pub read_shows : (a : Asked) → a.command ≡ commands.READ → with_counts a.pieces.items a.pieces.counts ≡ shown_in a
read_shows a e = ap (λ c. if c == commands.READ then with_counts a.pieces.items a.pieces.counts else []) (sym e)

-- what a lookup by index found
pub looked_up : {A : Type 0} (xs : List A) (i : ℕ) (r : Option (Bor A)) → IsItemAt xs i r → option_copied r ≡ slice_get xs i
looked_up xs i None h = sym (slice_get_past xs i h.3)
looked_up xs i (Some x) h = sym (slice_get_read xs (length xs) i x.now refl h.3.0 h.1)

-- the least count of all, where no two pieces share an offset
pub least_first : (ps : List Piece) (cs : List ℕ) (span : Span) (i : ℕ) (o : Option ℕ) → AreApart ps → length cs ≤ i → IsLeast (ShownBefore (with_counts ps cs) span i) o →
    IsLeast (λ n. (x : ℕ) × IsTrue (is_in span.offset span.size x) × (first_shown (with_counts ps cs) x ≡ Some n)) o
least_first ps cs span i o apart all h = least_as (ShownBefore (with_counts ps cs) span i) (λ n. (x : ℕ) × IsTrue (is_in span.offset span.size x) × (first_shown (with_counts ps cs) x ≡ Some n)) o to back h
  where
    -- of two ranges that have x one place
    one_place : (x m n : ℕ) (f : HasAt (with_counts ps cs) x m) (g : HasAt (with_counts ps cs) x n) → m ≡ n
    one_place x m n f g =
        let a = range_of ps cs f.place f.range f.at in
        let b = range_of ps cs g.place g.range g.at in
        let same : f.place ≡ g.place = apart f.place g.place a.piece b.piece x a.at b.at (ap (λ (s : Shown). is_in s.offset s.size x) a.is ∙ f.has) (ap (λ (s : Shown). is_in s.offset s.size x) b.is ∙ g.has) in
        let range : f.range ≡ g.range = (let z : Some f.range ≡ Some g.range = sym f.at ∙ ap (slice_get (with_counts ps cs)) same ∙ g.at in cc) in
        sym f.counts ∙ ap (λ (s : Shown). s.count) range ∙ g.counts

    to : (n : ℕ) → ShownBefore (with_counts ps cs) span i n → (x : ℕ) × IsTrue (is_in span.offset span.size x) × (first_shown (with_counts ps cs) x ≡ Some n)
    to n (x, j, (h, l)) =
        let f = has_first (with_counts ps cs) x h.place h.range h.at h.has in
        (x, j, f.1 ∙ ap Some (one_place x f.0 n (first_has (with_counts ps cs) x f.0 f.1) h))

    back : (n : ℕ) → (x : ℕ) × IsTrue (is_in span.offset span.size x) × (first_shown (with_counts ps cs) x ≡ Some n) → ShownBefore (with_counts ps cs) span i n
    back n (x, j, f) =
        let h = first_has (with_counts ps cs) x n f in
        let r = range_of ps cs h.place h.range h.at in
        (x, j, (h, (let l = slice_get_within cs h.place r.count r.counted in omega (arith, l, all))))

-- what the range at a place has
pub in_range : (ps : List Piece) (cs : List ℕ) (i : ℕ) (p : Piece) (c : ℕ) → slice_get ps i ≡ Some p → slice_get cs i ≡ Some c → (x n : ℕ) (h : HasAt (with_counts ps cs) x n) → h.place ≡ i → IsTrue (is_in (piece_offset p) (piece_size p) x)
in_range ps cs i p c at counted x n h q =
    let same : h.range ≡ span_at c p = (let z : Some h.range ≡ Some (span_at c p) = sym h.at ∙ ap (slice_get (with_counts ps cs)) q ∙ shown_one ps cs i p c at counted in cc) in
    ap (λ (s : Shown). is_in s.offset s.size x) (sym same) ∙ h.has

-- a range that is shown has a place
pub place_of : (ps : List Piece) (cs : List ℕ) (x n : ℕ) (h : HasAt (with_counts ps cs) x n) → h.place < length cs
place_of ps cs x n h = (let r = range_of ps cs h.place h.range h.at in slice_get_within cs h.place r.count r.counted)

-- a fault where all of a span is shown
pub fault_from : (within : ℕ → Bool) (entries : List Entry) (k : ℕ) (shown : List Shown) (here : Span) → ((x : ℕ) → IsTrue (is_in here.offset here.size x) → IsShownAt within shown x) → 0 < here.size → (fault : OrderFault) →
    IsFaultOfService (λ x. IsTrue (is_in here.offset here.size x)) within entries k (Some fault) → IsFaultOfService (IsShownAt within shown) within entries k (Some fault) × ((other : OrderFault) → Some fault ≡ Some other → (x : ℕ) × IsShownAt within shown x)
fault_from within entries k shown here all some fault f = (go fault f, λ other q. (here.offset, all here.offset (in_from here.offset here.size here.offset (omega arith) (omega (arith, some)))))
  where
    go : (fault : OrderFault) → IsFaultOfService (λ x. IsTrue (is_in here.offset here.size x)) within entries k (Some fault) → IsFaultOfService (IsShownAt within shown) within entries k (Some fault)
    go Missing f = f
    go NotCovered f = ((f.0.0, all f.0.0 f.0.1, f.0.2), f.1)
    go fault f = absurd f
