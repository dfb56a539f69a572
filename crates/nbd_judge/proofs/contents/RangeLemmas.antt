-- Bytes of a range, taken out of a list of bytes.
use Rattle.nbd_judge.proofs.Common.{◌≡◌, ℕ, zero, suc, ◌+◌, ◌-◌, ◌<◌, ◌≤◌, ◌&&◌, ◌⊎◌, inl, inr, List, [], ◌∷◌, length, refl, sym, ◌∙◌, ap, subst, Option, Some, None, Bool, true, false, if◌then◌else◌, arith, le_refl, max, min, slice_get, slice_range, take, drop, Part, Piece, Bytes, Hole, effect, effect_byte, is_success, serves, is_change, is_in, piece_byte, piece_offset, piece_size, Asked, lesser_of, DiffersIn, IsLeast, bytes_from, overlay, zeroes, contents_with_effect, Span, DiffersInOneWithin, DiffersWithin, length-drop, length-take-le, nat_tests, and-true, slice_get-get_or, IsPartIn, served_span}
use Rattle.nbd_judge.proofs.contents.CompareLemmas.{from_in, from_more, in_from, least_as, least_lesser, to_more}
use Rattle.nbd_wire.specs.declared.commands.TheConstants as commands

pub drop_get : {A : Type 0} (xs : List A) (a i : ℕ) → slice_get (drop a xs) i ≡ slice_get xs (a + i)
drop_get (x ∷ xs) zero i = ap (slice_get (x ∷ xs)) (omega arith)
drop_get (x ∷ xs) (suc a) i = drop_get xs a i ∙ (let e : suc (a + i) ≡ suc a + i = omega arith in ap (slice_get (x ∷ xs)) e)
drop_get [] zero i = refl
drop_get [] (suc a) i = refl

pub take_get : {A : Type 0} (xs : List A) (n i : ℕ) → i < n → slice_get (take n xs) i ≡ slice_get xs i
take_get xs zero i l = absurd (omega arith)
take_get (x ∷ xs) (suc n) (suc i) l = take_get xs n i (omega arith)
take_get xs n i l = refl

-- a byte of a range
pub range_get : {A : Type 0} (xs : List A) (a n i : ℕ) → i < n → slice_get (slice_range xs a (a + n)) i ≡ slice_get xs (a + i)
range_get xs a n i l = take_get (drop a xs) ((a + n) - a) i (omega arith) ∙ drop_get xs a i

pub range_length : {A : Type 0} (xs : List A) (a n : ℕ) → a + n ≤ length xs → length (slice_range xs a (a + n)) ≡ n
range_length xs a n l = (let d = length-drop a xs in let e : (a + n) - a ≡ n = omega arith in length-take-le ((a + n) - a) (drop a xs) (omega arith) ∙ e)

-- what a piece gives where it meets a part
module _ (byte : ℕ → Option ℕ) (part : Part) (span : Span) where
  module _ (p : Piece) (begins : span.offset ≡ max (piece_offset p) part.offset) (lasts : span.size ≡ min (piece_offset p + piece_size p) (part.offset + part.length) - max (piece_offset p) part.offset) where
    piece_within : (given : ℕ → Option ℕ) → ((x : ℕ) → span.offset ≤ x → x < span.offset + span.size → given x ≡ Some (piece_byte p x)) →
        (o : Option ℕ) → IsLeast (DiffersIn byte span.offset span.size given) o → IsLeast (DiffersWithin byte p part) o
    piece_within given gives o h = least_as (DiffersIn byte span.offset span.size given) (DiffersWithin byte p part) o to back h
      where
        to : (x : ℕ) → DiffersIn byte span.offset span.size given x → DiffersWithin byte p part x
        to x d =
            let lo : span.offset ≤ x = d.0 in
            let hi : x < span.offset + span.size = d.1 in (
              (in_from (piece_offset p) (piece_size p) x (omega (arith, begins)) (omega (arith, begins, lasts)), (d.2.0, d.2.1, λ e. d.2.2 (gives x lo hi ∙ e))),
              in_from part.offset part.length x (omega (arith, begins)) (omega (arith, begins, lasts)),
            )

        back : (x : ℕ) → DiffersWithin byte p part x → DiffersIn byte span.offset span.size given x
        back x d =
            let i = from_in (piece_offset p) (piece_size p) x d.0.0 in
            let j = from_in part.offset part.length x d.1 in
            let a = i.0 in let b = j.0 in let c = i.1 in let f = j.1 in
            let lo : span.offset ≤ x = omega (arith, begins, a, b) in
            let hi : x < span.offset + span.size = omega (arith, begins, lasts, a, b, c, f) in
            (lo, hi, (d.0.1.0, d.0.1.1, λ e. d.0.1.2 (sym (gives x lo hi) ∙ e)))

  pub bytes_within : (offset : ℕ) (bytes slice : List ℕ) → span.offset ≡ max offset part.offset → span.size ≡ min (offset + length bytes) (part.offset + part.length) - max offset part.offset → (span.size ≡ 0 → ⊥) →
      slice ≡ slice_range bytes (span.offset - offset) ((span.offset - offset) + span.size) →
      (o : Option ℕ) → IsLeast (DiffersIn byte span.offset (length slice) (bytes_from span.offset slice)) o → IsLeast (DiffersWithin byte (Bytes offset bytes) part) o
  bytes_within offset bytes slice begins lasts some is o h =
      piece_within (Bytes offset bytes) begins lasts (bytes_from span.offset slice) given o
      (subst (λ n. IsLeast (DiffersIn byte span.offset n (bytes_from span.offset slice)) o) (ap length is ∙ range_length bytes (span.offset - offset) span.size (omega arith)) h)
    where
      given : (x : ℕ) → span.offset ≤ x → x < span.offset + span.size → bytes_from span.offset slice x ≡ Some (piece_byte (Bytes offset bytes) x)
      given x lo hi =
          let place : (span.offset - offset) + (x - span.offset) ≡ x - offset = omega (arith, begins) in
          ap (λ l. slice_get l (x - span.offset)) is ∙ range_get bytes (span.offset - offset) span.size (x - span.offset) (omega arith) ∙ ap (slice_get bytes) place
          ∙ slice_get-get_or bytes (x - offset) 0 (omega (arith, begins, lasts))

  pub hole_within : (offset size : ℕ) → span.offset ≡ max offset part.offset → span.size ≡ min (offset + size) (part.offset + part.length) - max offset part.offset →
      (o : Option ℕ) → IsLeast (DiffersIn byte span.offset span.size zeroes) o → IsLeast (DiffersWithin byte (Hole offset size) part) o
  hole_within offset size begins lasts = piece_within (Hole offset size) begins lasts zeroes (λ x lo hi. refl)

-- one piece more
pub one_within : (byte : ℕ → Option ℕ) (pieces : List Piece) (n : ℕ) (p : Piece) (part : Part) (a b : Option ℕ) → slice_get pieces n ≡ Some p →
    IsLeast (DiffersInOneWithin byte pieces n part) a → IsLeast (DiffersWithin byte p part) b → IsLeast (DiffersInOneWithin byte pieces (n + 1) part) (lesser_of a b)
one_within byte pieces n p part a b at ha hb =
    least_as (λ x. DiffersInOneWithin byte pieces n part x ⊎ DiffersWithin byte p part x) (DiffersInOneWithin byte pieces (n + 1) part) (lesser_of a b)
    (λ m. elim [ inl d ↦ (to_more byte pieces n p at m (inl d.0), d.1) | inr d ↦ (to_more byte pieces n p at m (inr d.0), d.1) ])
    (λ m d. elim (from_more byte pieces n p at m d.0) [ inl x ↦ inl (x, d.1) | inr x ↦ inr (x, d.1) ])
    (least_lesser (DiffersInOneWithin byte pieces n part) (DiffersWithin byte p part) a b ha hb)

-- a range in a range
inner : (offset len from size x : ℕ) → offset ≤ from → from + size ≤ offset + len → (is_in offset len x && is_in from size x) ≡ is_in from size x
inner offset len from size x lo hi = grind (arith, nat_tests)

-- what an entry with this part serves of a request is a span
pub serves_span : (p : Option Part) (a : Asked) → IsPartIn p a → (x : ℕ) → serves p (effect a) x ≡ is_in (served_span p a).offset (served_span p a).size x
serves_span None a h x = and-true (is_in a.offset a.length x)
serves_span (Some p) a h x = inner a.offset a.length p.offset p.length x h.0 h.1

pub span_in_range : (p : Option Part) (a : Asked) → IsPartIn p a → (a.offset ≤ (served_span p a).offset) × ((served_span p a).offset + (served_span p a).size ≤ a.offset + a.length)
span_in_range None a h = (le_refl a.offset, le_refl (a.offset + a.length))
span_in_range (Some p) a h = h

-- what a successful WRITE leaves of the span that is served
pub written : (p : Option Part) (a : Asked) → IsPartIn p a → a.command ≡ commands.WRITE → is_success a.outcome ≡ true → length a.payload ≡ a.length →
    (slice : List ℕ) → slice ≡ slice_range a.payload ((served_span p a).offset - a.offset) ((served_span p a).offset - a.offset + (served_span p a).size) →
    (old : ℕ → Option ℕ) (x : ℕ) → overlay (served_span p a).offset (length slice) (bytes_from (served_span p a).offset slice) old x ≡ contents_with_effect p (Some (effect a)) old x
written p a fit c s carried slice is old x =
    ap (λ n. if is_in (served_span p a).offset n x then bytes_from (served_span p a).offset slice x else old x) len
    ∙ go (is_in (served_span p a).offset (served_span p a).size x) refl
    ∙ sym (ap (λ b. if b then effect_byte (effect a) x else old x) (ap (λ b. b && serves p (effect a) x) (ap is_change c) ∙ serves_span p a fit x))
  where
    len : length slice ≡ (served_span p a).size
    len = (let r = span_in_range p a fit in let lo : a.offset ≤ (served_span p a).offset = r.0 in let hi : (served_span p a).offset + (served_span p a).size ≤ a.offset + a.length = r.1 in
        ap length is ∙ range_length a.payload ((served_span p a).offset - a.offset) (served_span p a).size (omega (arith, lo, hi, carried)))

    go : (b : Bool) → is_in (served_span p a).offset (served_span p a).size x ≡ b → (if b then bytes_from (served_span p a).offset slice x else old x) ≡ (if b then effect_byte (effect a) x else old x)
    go true e =
        (let r = span_in_range p a fit in let i = from_in (served_span p a).offset (served_span p a).size x e in
        let lo : a.offset ≤ (served_span p a).offset = r.0 in let at : (served_span p a).offset ≤ x = i.0 in let below : x < (served_span p a).offset + (served_span p a).size = i.1 in
        ap (λ l. slice_get l (x - (served_span p a).offset)) is ∙ range_get a.payload ((served_span p a).offset - a.offset) (served_span p a).size (x - (served_span p a).offset) (omega (arith, at, below)) ∙ ap (slice_get a.payload) (omega (arith, lo, at))
        ∙ sym (ap (λ b. effect_byte (record (effect a) { succeeded = b }) x) s ∙ ap (λ k. effect_byte (record (effect a) { succeeded = true; command = k }) x) c))
    go false e = refl
