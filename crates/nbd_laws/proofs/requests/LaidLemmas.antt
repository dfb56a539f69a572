-- Pieces that lie in a range and share no offset.
use Rattle.nbd_laws.proofs.Common.{arith, ◌≡◌, ℕ, suc, ◌+◌, ◌≤◌, List, [], ◌∷◌, ◌++◌, refl, sym, ◌∙◌, ap, Some, None, Bool, true, false, if◌then◌else◌, slice_get, append_assoc, append-nil, Message, Piece, SharesNone, byte_at, holds, piece_byte, piece_of, piece_offset, piece_size, flat_map, AreLaid}

abbrev pub AreInside : ℕ → ℕ → List Piece → Type 0
AreInside offset len [] = Unit {0}
AreInside offset len (p ∷ ps) = ((offset ≤ piece_offset p) × (piece_offset p + piece_size p ≤ offset + len)) × AreInside offset len ps

abbrev pub AreApart : List Piece → Type 0
AreApart [] = Unit {0}
AreApart (p ∷ ps) = SharesNone p ps × AreApart ps

-- a piece after others
pub inside_snoc : (offset len : ℕ) (ps : List Piece) (p : Piece) → AreInside offset len ps → offset ≤ piece_offset p → piece_offset p + piece_size p ≤ offset + len → AreInside offset len (ps ++ p ∷ [])
inside_snoc offset len [] p i l u = ((l, u), tt)
inside_snoc offset len (q ∷ ps) p i l u = (i.0, inside_snoc offset len ps p i.1 l u)

shares_snoc : (q : Piece) (ps : List Piece) (p : Piece) (x : ℕ) → holds q x ≡ true → byte_at ps x ≡ None → (holds p x ≡ true → holds q x ≡ false) → byte_at (ps ++ p ∷ []) x ≡ None
shares_snoc q [] p x h e n = grind (arith, holds)
shares_snoc q (r ∷ ps) p x h e n = go (holds r x) refl e (λ e'. shares_snoc q ps p x h e' n)
  where
    go : (b : Bool) → holds r x ≡ b → (if b then Some (piece_byte r x) else byte_at ps x) ≡ None → (byte_at ps x ≡ None → byte_at (ps ++ p ∷ []) x ≡ None) → (if b then Some (piece_byte r x) else byte_at (ps ++ p ∷ []) x) ≡ None
    go b is e ih = grind arith

first_none : (q : Piece) (ps : List Piece) (x : ℕ) → byte_at (q ∷ ps) x ≡ None → (holds q x ≡ false) × (byte_at ps x ≡ None)
first_none q ps x e = grind (arith, holds)

pub apart_snoc : (ps : List Piece) (p : Piece) → AreApart ps → SharesNone p ps → AreApart (ps ++ p ∷ [])
apart_snoc [] p a n = ((λ x h. refl), tt)
apart_snoc (q ∷ ps) p a n = ((λ x h. shares_snoc q ps p x h (a.0 x h) (λ k. (first_none q ps x (n x k)).0)), apart_snoc ps p a.1 (λ x h. (first_none q ps x (n x h)).1))

pub pieces-snoc : (offset : ℕ) (ms : List Message) (m : Message) → flat_map (piece_of offset) (ms ++ m ∷ []) ≡ flat_map (piece_of offset) ms ++ piece_of offset m
pieces-snoc offset [] m = append-nil (piece_of offset m)
pieces-snoc offset (n ∷ ms) m = ap (λ l. piece_of offset n ++ l) (pieces-snoc offset ms m) ∙ sym (append_assoc (piece_of offset n) (flat_map (piece_of offset) ms) (piece_of offset m))

-- a piece of the list
inside_at : (offset len : ℕ) (ps : List Piece) → AreInside offset len ps → (i : ℕ) (p : Piece) → slice_get ps i ≡ Some p → (offset ≤ piece_offset p) × (piece_offset p + piece_size p ≤ offset + len)
inside_at offset len (q ∷ ps) h (suc i) p e = inside_at offset len ps h.1 i p e
inside_at offset len ps h i p e = grind arith

held_at : (ps : List Piece) (i : ℕ) (p : Piece) (x : ℕ) → slice_get ps i ≡ Some p → holds p x ≡ true → byte_at ps x ≡ None → ⊥
held_at (q ∷ ps) (suc i) p x e h n = held_at ps i p x e h (first_none q ps x n).1
held_at ps i p x e h n = absurd (cc)

apart_at : (ps : List Piece) → AreApart ps → (i j : ℕ) (p q : Piece) (x : ℕ) → slice_get ps i ≡ Some p → slice_get ps j ≡ Some q → holds p x ≡ true → holds q x ≡ true → i ≡ j
apart_at (r ∷ ps) a (suc i) (suc j) p q x e f h k = ap suc (apart_at ps a.1 i j p q x e f h k)
apart_at ps a i j p q x e f h k = grind (arith, held_at, holds)

pub are_laid : (offset len : ℕ) (ps : List Piece) → AreInside offset len ps → AreApart ps → AreLaid offset len ps
are_laid offset len ps i a = record { inside = inside_at offset len ps i; apart = apart_at ps a }
