-- The least wrong byte of a READ, from its pieces.
use Rattle.nbd_judge.proofs.Common.{◌≡◌, ℕ, zero, suc, ◌+◌, ◌-◌, ◌<◌, ◌≤◌, ◌⊎◌, inl, inr, List, [], ◌∷◌, length, refl, sym, ◌∙◌, ap, subst, Option, Some, None, arith, Bool, true, false, nat_le, if◌then◌else◌, slice_get, slice_index_or, IsTrue, is_some, map, Bor, ◌==◌, ◌||◌, cases_Bool, eqb-true, or_cases, and_from, and_parts, leb-true, leb-false, cases_eq, Contains, slice_get_within, slice_get-get_or, slice_get-map, option_map, Part, in_part, Piece, Bytes, Hole, IsWrongIn, effect, is_success, Effect, serves, GivesByte, Asked, lesser_of, byte_at, holds, is_in, piece_byte, piece_offset, piece_size, DiffersIn, IsLeast, bytes_from, zeroes, DiffersInOneOf, DiffersInPiece, IsServable}
use Rattle.nbd_judge.proofs.orders.FirstLemmas.{one_first, read_at}
use Rattle.nbd_wire.specs.declared.commands.TheConstants as commands

pub least_as : (P Q : ℕ → Type 0) (o : Option ℕ) → ((m : ℕ) → P m → Q m) → ((m : ℕ) → Q m → P m) → IsLeast P o → IsLeast Q o
least_as P Q None to back h = λ n q. h n (back n q)
least_as P Q (Some n) to back h = (to n h.0, λ m l q. h.1 m l (back m q))

-- a number is the least of itself
pub itself : (o : Option ℕ) → IsLeast (λ n. o ≡ Some n) o
itself None = λ n q. (cc)
itself (Some m) = (refl, λ n l q. (let s : m ≡ n = cc in omega arith))

pub one_least : (P : ℕ → Type 0) (o : Option ℕ) (n : ℕ) → IsLeast P o → IsLeast P (Some n) → o ≡ Some n
one_least P None n h k = absurd (h n k.0)
one_least P (Some m) n h k = ap Some (one_first P m n h k)

pub least_lesser : (P Q : ℕ → Type 0) (a b : Option ℕ) → IsLeast P a → IsLeast Q b → IsLeast (λ x. P x ⊎ Q x) (lesser_of a b)
least_lesser P Q None None p q = λ n e. elim e [ inl x ↦ p n x | inr y ↦ q n y ]
least_lesser P Q None (Some y) p q = (inr q.0, λ m l e. elim e [ inl u ↦ p m u | inr v ↦ q.1 m l v ])
least_lesser P Q (Some x) None p q = (inl p.0, λ m l e. elim e [ inl u ↦ p.1 m l u | inr v ↦ q m v ])
least_lesser P Q (Some x) (Some y) p q = go (nat_le x y) refl
  where
    go : (t : Bool) → nat_le x y ≡ t → IsLeast (λ x. P x ⊎ Q x) (Some (if t then x else y))
    go true h = (let le : x ≤ y = leb-true x y h in (inl p.0, λ m l e. elim e [ inl u ↦ p.1 m l u | inr v ↦ q.1 m (omega arith) v ]))
    go false h = (let lt : y < x = leb-false x y h in (inr q.0, λ m l e. elim e [ inl u ↦ p.1 m (omega arith) u | inr v ↦ q.1 m l v ]))

-- with one more piece
module _ (byte : ℕ → Option ℕ) (pieces : List Piece) (n : ℕ) (p : Piece) (at : slice_get pieces n ≡ Some p) where
  pub to_more : (m : ℕ) → DiffersInOneOf byte pieces n m ⊎ DiffersInPiece byte p m → DiffersInOneOf byte pieces (n + 1) m
  to_more m (inl d) = (let l : d.0 < n = d.2 in (d.0, d.1, omega arith, d.3, d.4))
  to_more m (inr d) = (n, p, omega arith, at, d)

  pub from_more : (m : ℕ) → DiffersInOneOf byte pieces (n + 1) m → DiffersInOneOf byte pieces n m ⊎ DiffersInPiece byte p m
  from_more m d = elim (cases_eq d.0 n) [
    | inl e ↦ (let s : Some d.1 ≡ Some p = sym d.3 ∙ ap (slice_get pieces) e ∙ at in let q : d.1 ≡ p = cc in inr (subst (λ (r : Piece). DiffersInPiece byte r m) q d.4))
    | inr ne ↦ (let l : d.0 < n + 1 = d.2 in inl (d.0, d.1, omega arith, d.3, d.4))
  ]

  pub one_more : (a b : Option ℕ) → IsLeast (DiffersInOneOf byte pieces n) a → IsLeast (DiffersInPiece byte p) b → IsLeast (DiffersInOneOf byte pieces (n + 1)) (lesser_of a b)
  one_more a b ha hb =
      least_as (λ x. DiffersInOneOf byte pieces n x ⊎ DiffersInPiece byte p x) (DiffersInOneOf byte pieces (n + 1)) (lesser_of a b) to_more from_more
      (least_lesser (DiffersInOneOf byte pieces n) (DiffersInPiece byte p) a b ha hb)

pub in_from : (offset len x : ℕ) → offset ≤ x → x < offset + len → IsTrue (is_in offset len x)
in_from offset len x lo hi = grind arith

pub from_in : (offset len x : ℕ) → IsTrue (is_in offset len x) → (offset ≤ x) × (x < offset + len)
from_in offset len x h = grind arith

-- a piece's range is compared with the bytes that the piece gives
piece_difference : (byte given : ℕ → Option ℕ) (p : Piece) → ((x : ℕ) → piece_offset p ≤ x → x < piece_offset p + piece_size p → given x ≡ Some (piece_byte p x)) →
    (o : Option ℕ) → IsLeast (DiffersIn byte (piece_offset p) (piece_size p) given) o → IsLeast (DiffersInPiece byte p) o
piece_difference byte given p gives o h = least_as (DiffersIn byte (piece_offset p) (piece_size p) given) (DiffersInPiece byte p) o
    (λ x d. (in_from (piece_offset p) (piece_size p) x d.0 d.1, (d.2.0, d.2.1, λ e. d.2.2 (gives x d.0 d.1 ∙ e))))
    (λ x d. (let i = from_in (piece_offset p) (piece_size p) x d.0 in (i.0, i.1, (d.1.0, d.1.1, λ e. d.1.2 (sym (gives x i.0 i.1) ∙ e))))) h

pub bytes_difference : (byte : ℕ → Option ℕ) (offset : ℕ) (bytes : List ℕ) (o : Option ℕ) → IsLeast (DiffersIn byte offset (length bytes) (bytes_from offset bytes)) o → IsLeast (DiffersInPiece byte (Bytes offset bytes)) o
bytes_difference byte offset bytes = piece_difference byte (bytes_from offset bytes) (Bytes offset bytes) (λ x lo hi. slice_get-get_or bytes (x - offset) 0 (omega arith))

pub hole_difference : (byte : ℕ → Option ℕ) (offset size : ℕ) (o : Option ℕ) → IsLeast (DiffersIn byte offset size zeroes) o → IsLeast (DiffersInPiece byte (Hole offset size)) o
hole_difference byte offset size = piece_difference byte zeroes (Hole offset size) (λ x lo hi. refl)

-- a piece that holds x, where the pieces give a byte there
holding : (ps : List Piece) (x : ℕ) → IsTrue (is_some (byte_at ps x)) → (i : ℕ) × (p : Piece) × (slice_get ps i ≡ Some p) × IsTrue (holds p x)
holding [] x h = absurd (cc)
holding (p ∷ ps) x h = elim (cases_Bool (holds p x)) [
  | inl here ↦ (0, p, refl, here)
  | inr away ↦ (let r = holding ps x (grind arith) in (suc r.0, r.1, r.2, r.3))
]

-- the byte of the one piece that holds x
pub byte_of : (ps : List Piece) (x : ℕ) → ((i j : ℕ) (p q : Piece) → slice_get ps i ≡ Some p → slice_get ps j ≡ Some q → IsTrue (holds p x) → IsTrue (holds q x) → i ≡ j)
    → (i : ℕ) (p : Piece) → slice_get ps i ≡ Some p → IsTrue (holds p x) → byte_at ps x ≡ Some (piece_byte p x)
byte_of [] x apart i p e h = absurd (cc)
byte_of (q ∷ ps) x apart zero p e h =
    let s : q ≡ p = cc in
    ap (λ (r : Piece). if holds r x then Some (piece_byte r x) else byte_at ps x) s ∙ ap (λ b. if b then Some (piece_byte p x) else byte_at ps x) h
byte_of (q ∷ ps) x apart (suc i) p e h =
    let there = byte_of ps x (λ j k a c ea ec ha hc. (let s : suc j ≡ suc k = apart (suc j) (suc k) a c ea ec ha hc in omega arith)) i p e h in
    grind (arith, apart 0 (suc i) q p refl e, there)

-- what is said of a wrong byte, whatever the type of its request
pub wrong_of : (p : Option Part) (e : Effect) (byte : ℕ → Option ℕ) (x : ℕ) → IsWrongIn p e byte x →
    ((e.command ≡ commands.READ) ⊎ (e.command ≡ commands.BLOCK_STATUS)) × (e.succeeded ≡ true) × IsTrue (serves p e x)
wrong_of p e byte x (inl c, well, here, d) = (inl c, well, here)
wrong_of p e byte x (inr c, well, here, d) = (inr c.0, well, here)

-- only the byte there counts
pub wrong_there : (p : Option Part) (e : Effect) (byte other : ℕ → Option ℕ) (x : ℕ) → IsWrongIn p e byte x → other x ≡ byte x → IsWrongIn p e other x
wrong_there p e byte other x w q = (w.0, w.1, w.2, (w.3.0, q ∙ w.3.1, w.3.2))

-- the types whose replies are compared
pub compared_of : (command : ℕ) → ((command == commands.READ) || (command == commands.BLOCK_STATUS)) ≡ true → (command ≡ commands.READ) ⊎ (command ≡ commands.BLOCK_STATUS)
compared_of command h = elim (or_cases (command == commands.READ) (command == commands.BLOCK_STATUS) h) [
  | inl q ↦ inl (eqb-true command commands.READ q)
  | inr q ↦ inr (eqb-true command commands.BLOCK_STATUS q)
]

module _ (size : ℕ) (a : Asked) (byte : ℕ → Option ℕ) (reads : (a.command ≡ commands.READ) ⊎ (a.command ≡ commands.BLOCK_STATUS)) (well : is_success a.outcome ≡ true) (sound : IsServable size a) where
  same_byte : (i : ℕ) (p : Piece) (x : ℕ) → slice_get a.pieces i ≡ Some p → IsTrue (holds p x) → byte_at a.pieces x ≡ Some (piece_byte p x)
  same_byte i p x e h = byte_of a.pieces x (λ j k q r eq er hq hr. sound.laid.apart j k q r x eq er hq hr) i p e h

  module _ (p : Option Part) where
    -- one of the pieces differs at x, which an entry with this part serves
    abbrev DiffersHere : ℕ → Type 0
    DiffersHere x = DiffersInOneOf byte a.pieces (length a.pieces) x × IsTrue (in_part p x)

    to_wrong : (x : ℕ) → DiffersHere x → IsWrongIn p (effect a) byte x
    to_wrong x h =
        let d : DiffersInOneOf byte a.pieces (length a.pieces) x = h.0 in
        let at : (piece_offset d.1 ≤ x) × (x < piece_offset d.1 + piece_size d.1) = from_in (piece_offset d.1) (piece_size d.1) x d.4.0 in
        let lo : piece_offset d.1 ≤ x = at.0 in
        let hi : x < piece_offset d.1 + piece_size d.1 = at.1 in
        let inside : (a.offset ≤ piece_offset d.1) × (piece_offset d.1 + piece_size d.1 ≤ a.offset + a.length) = sound.laid.inside d.0 d.1 d.3 in
        let from : a.offset ≤ piece_offset d.1 = inside.0 in
        let end : piece_offset d.1 + piece_size d.1 ≤ a.offset + a.length = inside.1 in
        let same : byte_at a.pieces x ≡ Some (piece_byte d.1 x) = same_byte d.0 d.1 x d.3 d.4.0 in
        let served = and_from (is_in a.offset a.length x) (in_part p x) (in_from a.offset a.length x (omega arith) (omega arith)) h.1 in
        let gives : GivesByte (effect a) x = elim reads [ inl c ↦ inl c | inr k ↦ inr (k, ap is_some same) ] in
        (gives, well, served, (d.4.1.0, d.4.1.1, λ e. d.4.1.2 (sym same ∙ e)))

    from_wrong : (x : ℕ) → IsWrongIn p (effect a) byte x → DiffersHere x
    from_wrong x w =
        let s = and_parts (is_in a.offset a.length x) (in_part p x) w.2 in
        let given : IsTrue (is_some (byte_at a.pieces x)) = elim w.0 [ inl c ↦ sound.covered c well x s.0 | inr k ↦ k.1 ] in
        let c : (i : ℕ) × (q : Piece) × (slice_get a.pieces i ≡ Some q) × IsTrue (holds q x) = holding a.pieces x given in
        ((c.0, c.1, slice_get_within a.pieces c.0 c.1 c.2, c.2, (c.3, (w.3.0, w.3.1, λ e. w.3.2 (same_byte c.0 c.1 x c.2 c.3 ∙ e)))), s.1)

    pub wrong_part : (o : Option ℕ) → IsLeast DiffersHere o → IsLeast (IsWrongIn p (effect a) byte) o
    wrong_part o h = least_as DiffersHere (IsWrongIn p (effect a) byte) o to_wrong from_wrong h

  pub wrong_read : (o : Option ℕ) → IsLeast (DiffersInOneOf byte a.pieces (length a.pieces)) o → IsLeast (IsWrongIn None (effect a) byte) o
  wrong_read o h = wrong_part None o (least_as (DiffersInOneOf byte a.pieces (length a.pieces)) (DiffersHere None) o (λ m d. (d, refl)) (λ m d. d.0) h)

-- a piece that a list of references leads to
pub at_reference : (ps : List (Bor Piece)) (i : ℕ) (p : Bor Piece) → i < length ps → p ≡ slice_index_or ps i p → slice_get (map (λ q. q.now) ps) i ≡ Some p.now
at_reference ps i p l e = slice_get-map (λ q. q.now) ps i ∙ ap (option_map (λ q. q.now)) (read_at ps i p l e)

pub contained : (ps : List Piece) (i : ℕ) (p : Piece) → slice_get ps i ≡ Some p → Contains ps p
contained ps i p e =
    let l : i < length ps = slice_get_within ps i p e in
    let same : Some (slice_index_or ps i p) ≡ Some p = sym (slice_get-get_or ps i p l) ∙ e in
    (i, l, cc)
