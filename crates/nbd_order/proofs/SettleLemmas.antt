-- Ranges of the contents, made what is sure of them one after the other.
use Rattle.nbd_order.proofs.{Common.{◌≡◌, ℕ, ◌+◌, ◌<◌, ◌≤◌, inl, inr, List, [], refl, sym, ◌∙◌, ap, Option, Some, None, true, false, IsTrue, if◌then◌else◌, arith, length, slice_get, drop, and_parts, cases_lt, subst, Asked, Report, Piece, Exporting, asked_at, byte_at, effect, effect_byte, is_change, is_in, piece_offset, piece_size}, SureLemmas.{IsShown, shown}}
use Rattle.nbd_order.proofs.StretchLemmas.{none_left, stretch_at, stretch_past}
use Rattle.std.specs.Prelude.{◌-◌, zero, suc, slice_range, OnOk, Result, Ok, Err, IsSome}
use Rattle.nbd_export.proofs.HeldLemmas.{held_from-same}
use Rattle.nbd_export.specs.{Extents.{byte_of, size_of}, Held.{held, held_from}, Ranges.{AreSameBelow, bytes_from, overlay}, declared.extents.Extents.Extents}
use Rattle.nbd_judge.proofs.contents.{CompareLemmas.{byte_of as byte_of_piece, from_in, in_from}, RangeLemmas.{range_get, range_length}}
use Rattle.nbd_laws.specs.Soundness.{AreLaid, IsSoundAsked, IsSoundReport}
use Rattle.nbd_wire.specs.Prelude.{holds, piece_byte}
use Rattle.nbd_order.specs.{Sure.{changes, sure}, declared.{here.{Here.Here, Got.Got, Holds.{Holds, TheVariants.{Change, Read}}}, stretches.Stretch.Stretch}, internal.Here.{stretch_here, here_at, held_by}}

pub on_ok : {A E P Q : Type 0} (o : Result A E) → OnOk o P → (P → Q) → OnOk o Q
on_ok (Ok a) h f = f h
on_ok (Err e) h f = h

-- the same bytes inside
pub overlay_same : (offset n : ℕ) (f g old : ℕ → Option ℕ) (x : ℕ) → (IsTrue (is_in offset n x) → f x ≡ g x) → overlay offset n f old x ≡ overlay offset n g old x
overlay_same offset n f g old x h = grind arith

-- inside the bytes that are there
pub overlay_kept : (offset n : ℕ) (f old : ℕ → Option ℕ) (x : ℕ) → (IsTrue (is_in offset n x) → f x ≡ old x) → old x ≡ overlay offset n f old x
overlay_kept offset n f old x h = grind arith

-- some of the bytes that stand there
pub sliced : (bytes slice : List ℕ) (first offset n : ℕ) (old : ℕ → Option ℕ) (x : ℕ) → first ≤ offset → offset + n ≤ first + length bytes
    → slice ≡ slice_range bytes (offset - first) (offset - first + n) → overlay offset (length slice) (bytes_from offset slice) old x ≡ overlay offset n (bytes_from first bytes) old x
sliced bytes slice first offset n old x lo hi is =
    ap (λ m. overlay offset m (bytes_from offset slice) old x) (ap length is ∙ range_length bytes (offset - first) n (omega arith))
    ∙ overlay_same offset n (bytes_from offset slice) (bytes_from first bytes) old x
    (λ h. let w = from_in offset n x h in let from : offset ≤ x = w.0 in let to : x < offset + n = w.1 in
    ap (λ l. slice_get l (x - offset)) is ∙ range_get bytes (offset - first) n (x - offset) (omega arith)
    ∙ (let e : offset - first + (x - offset) ≡ x - first = omega arith in ap (slice_get bytes) e))

-- what is sure at x depends on the bytes at first only there
pub sure_same : (r : Report) (f g : ℕ → Option ℕ) (x : ℕ) → f x ≡ g x → sure r f x ≡ sure r g x
sure_same r f g x e = grind arith

-- one range more
module _ (r : Report) (first old new : ℕ → Option ℕ) (at end size : ℕ) (some : at < end) (fits : end ≤ size) where
  pub step_done : ((x : ℕ) → x < at → old x ≡ sure r first x) → ((x : ℕ) → at ≤ x → x < size → old x ≡ first x)
      → ((x : ℕ) → x < size → new x ≡ overlay at (end - at) (sure r old) old x) → (x : ℕ) → x < end → new x ≡ sure r first x
  step_done done rest made x l = made x (omega arith) ∙ elim (cases_lt x at) [
    | inl before ↦ ap (λ b. if b then sure r old x else old x) (outside before) ∙ done x before
    | inr behind ↦ ap (λ b. if b then sure r old x else old x) (in_from at (end - at) x behind (omega arith)) ∙ sure_same r old first x (rest x behind (omega arith))
  ]
    where
      outside : x < at → is_in at (end - at) x ≡ false
      outside before = grind arith

  pub step_rest : ((x : ℕ) → at ≤ x → x < size → old x ≡ first x) → ((x : ℕ) → x < size → new x ≡ overlay at (end - at) (sure r old) old x)
      → (x : ℕ) → end ≤ x → x < size → new x ≡ first x
  step_rest rest made x l h = made x h ∙ ap (λ b. if b then sure r old x else old x) outside ∙ rest x (omega arith) h
    where
      outside : is_in at (end - at) x ≡ false
      outside = grind arith

-- what the stretch tells that comes next
pub told_here : (stretches : List Stretch) (i : ℕ) (p : Stretch) (x : ℕ) (h : Here) → slice_get stretches i ≡ Some p → x < p.end → stretch_here (drop i stretches) x ≡ stretch_here stretches x → stretch_here stretches x ≡ Some h → h ≡ p.here
told_here stretches i p x h at l left is = let e : Some h ≡ Some p.here = sym is ∙ sym left ∙ stretch_at stretches i p x at l in (cc)

pub left_next : (stretches : List Stretch) (i : ℕ) (p : Stretch) (x : ℕ) → slice_get stretches i ≡ Some p → p.end ≤ x → stretch_here (drop i stretches) x ≡ stretch_here stretches x → stretch_here (drop (i + 1) stretches) x ≡ stretch_here stretches x
left_next stretches i p x at l left = (let e : i + 1 ≡ suc i = omega arith in ap (λ n. stretch_here (drop n stretches) x) e) ∙ sym (stretch_past stretches i p x at l) ∙ left

-- no offset is left behind the last stretch
pub none_behind : {P : Type 0} (stretches : List Stretch) (i x : ℕ) (h : Here) → length stretches ≤ i → stretch_here (drop i stretches) x ≡ stretch_here stretches x → stretch_here stretches x ≡ Some h → P
none_behind stretches i x h l left is = absurd (let e : None ≡ Some h = sym (none_left stretches i x l) ∙ left ∙ is in (cc))

-- Requests of a sound report.

pub sound_asked : (r : Report) → IsSoundReport r → (k : ℕ) (a : Asked) → asked_at k r.asked ≡ Some a → (size : ℕ) × IsSoundAsked size (length r.asked) k a
sound_asked r sound k a at = go r.export refl
  where
    none_at : (k : ℕ) → asked_at k [] ≡ Some a → ⊥
    none_at zero e = cc
    none_at (suc k) e = cc

    go : (o : Option Exporting) → r.export ≡ o → (size : ℕ) × IsSoundAsked size (length r.asked) k a
    go (Some export) e = (export.size, sound.each export k a e at)
    go None e = absurd (none_at k (sym (ap (asked_at k) (sound.none e)) ∙ at))

-- A range of which the same is told at each offset.
module _ (r : Report) (initial : ℕ → Option ℕ) (h : Here) (offset n : ℕ) (some : 0 < n) (told : (x : ℕ) → IsTrue (is_in offset n x) → here_at r.asked x ≡ h) where
  pub shown_in : (o : Holds) → o ≡ held_by h → (x : ℕ) → IsTrue (is_in offset n x) → IsShown r initial x o
  shown_in o is x inside = subst (IsShown r initial x) (sym (is ∙ ap held_by (sym (told x inside)))) (shown r initial x)

  first_in : IsTrue (is_in offset n offset)
  first_in = in_from offset n offset (omega arith) (omega arith)

  last_in : IsTrue (is_in offset n (offset + n - 1))
  last_in = in_from offset n (offset + n - 1) (omega arith) (omega arith)

  pub change_some : (k : ℕ) → Change k ≡ held_by h → IsSome (asked_at k r.asked)
  change_some k is = (let s = shown_in (Change k) is offset first_in in subst IsSome (sym s.1) refl)

  module _ (k : ℕ) (is : Change k ≡ held_by h) (a : Asked) (at : asked_at k r.asked ≡ Some a) where
    pub change_in : (x : ℕ) → IsTrue (is_in offset n x) → (changes x a ≡ true) × (sure r initial x ≡ effect_byte (effect a) x)
    change_in x inside =
        let s = shown_in (Change k) is x inside in
        let e : Some s.0 ≡ Some a = sym s.1 ∙ at in
        let q : s.0 ≡ a = cc in
        (ap (changes x) (sym q) ∙ s.2, s.3 ∙ ap (λ (y : Asked). effect_byte (effect y) x) q)

    pub change_lies : (a.offset ≤ offset) × (offset + n ≤ a.offset + a.length)
    change_lies =
        let first = lies offset first_in in
        let last = lies (offset + n - 1) last_in in
        (first.0, omega (arith, last.1))
      where
        lies : (x : ℕ) → IsTrue (is_in offset n x) → (a.offset ≤ x) × (x < a.offset + a.length)
        lies x inside = from_in a.offset a.length x (and_parts (is_change a.command) (is_in a.offset a.length x) (change_in x inside).0).1

  pub read_some : (got : Got) → Read got ≡ held_by h → IsSome (asked_at got.number r.asked)
  read_some got is = (let s = shown_in (Read got) is offset first_in in subst IsSome (sym s.2) refl)

  module _ (got : Got) (is : Read got ≡ held_by h) (a : Asked) (at : asked_at got.number r.asked ≡ Some a) where
    pub read_in : (x : ℕ) → IsTrue (is_in offset n x) → (p : Piece) × (slice_get a.pieces got.piece ≡ Some p) × (holds p x ≡ true) × (sure r initial x ≡ byte_at a.pieces x)
    read_in x inside =
        let s = shown_in (Read got) is x inside in
        let e : Some s.0 ≡ Some a = sym s.2 ∙ at in
        let q : s.0 ≡ a = cc in
        (s.1, ap (λ (y : Asked). slice_get y.pieces got.piece) (sym q) ∙ s.3, s.4, s.5 ∙ ap (λ (y : Asked). byte_at y.pieces x) q)

    pub piece_some : IsSome (slice_get a.pieces got.piece)
    piece_some = subst IsSome (sym (read_in offset first_in).1) refl

    module _ (p : Piece) (is_piece : slice_get a.pieces got.piece ≡ Some p) where
      pub piece_in : (x : ℕ) → IsTrue (is_in offset n x) → holds p x ≡ true
      piece_in x inside =
          let s = read_in x inside in
          let e : Some s.0 ≡ Some p = sym s.1 ∙ is_piece in
          let q : s.0 ≡ p = cc in
          ap (λ (y : Piece). holds y x) (sym q) ∙ s.2

      pub piece_lies : (piece_offset p ≤ offset) × (offset + n ≤ piece_offset p + piece_size p)
      piece_lies =
          let first = from_in (piece_offset p) (piece_size p) offset (piece_in offset first_in) in
          let last = from_in (piece_offset p) (piece_size p) (offset + n - 1) (piece_in (offset + n - 1) last_in) in
          (first.0, omega (arith, last.1))

      pub piece_sure : AreLaid a.offset a.length a.pieces → (x : ℕ) → IsTrue (is_in offset n x) → sure r initial x ≡ Some (piece_byte p x)
      piece_sure laid x inside = (read_in x inside).3 ∙ byte_of_piece a.pieces x (λ j k q s. laid.apart j k q s x) got.piece p is_piece (piece_in x inside)

-- What is held, where each byte is what is sure of the start's.
pub sure_held : (r : Report) (e : Extents) (first initial : ℕ → Option ℕ) (size n : ℕ) → size_of e ≡ size → size ≡ n → AreSameBelow size (byte_of e) (sure r first) → AreSameBelow n first initial
    → held e ≡ held_from (sure r initial) 0 n
sure_held r e first initial size n a b same starts =
    ap (held_from (byte_of e) 0) (a ∙ b)
    ∙ held_from-same (byte_of e) (sure r initial) 0 n
    (λ x lo hi. let l : x < n = omega arith in same x (subst (λ (m : ℕ). x < m) (sym b) l) ∙ sure_same r first initial x (starts x l))
