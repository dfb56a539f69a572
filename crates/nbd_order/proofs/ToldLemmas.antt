-- What requests tell of an offset is so of them.
use Rattle.nbd_order.proofs.Common.{◌≡◌, ℕ, zero, suc, ◌+◌, ◌≤◌, inl, inr, List, [], ◌∷◌, refl, sym, ◌∙◌, ap, subst, Option, Some, None, Bool, true, false, ◌&&◌, ◌||◌, if◌then◌else◌, arith, nat_le, slice_get, eqb-true, Asked, Piece, asked_at, is_change, is_in}
use Rattle.std.specs.{Prelude.{◌⊎◌, count_by, max, min}, List.list_any, Option.option_or}
use Rattle.std.proofs.lemmas.{Bool.cases_Bool, List.Sums.sum_by-cons}
use Rattle.nbd_wire.specs.Prelude.{holds}
use Rattle.nbd_order.specs.{Leaving.{are_open_at, is_open_at}, Sure.{changes, changes_behind, gets, is_read, last_number, leaves_unknown, number_before}, declared.here.{Got.Got, Here.Here}, internal.Here.{here_at, here_if, joined, nothing, of_change, of_piece, pieces_here, request_here, requests_here}}

-- the number behind k others
abbrev pub behind : ℕ → Option ℕ → Option ℕ
behind k (Some n) = Some (k + n)
behind k None = None

-- the READ of this number, behind k others, is the last of these requests that got x, and it got x with this piece
abbrev pub IsGot : (k x : ℕ) → List Asked → Option Got → Type 0
IsGot k x asked None = last_number (gets x) asked ≡ None
IsGot k x asked (Some got) =
    (n : ℕ) × (a : Asked) × (p : Piece) × (got.number ≡ k + n) × (asked_at n asked ≡ Some a) × (slice_get a.pieces got.piece ≡ Some p) × (holds p x ≡ true) × (last_number (gets x) asked ≡ Some n)

-- this is told of x by these requests, behind k others
pub record IsTold (k x : ℕ) (asked : List Asked) (h : Here) : Type 0 where
  pub any_open : h.any_open ≡ are_open_at asked x
  pub last : h.last ≡ behind k (last_number (changes x) asked)
  pub latest : (n : ℕ) → 1 ≤ n → nat_le n h.latest ≡ list_any (changes_behind n x) asked
  pub second : (n : ℕ) → 1 ≤ n → nat_le n h.second ≡ nat_le 2 (count_by (changes_behind n x) asked)
  pub vague : (n : ℕ) → 1 ≤ n → nat_le n h.vague ≡ list_any (λ (a : Asked). changes_behind n x a && leaves_unknown a) asked
  pub read : IsGot k x asked h.read

-- the piece of this place is the last of a READ that got x
abbrev IsPiece : (k i x : ℕ) → List Piece → (gets_it : Bool) → Option Got → Type 0
IsPiece k i x pieces gets_it None = gets_it ≡ false
IsPiece k i x pieces gets_it (Some got) =
    (j : ℕ) × (p : Piece) × (got.number ≡ k) × (got.piece ≡ i + j) × (slice_get pieces j ≡ Some p) × (holds p x ≡ true) × (gets_it ≡ true)

-- this is told of x by request k
record IsOne (k x : ℕ) (a : Asked) (h : Here) : Type 0 where
  any_open : h.any_open ≡ is_open_at x a
  last : h.last ≡ (if changes x a then Some k else None)
  latest : (n : ℕ) → 1 ≤ n → nat_le n h.latest ≡ changes_behind n x a
  second : h.second ≡ 0
  vague : (n : ℕ) → 1 ≤ n → nat_le n h.vague ≡ (changes_behind n x a && leaves_unknown a)
  read : IsPiece k 0 x a.pieces (gets x a) h.read

pub count_more : (p : Asked → Bool) (a : Asked) (asked : List Asked) → count_by p (a ∷ asked) ≡ (if p a then 1 else 0) + count_by p asked
count_more p a asked = sum_by-cons (λ (y : Asked). if p y then 1 else 0) a asked

-- one has the property where the count of them is 1 or more
pub any_counted : (p : Asked → Bool) (asked : List Asked) → list_any p asked ≡ nat_le 1 (count_by p asked)
any_counted p [] = grind arith
any_counted p (a ∷ asked) = grind (arith, any_counted p asked, count_more p a asked)

le_second : (n s m l : ℕ) → 1 ≤ n → nat_le n (max (max 0 s) (min m l)) ≡ (nat_le n s || (nat_le n m && nat_le n l))
le_second n s m l one = grind arith

two_counted : (c : ℕ) (b : Bool) → (nat_le 2 c || (b && nat_le 1 c)) ≡ nat_le 2 ((if b then 1 else 0) + c)
two_counted c b = grind arith

max_more : (n v w : ℕ) (b c : Bool) → nat_le n v ≡ b → nat_le n w ≡ c → nat_le n (max v w) ≡ (b || c)
max_more n v w b c p q = grind arith

last_more : (k : ℕ) (b : Bool) (o l e : Option ℕ) → e ≡ (if b then Some (k + 1) else None) → l ≡ behind (k + 1) o → option_or l e ≡ behind k (number_before b o)
last_more k b o l e p q = grind arith

-- the others have the next numbers
pub next_at : (a : Asked) (asked : List Asked) (n : ℕ) (b : Asked) → asked_at n asked ≡ Some b → asked_at (suc n) (a ∷ asked) ≡ Some b
next_at a asked zero b at = absurd (cc)
next_at a asked (suc n) b at = at

module _ (k x : ℕ) (a : Asked) (asked : List Asked) where
  got_more : (e h : Option Got) → IsPiece (k + 1) 0 x a.pieces (gets x a) e → IsGot (k + 1) x asked h → IsGot k x (a ∷ asked) (option_or h e)
  got_more e (Some got) o t = (
    suc t.0,
    t.1,
    t.2,
    grind (arith, t.3),
    next_at a asked t.0 t.1 t.4,
    t.5,
    t.6,
    ap (number_before (gets x a)) t.7,
  )
  got_more None None o t = ap (λ l. number_before (gets x a) l) t ∙ ap (λ b. number_before b None) o
  got_more (Some got) None o t = (
    1,
    a,
    o.1,
    grind (arith, o.2),
    refl,
    ap (slice_get a.pieces) (grind (arith, o.3)) ∙ o.4,
    o.5,
    ap (λ l. number_before (gets x a) l) t ∙ ap (λ b. number_before b None) o.6,
  )

  told_more : (e h : Here) → IsOne (k + 1) x a e → IsTold (k + 1) x asked h → IsTold k x (a ∷ asked) (joined e h)
  told_more e h o t = record {
    any_open = cc (o.any_open, t.any_open);
    last = last_more k (changes x a) (last_number (changes x) asked) h.last e.last o.last t.last;
    latest = λ n l. max_more n e.latest h.latest _ _ (o.latest n l) (t.latest n l);
    second = λ n l.
        let behind_n = changes_behind n x in
        cc (o.second, o.latest n l, t.latest n l, t.second n l, le_second n h.second e.latest h.latest l, two_counted (count_by behind_n asked) (behind_n a), any_counted behind_n asked, count_more behind_n a asked);
    vague = λ n l. max_more n e.vague h.vague _ _ (o.vague n l) (t.vague n l);
    read = got_more e.read h.read o.read t.read;
  }

-- what pieces tell
pieces_tell : (k i x : ℕ) (pieces : List Piece)
    → ((pieces_here k i pieces x ≡ nothing) × (list_any (λ (p : Piece). holds p x) pieces ≡ false))
    ⊎ ((j : ℕ) × (p : Piece) × (pieces_here k i pieces x ≡ of_piece k (i + j)) × (slice_get pieces j ≡ Some p) × (holds p x ≡ true) × (list_any (λ (p : Piece). holds p x) pieces ≡ true))
pieces_tell k i x [] = inl (refl, refl)
pieces_tell k i x (p ∷ pieces) = elim (pieces_tell k (i + 1) x pieces) [
  | inr s ↦ inr (
    suc s.0,
    s.1,
    ap (joined (here_if (holds p x) (of_piece k i))) s.2 ∙ behind_it (holds p x) (i + 1 + s.0) (i + suc s.0) (omega arith),
    s.3,
    s.4,
    grind (arith, s.5),
  )
  | inl none ↦ elim (cases_Bool (holds p x)) [
    | inl has ↦ inr (
      zero,
      p,
      ap (joined (here_if (holds p x) (of_piece k i))) none.0 ∙ ap (λ b. joined (here_if b (of_piece k i)) nothing) has ∙ ap (of_piece k) (let e : i ≡ i + 0 = omega arith in e),
      refl,
      has,
      ap (λ b. b || list_any (λ (q : Piece). holds q x) pieces) has,
    )
    | inr away ↦ inl (ap (joined (here_if (holds p x) (of_piece k i))) none.0 ∙ ap (λ b. joined (here_if b (of_piece k i)) nothing) away, ap (λ b. b || list_any (λ (q : Piece). holds q x) pieces) away ∙ none.1)
  ]
]
  where
    behind_it : (b : Bool) (m n : ℕ) → m ≡ n → joined (here_if b (of_piece k i)) (of_piece k m) ≡ of_piece k n
    behind_it true m n e = ap (of_piece k) e
    behind_it false m n e = ap (of_piece k) e

-- a change is no READ
no_read : (a : Asked) → is_change a.command ≡ true → is_read a ≡ false
no_read a e = grind (arith, eqb-true)

one_is : (k x : ℕ) (a : Asked) → IsOne k x a (request_here k a x)
one_is k x a = go (is_change a.command) (is_in a.offset a.length x) (is_read a) refl refl refl
  where
    told_no : (h : Here) → h ≡ nothing → changes x a ≡ false → gets x a ≡ false → IsOne k x a h
    told_no h e idle none = subst (IsOne k x a) (sym e) (record {
      any_open = grind arith;
      last = grind arith;
      latest = λ n l. grind arith;
      second = refl;
      vague = λ n l. grind arith;
      read = none;
    })

    go : (c i r : Bool) → is_change a.command ≡ c → is_in a.offset a.length x ≡ i → is_read a ≡ r → IsOne k x a (if c then here_if i (of_change k a) else here_if r (pieces_here k 0 a.pieces x))
    go true false r c i f = told_no _ refl (grind arith) (grind (arith, no_read a c))
    go false i false c j f = told_no _ refl (grind arith) (grind arith)
    go true true r c i f = record {
      any_open = grind arith;
      last = grind arith;
      latest = λ n l. grind arith;
      second = refl;
      vague = λ n l. grind arith;
      read = grind (arith, no_read a c);
    }
    go false i true c j f = elim (pieces_tell k 0 x a.pieces) [
      | inl none ↦ told_no (pieces_here k 0 a.pieces x) none.0 (grind arith) (grind (arith, none.1))
      | inr s ↦ subst (IsOne k x a) (sym s.2) (record {
        any_open = grind arith;
        last = grind arith;
        latest = λ n l. grind arith;
        second = refl;
        vague = λ n l. grind arith;
        read = (s.0, s.1, refl, refl, s.3, s.4, grind (arith, s.5));
      })
    ]

told_from : (k x : ℕ) (asked : List Asked) → IsTold k x asked (requests_here k asked x)
told_from k x [] = record { any_open = refl; last = refl; latest = λ n l. grind arith; second = λ n l. grind arith; vague = λ n l. grind arith; read = refl }
told_from k x (a ∷ asked) = told_more k x a asked (request_here (k + 1) a x) (requests_here (k + 1) asked x) (one_is (k + 1) x a) (told_from (k + 1) x asked)

-- what all of them tell
pub told : (asked : List Asked) (x : ℕ) → IsTold 0 x asked (here_at asked x)
told asked x = told_from 0 x asked
