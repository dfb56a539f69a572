-- What is sure of an offset, by what the requests tell of it.
use Rattle.nbd_order.proofs.{Common.{◌≡◌, ℕ, suc, ◌≤◌, List, [], ◌∷◌, refl, sym, ◌∙◌, ap, Option, Some, None, Bool, true, false, ◌||◌, if◌then◌else◌, arith, nat_le, nat_lt, slice_get, Asked, Piece, Report, asked_at, byte_at, effect, effect_byte}, ToldLemmas.{IsGot, IsTold, behind, next_at, told}}
use Rattle.nbd_wire.specs.Prelude.{holds}
use Rattle.nbd_order.specs.{Sure.{byte_behind_last, byte_seen, changes, gets, is_last_alone, last_number, number_before, sure}, declared.here.{Got.Got, Here.Here, Holds.{Holds, TheVariants.{Change, First, Read, Unknown}}}, internal.Here.{here_at, held_behind, held_by, held_by_read}}

-- what x holds is what is sure there
abbrev pub IsShown : Report → (initial : ℕ → Option ℕ) → (x : ℕ) → Holds → Type 0
IsShown r initial x First = sure r initial x ≡ initial x
IsShown r initial x Unknown = sure r initial x ≡ None
IsShown r initial x (Change n) = (a : Asked) × (asked_at n r.asked ≡ Some a) × (changes x a ≡ true) × (sure r initial x ≡ effect_byte (effect a) x)
IsShown r initial x (Read got) =
    (a : Asked) × (p : Piece) × (asked_at got.number r.asked ≡ Some a) × (slice_get a.pieces got.piece ≡ Some p) × (holds p x ≡ true) × (sure r initial x ≡ byte_at a.pieces x)

-- the last one has the property
abbrev pub HasAt : (Asked → Bool) → List Asked → ℕ → Type 0
HasAt has_it asked n = (a : Asked) × (asked_at n asked ≡ Some a) × (has_it a ≡ true) × (1 ≤ n)

pub last_has : (has_it : Asked → Bool) (asked : List Asked) (n : ℕ) → last_number has_it asked ≡ Some n → HasAt has_it asked n
last_has has_it [] n e = absurd (cc)
last_has has_it (a ∷ asked) n e = go (has_it a) (last_number has_it asked) refl refl (λ m. last_has has_it asked m) e
  where
    go : (b : Bool) (o : Option ℕ) → has_it a ≡ b → last_number has_it asked ≡ o → ((m : ℕ) → last_number has_it asked ≡ Some m → HasAt has_it asked m) → number_before b o ≡ Some n → HasAt has_it (a ∷ asked) n
    go b (Some m) has later rest is =
        let h = rest m later in
        let q : suc m ≡ n = cc in
        (h.0, ap (λ k. asked_at k (a ∷ asked)) (sym q) ∙ next_at a asked m h.0 h.1, h.2, omega arith)
    go true None has later rest is = (let q : 1 ≡ n = cc in (a, ap (λ k. asked_at k (a ∷ asked)) (sym q), has, omega arith))
    go false None has later rest is = absurd (cc)

module _ (r : Report) (initial : ℕ → Option ℕ) (x : ℕ) (h : Here) (t : IsTold 0 x r.asked h) where
  last_is : h.last ≡ last_number (changes x) r.asked
  last_is = t.last ∙ unmoved (last_number (changes x) r.asked)
    where
      unmoved : (o : Option ℕ) → behind 0 o ≡ o
      unmoved o = grind arith

  by_read : (read : Option Got) → IsGot 0 x r.asked read → sure r initial x ≡ byte_seen r.asked x (last_number (gets x) r.asked) → IsShown r initial x (held_by_read h.latest read)
  by_read None g e = e ∙ ap (byte_seen r.asked x) g
  by_read (Some got) g e = go (nat_lt h.latest got.number) refl
    where
      same : got.number ≡ g.0
      same = omega (arith, g.3)

      seen : sure r initial x ≡ (if nat_le got.number h.latest then None else byte_at g.1.pieces x)
      seen = cc (e, g.7, same, g.4, t.latest g.0 (last_has (gets x) r.asked g.0 g.7).3)

      go : (b : Bool) → nat_lt h.latest got.number ≡ b → IsShown r initial x (if b then Read got else Unknown)
      go true l = (g.1, g.2, ap (λ n. asked_at n r.asked) same ∙ g.4, g.5, g.6, grind (arith, seen))
      go false l = grind (arith, seen)

  by_last : (n : ℕ) → last_number (changes x) r.asked ≡ Some n → IsShown r initial x (held_behind h (Some n))
  by_last n last = go h.any_open (nat_le n h.vague) (nat_lt h.second n) refl refl refl
    where
      found : HasAt (changes x) r.asked n
      found = last_has (changes x) r.asked n last

      alone : is_last_alone r.asked n x ≡ nat_lt h.second n
      alone = grind (arith, t.second n found.3)

      is_sure : sure r initial x ≡ (if h.any_open then None else (if nat_le n h.vague then None else (if nat_lt h.second n then effect_byte (effect found.0) x else byte_seen r.asked x (last_number (gets x) r.asked))))
      is_sure = cc (last, t.any_open, t.vague n found.3, alone, found.1)

      go : (o v s : Bool) → h.any_open ≡ o → nat_le n h.vague ≡ v → nat_lt h.second n ≡ s → IsShown r initial x (if o || v then Unknown else (if s then Change n else held_by_read h.latest h.read))
      go true v s eo ev es = cc is_sure
      go false true s eo ev es = cc is_sure
      go false false true eo ev es = (found.0, found.1, found.2, cc is_sure)
      go false false false eo ev es = by_read h.read t.read (cc is_sure)

  shown_by : (o : Option ℕ) → last_number (changes x) r.asked ≡ o → IsShown r initial x (held_behind h o)
  shown_by None e = ap (byte_behind_last r.asked initial x) e
  shown_by (Some n) e = by_last n e

pub shown : (r : Report) (initial : ℕ → Option ℕ) (x : ℕ) → IsShown r initial x (held_by (here_at r.asked x))
shown r initial x = let h = here_at r.asked x in let t = told r.asked x in shown_by r initial x h t h.last (sym (last_is r initial x h t))
