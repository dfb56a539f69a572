-- What an entry that is served compares and changes.
use Rattle.nbd_judge.proofs.Common.{◌≡◌, ℕ, ◌+◌, ◌<◌, ◌≤◌, inl, inr, List, [], ◌∷◌, ◌++◌, sym, ◌∙◌, ap, subst, Option, Some, arith, true, slice_get, take_all, le_refl, length, take, ◌⊎◌, Entry, in_part, Effect, IsWrong, IsWrongIn, IsWrongOf, byte_before, effect, effects, is_success, is_in, Asked, Report, AreSameBelow, IsLeast, contents_with_effect, contents_after, IsServable, HasWrongFrom, take_more, get_or_from_slice_get, slice_get_within, and_parts, cases_eq}
use Rattle.nbd_judge.proofs.contents.{CompareLemmas.{from_in, least_as, wrong_of, wrong_there}, ForwardLemmas.{after_push, applied_same, folding}}
use Rattle.nbd_wire.specs.declared.commands.TheConstants as commands

-- the entries up to entry i
pub taken_one : (order : List Entry) (i : ℕ) (e : Entry) → slice_get order i ≡ Some e → take (i + 1) order ≡ take i order ++ e ∷ []
taken_one order i e at = take_more order i e (slice_get_within order i e at) ∙ ap (λ d. take i order ++ d ∷ []) (get_or_from_slice_get order i e e at)

-- the contents behind the last entry
pub behind : (requests : ℕ → Option Effect) (order : List Entry) (initial : ℕ → Option ℕ) (i x : ℕ) → length order ≤ i
    → contents_after requests (take i order) initial x ≡ byte_before requests order initial (length order) x
behind requests order initial i x le =
    ap (λ es. contents_after requests es initial x) (take_all i order le ∙ sym (take_all (length order) order (le_refl (length order))))
    ∙ folding requests order initial (length order) x

module _ (size : ℕ) (requests : ℕ → Option Effect) (order : List Entry) (initial now : ℕ → Option ℕ) (i : ℕ) (entry : Entry) (here : slice_get order i ≡ Some entry)
    (same : AreSameBelow size now (contents_after requests (take i order) initial)) where
  same_now : (x : ℕ) → x < size → now x ≡ byte_before requests order initial i x
  same_now x h = same x h ∙ folding requests order initial i x

  -- the contents after it, whether there is such a request or not
  pub next : (after : ℕ → Option ℕ) → AreSameBelow size after (contents_with_effect entry.part (requests entry.request) now) → AreSameBelow size after (contents_after requests (take (i + 1) order) initial)
  next after h x l =
      h x l ∙ applied_same entry.part (requests entry.request) size now (contents_after requests (take i order) initial) same x l
      ∙ ap (λ (f : ℕ → Option ℕ). f x) (sym (after_push requests (take i order) entry initial))
      ∙ ap (λ es. contents_after requests es initial x) (sym (taken_one order i entry here))

  module _ (a : Asked) (at : requests entry.request ≡ Some (effect a)) (sound : IsServable size a) where
    inside : (x : ℕ) → (a.command ≡ commands.READ) ⊎ (a.command ≡ commands.BLOCK_STATUS) → is_success a.outcome ≡ true → x < a.offset + a.length → x < size
    inside x c w h = (let l : a.offset + a.length ≤ size = sound.read_inside c w in omega arith)

    to_served : (x : ℕ) → IsWrongIn entry.part (effect a) now x → IsWrong requests order initial i x
    to_served x w =
        let s = wrong_of entry.part (effect a) now x w in
        let lies = from_in a.offset a.length x (and_parts (is_in a.offset a.length x) (in_part entry.part x) s.2).0 in
        (entry, here, (effect a, at, wrong_there entry.part (effect a) now (byte_before requests order initial i) x w (sym (same_now x (inside x s.0 s.1 lies.1)))))

    from_served : (x : ℕ) → IsWrong requests order initial i x → IsWrongIn entry.part (effect a) now x
    from_served x s =
        let d : s.0 ≡ entry = (let r : Some s.0 ≡ Some entry = sym s.1 ∙ here in cc) in
        let v : IsWrongOf requests entry (byte_before requests order initial i) x = subst (λ (e : Entry). IsWrongOf requests e (byte_before requests order initial i) x) d s.2 in
        let r : v.0 ≡ effect a = (let q : Some v.0 ≡ Some (effect a) = sym v.1 ∙ at in cc) in
        let w : IsWrongIn entry.part (effect a) (byte_before requests order initial i) x = subst (λ (z : Effect). IsWrongIn entry.part z (byte_before requests order initial i) x) r v.2 in
        let t = wrong_of entry.part (effect a) (byte_before requests order initial i) x w in
        let lies = from_in a.offset a.length x (and_parts (is_in a.offset a.length x) (in_part entry.part x) t.2).0 in
        wrong_there entry.part (effect a) (byte_before requests order initial i) now x w (same_now x (inside x t.0 t.1 lies.1))

    pub served : (o : Option ℕ) → IsLeast (IsWrongIn entry.part (effect a) now) o → IsLeast (IsWrong requests order initial i) o
    served o h = least_as (IsWrongIn entry.part (effect a) now) (IsWrong requests order initial i) o to_served from_served h

-- no wrong byte up to entry i and at it, so none up to the next entry
pub none_through : (r : Report) (order : List Entry) (initial : ℕ → Option ℕ) (i : ℕ) → ((j : ℕ) → j < i → HasWrongFrom r order initial j → ⊥) → ((x : ℕ) → IsWrong (effects r) order initial i x → ⊥)
    → (j : ℕ) → j < i + 1 → HasWrongFrom r order initial j → ⊥
none_through r order initial i entries_before here j l h = elim (cases_eq j i) [
  | inl e ↦ here h.0 (subst (λ n. IsWrong (effects r) order initial n h.0) e h.1)
  | inr ne ↦ entries_before j (omega arith) h
]
