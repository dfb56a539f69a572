-- How far the lines of some messages were written, and what a writer holds after one more line or a fault.
use Rattle.nbd_lines.proofs.Common.{◌≡◌, ℕ, zero, suc, ◌+◌, ◌<◌, ◌≤◌, List, [], ◌∷◌, ◌++◌, length, take, drop, get_or, sym, ap, ◌∙◌, append-nil, add-one, drop-cons, subst, arith, flat_map, AllByRecursion, Appends, Appends-nil, Appends-trans, take_all, take_more, flat_map-append, Message, AppendsPrefix, prefix_then, then_prefix}
use Rattle.std.proofs.Common.{take-append-drop}
use Rattle.std.specs.Prelude.{Option}

module _ (line : Message → List ℕ) where
  -- the lines of the first k messages stand written
  abbrev pub Written : Option (List ℕ) → Option (List ℕ) → List Message → ℕ → Type 0
  Written old new all k = Appends old new (flat_map line (take k all))

  pub none_written : (old : Option (List ℕ)) (all : List Message) → Written old old all 0
  none_written old all = Appends-nil old

  one_line : (all : List Message) (k : ℕ) (m : Message) → k < length all → flat_map line (take (k + 1) all) ≡ flat_map line (take k all) ++ line (get_or all k m)
  one_line all k m h =
      ap (flat_map line) (take_more all k m h) ∙ flat_map-append line (take k all) (get_or all k m ∷ []) ∙ ap (λ l. flat_map line (take k all) ++ l) (append-nil (line (get_or all k m)))

  all_lines : (all : List Message) (k : ℕ) (m : Message) → k < length all
      → flat_map line all ≡ flat_map line (take k all) ++ (line (get_or all k m) ++ flat_map line (drop (k + 1) all))
  all_lines all k m h =
      let split : drop k all ≡ get_or all k m ∷ drop (k + 1) all = rw add-one (drop-cons all k m h) in
      ap (flat_map line) (sym (take-append-drop k all)) ∙ flat_map-append line (take k all) (drop k all) ∙ ap (λ l. flat_map line (take k all) ++ flat_map line l) split

  pub one_written : (old mid new : Option (List ℕ)) (all : List Message) (k : ℕ) (m : Message) → k < length all → m ≡ get_or all k m → Written old mid all k
      → Appends mid new (line m) → Written old new all (k + 1)
  one_written old mid new all k m h e past more = grind (arith, one_line, Appends-trans)

  -- a fault in a line
  pub broken_line : (old mid new : Option (List ℕ)) (all : List Message) (k : ℕ) (m : Message) → k < length all → m ≡ get_or all k m → Written old mid all k
      → AppendsPrefix mid new (line m) → AppendsPrefix old new (flat_map line all)
  broken_line old mid new all k m h e past more =
      let own : AppendsPrefix mid new (line (get_or all k m)) = subst (λ x. AppendsPrefix mid new (line x)) e more in
      subst (AppendsPrefix old new) (sym (all_lines all k m h))
      (then_prefix old mid new (flat_map line (take k all)) (line (get_or all k m) ++ flat_map line (drop (k + 1) all)) past
      (prefix_then mid new (line (get_or all k m)) (flat_map line (drop (k + 1) all)) own))

  -- a fault between lines
  pub stopped_before : (old new : Option (List ℕ)) (all : List Message) (k : ℕ) → Written old new all k → AppendsPrefix old new (flat_map line all)
  stopped_before old new all k past =
      (flat_map line (take k all), flat_map line (drop k all), ap (flat_map line) (sym (take-append-drop k all)) ∙ flat_map-append line (take k all) (drop k all), past)

  pub all_written : (old new : Option (List ℕ)) (all : List Message) (k : ℕ) → length all ≤ k → Written old new all k → Appends old new (flat_map line all)
  all_written old new all k h past = subst (λ l. Appends old new (flat_map line l)) (take_all k all h) past

-- each of some messages
pub each_fits : (P : Message → Type 0) (all : List Message) → AllByRecursion P all → (k : ℕ) (m : Message) → k < length all → m ≡ get_or all k m → P m
each_fits P [] f k m h e = absurd (omega arith)
each_fits P (x ∷ xs) f zero m h e = subst P (sym e) f.0
each_fits P (x ∷ xs) f (suc k) m h e = each_fits P xs f.1 k m (omega arith) e
