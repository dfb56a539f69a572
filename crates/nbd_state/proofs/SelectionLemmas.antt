-- Whether contexts were selected.
use Rattle.nbd_state.proofs.{Common.{and_parts, ◌≡◌, ℕ, ◌==◌, ◌&&◌, ◌||◌, List, [], ◌∷◌, length, refl, sym, ◌∙◌, ap, subst, Bool, true, false, not, IsTrue, arith, Option, All-set_contains, is_at, BTreeSet, btree_set_len, contains, list_all, list_any, TellsThese, is_this, nat_cmp, nat_cmp_total, Context, has_id, are_settled}, RecordingLemmas.at-same}
use Rattle.std.proofs.lemmas.Bool.{eq-eqb, eqb-true, ne_eqb}

head_id : (c : Context) (contexts : List Context) → has_id (c ∷ contexts) c.id ≡ true
head_id c contexts = ap (λ b. b || has_id contexts c.id) (eq-eqb c.id c.id refl)

-- no ids are those of no contexts
by_keys : (s : BTreeSet ℕ) (keys : List ℕ) (contexts : List Context) → s.keys ≡ keys → ((id : ℕ) → contains nat_cmp s id ≡ has_id contexts id) → (length keys == 0) ≡ (length contexts == 0)
by_keys s [] [] e same = refl
by_keys s [] (c ∷ contexts) e same =
    let none : contains nat_cmp s c.id ≡ false = ap (λ (ks : List ℕ). contains nat_cmp (record { keys = ks }) c.id) e in
    let w : false ≡ true = sym none ∙ same c.id ∙ head_id c contexts in (absurd (cc))
by_keys s (k ∷ keys) [] e same =
    let t : BTreeSet ℕ = record { keys = k ∷ keys } in
    let has : contains nat_cmp t k ≡ true = All-set_contains nat_cmp_total t 0 k (omega arith) in
    let w : true ≡ false = sym has ∙ ap (λ (ks : List ℕ). contains nat_cmp (record { keys = ks }) k) (sym e) ∙ same k in (absurd (cc))
by_keys s (k ∷ keys) (c ∷ contexts) e same = grind (arith, head_id, nat_cmp_total, ne_eqb)

pub none_of : (s : BTreeSet ℕ) (contexts : List Context) (is : Bool) → ((id : ℕ) → contains nat_cmp s id ≡ has_id contexts id) → (IsTrue is → btree_set_len s ≡ 0) → (btree_set_len s ≡ 0 → IsTrue is) → is ≡ (length contexts == 0)
none_of s contexts is same to from = go is (length s.keys == 0) refl to from ∙ by_keys s s.keys contexts refl same
  where
    go : (b l : Bool) → (length s.keys == 0) ≡ l → (IsTrue b → btree_set_len s ≡ 0) → (btree_set_len s ≡ 0 → IsTrue b) → b ≡ (length s.keys == 0)
    go true l e to from = sym (eq-eqb (length s.keys) 0 (to refl))
    go false true e to from = from (eqb-true (length s.keys) 0 e) ∙ sym e
    go false false e to from = sym e

-- each of the contexts is settled exactly where each id of them is
each_settled : (settled : ℕ → Bool) (contexts : List Context) (id : ℕ) → are_settled settled contexts ≡ true → has_id contexts id ≡ true → settled id ≡ true
each_settled settled [] id a h = absurd (cc)
each_settled settled (c ∷ contexts) id a h = go (c.id == id) refl (λ r. each_settled settled contexts id both.1 r)
  where
    both : (settled c.id ≡ true) × (are_settled settled contexts ≡ true)
    both = and_parts (settled c.id) (are_settled settled contexts) a

    go : (b : Bool) → (c.id == id) ≡ b → (has_id contexts id ≡ true → settled id ≡ true) → settled id ≡ true
    go true q later = subst (λ i. settled i ≡ true) (eqb-true c.id id q) both.0
    go false q later = later (sym (ap (λ b. b || has_id contexts id) q) ∙ h)

settled_each : (settled : ℕ → Bool) (contexts : List Context) → ((id : ℕ) → has_id contexts id ≡ true → settled id ≡ true) → are_settled settled contexts ≡ true
settled_each settled [] f = refl
settled_each settled (c ∷ contexts) f =
    ap (λ b. b && are_settled settled contexts) (f c.id (head_id c contexts))
    ∙ settled_each settled contexts (λ id h. f id (ap (λ b. (c.id == id) || b) h ∙ or_right (c.id == id)))
  where
    or_right : (b : Bool) → (b || true) ≡ true
    or_right true = refl
    or_right false = refl

-- a key of the set is one that it has
has_key : (k : ℕ) (keys : List ℕ) → list_any (is_at (nat_cmp k)) (k ∷ keys) ≡ true
has_key k keys = ap (λ b. b || list_any (is_at (nat_cmp k)) keys) (at-same k k ∙ eq-eqb k k refl)

-- a test of each key holds of what the set has, and the other way round
all_keys : (test : ℕ → Bool) (keys : List ℕ) (i : ℕ) → list_all test keys ≡ true → list_any (is_at (nat_cmp i)) keys ≡ true → test i ≡ true
all_keys test [] i a h = absurd (cc)
all_keys test (k ∷ keys) i a h = go (i == k) refl (λ r. all_keys test keys i both.1 r)
  where
    both : (test k ≡ true) × (list_all test keys ≡ true)
    both = and_parts (test k) (list_all test keys) a

    go : (b : Bool) → (i == k) ≡ b → (list_any (is_at (nat_cmp i)) keys ≡ true → test i ≡ true) → test i ≡ true
    go true q later = subst (λ j. test j ≡ true) (sym (eqb-true i k q)) both.0
    go false q later = later (sym (ap (λ b. b || list_any (is_at (nat_cmp i)) keys) (at-same i k ∙ q)) ∙ h)

keys_all : (test : ℕ → Bool) (keys : List ℕ) → ((i : ℕ) → list_any (is_at (nat_cmp i)) keys ≡ true → test i ≡ true) → list_all test keys ≡ true
keys_all test [] f = refl
keys_all test (k ∷ keys) f =
    ap (λ b. b && list_all test keys) (f k (has_key k keys))
    ∙ keys_all test keys (λ i h. f i (ap (λ b. is_at (nat_cmp i) k || b) h ∙ or_right (is_at (nat_cmp i) k)))
  where
    or_right : (b : Bool) → (b || true) ≡ true
    or_right true = refl
    or_right false = refl

module _ (id : Option ℕ) (contexts : List Context) (settled : ℕ → Bool) where
  -- without a filter: each id in force has its status
  pub all_told : (ids told : BTreeSet ℕ) → ((i : ℕ) → contains nat_cmp ids i ≡ has_id contexts i) → TellsThese settled contexts (record { filtered = false; ids = told }) id →
      list_all (λ i. is_this id i || contains nat_cmp told i) ids.keys ≡ are_settled settled contexts
  all_told ids told these those = grind (arith, settled_each, all_keys, keys_all, each_settled)

  -- with a filter: each id that it asks and that lacks its status is none in force
  pub none_left : (ids left : BTreeSet ℕ) → ((i : ℕ) → contains nat_cmp ids i ≡ has_id contexts i) → TellsThese settled contexts (record { filtered = true; ids = left }) id →
      list_all (λ i. is_this id i || not (contains nat_cmp ids i)) left.keys ≡ are_settled settled contexts
  none_left ids left these those = grind (arith, settled_each, all_keys, keys_all, each_settled)
