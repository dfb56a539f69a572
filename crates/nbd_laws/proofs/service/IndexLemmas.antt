-- The faults of an order by index are those entry by entry.
use Rattle.nbd_laws.proofs.{Common.{◌≡◌, ℕ, suc, ◌<◌, ◌≤◌, ◌==◌, inl, inr, List, [], ◌∷◌, ◌++◌, refl, sym, subst, Option, Some, arith, slice_get, take, IsTrue, Bool, true, false, nat_le, eqb-true, append_assoc, append-nil, eqb-false, leb-true, leb-false, Entry, is_served, HasNoOrderFault, IsBad, IsLate}, service.EntryLemmas.{AreFine, HasNoFault, IsFine, IsInTime}}

module _ (count : ℕ) (inside : ℕ → ℕ → Bool) where
  abbrev FineByIndex : List Entry → List Entry → Type 0
  FineByIndex before order = (i : ℕ) (e : Entry) → slice_get order i ≡ Some e → IsFine count inside (before ++ take i order) e

  fine_list : (before order : List Entry) → FineByIndex before order → AreFine count inside before order
  fine_list before [] h = tt
  fine_list before (e ∷ order) h = (
    subst (λ l. IsFine count inside l e) (append-nil before) (h 0 e refl),
    fine_list (before ++ e ∷ []) order (λ i d q. subst (λ l. IsFine count inside l d) (sym (append_assoc before (e ∷ []) (take i order))) (h (suc i) d q)),
  )

  fine_index : (before order : List Entry) → AreFine count inside before order → FineByIndex before order
  fine_index before (d ∷ order) f (suc i) e q = subst (λ l. IsFine count inside l e) (append_assoc before (d ∷ []) (take i order)) (fine_index (before ++ d ∷ []) order f.1 i e q)
  fine_index before order f i e q = grind (arith, append-nil, append_assoc)

  fine_of : (order : List Entry) → ((i : ℕ) → IsBad count inside order i → ⊥) → FineByIndex [] order
  fine_of order h i e q = (positive (e.request == 0) refl, within (nat_le e.request count) refl, ((λ t. h i (inr (inl (e, q, t)))), λ b. h i (inr (inr (e, q, b)))))
    where
      positive : (b : Bool) → (e.request == 0) ≡ b → 0 < e.request
      positive true z = absurd (h i (inl (e, q, inl (eqb-true e.request 0 z))))
      positive false z = (let ne = eqb-false e.request 0 z in omega arith)

      within : (b : Bool) → nat_le e.request count ≡ b → e.request ≤ count
      within true z = leb-true e.request count z
      within false z = absurd (h i (inl (e, q, inr (leb-false e.request count z))))

module _ (due : ℕ → ℕ → Option ℕ) where
  in_time_list : (order : List Entry) → ((i : ℕ) → IsLate due order i → ⊥) → IsInTime due order
  in_time_list [] h = tt
  in_time_list (e ∷ order) h = (λ k x n a q. first k x n a q (nat_le e.request n) refl, in_time_list order (λ i l. h (suc i) l))
    where
      first : (k x n : ℕ) → IsTrue (is_served (e ∷ order) k x) → due k x ≡ Some n → (b : Bool) → nat_le e.request n ≡ b → e.request ≤ n
      first k x n a q true b = leb-true e.request n b
      first k x n a q false b = absurd (h 0 (e, k, x, n, refl, a, q, leb-false e.request n b))

  in_time_index : (order : List Entry) → IsInTime due order → (i : ℕ) → IsLate due order i → ⊥
  in_time_index (d ∷ order) h (suc i) l = in_time_index order h.1 i l
  in_time_index order h i l = grind arith

  pub by_entries : (count : ℕ) (inside : ℕ → ℕ → Bool) (order : List Entry) → HasNoOrderFault count due inside order → HasNoFault count due inside order
  by_entries count inside order h = record {
    fine = fine_list count inside [] order (fine_of count inside order h.none_bad);
    in_time = in_time_list order h.none_late;
    served = λ k x n p l e. h.served k x (p, l, (n, e));
  }

  pub by_index : (count : ℕ) (inside : ℕ → ℕ → Bool) (order : List Entry) → HasNoFault count due inside order → HasNoOrderFault count due inside order
  by_index count inside order h = record {
    none_bad = grind (arith, fine_index count inside [] order h.fine);
    none_late = in_time_index order h.in_time;
    served = λ k x a. h.served k x a.2.0 a.0 a.1 a.2.1;
  }
