-- The service of a run is an order without a fault.
use Rattle.nbd_laws.proofs.Common.{◌≡◌, ℕ, ◌<◌, ◌≤◌, List, [], ◌∷◌, ◌++◌, length, refl, sym, ◌∙◌, ap, subst, inl, inr, Option, Some, Bool, true, false, IsTrue, append_assoc, arith, Entry, Profile, Base, IsServedAt, MayServe, is_served, Item, Byte, Starts, Completes, Serves, service_order, Core, start, start_of, IsRunOf, IsServedFor, Obeys, complete, ends_at, inside_at, makes_due, operations_of, with_profile}
use Rattle.nbd_laws.proofs.{service.{DueLemmas.{known_if, due_from}, EntryLemmas.{AreFine, HasNoFault, IsInTime, closed_unserved, served_at-left, served_behind}, InsideLemmas.{IsSettled, core_end, entries_grow, inside_end, settled_complete}}, runs.{TraceLemmas.{due_within, length-complete}, ProfileLemmas.at_base, RunLemmas.core_end-ends_at}}

pub record IsOrdered (core : Core) (js : List Entry) (items : List Item) : Type 0 where
  pub fine : AreFine (length (core_end core items).entries) (inside_at (core_end core items)) js (service_order items)
  pub answered : (k x n : ℕ) → due_from core items k x ≡ Some n → IsServedAt (inside_at (core_end core items) k) (js ++ service_order items) k x
  pub later : (k x n : ℕ) → due_from core items k x ≡ Some n → length core.entries ≤ n
  pub in_time : (κ : ℕ → ℕ → Option ℕ) → ((k x : ℕ) → IsTrue (is_served (service_order items) k x) → κ k x ≡ due_from core items k x) → IsInTime κ (service_order items)

-- an item that may make something due
module _ (core next : Core) (item : Item) (items : List Item) (js : List Entry) (for_it : IsServedFor (record { core = core; served = js }) item)
    (same : (k : ℕ) → 0 < k → k ≤ length core.entries → inside_at core k ≡ inside_at (core_end next items) k) (grows : length core.entries ≤ length next.entries) (h : IsOrdered next js items) where
  abbrev due_here : ℕ → ℕ → Option ℕ
  due_here k x = known_if (makes_due core item k x) core (due_from next items k x)

  -- what it makes due is served before it
  for_end : (k x : ℕ) → IsTrue (makes_due core item k x) → IsServedAt (inside_at (core_end next items) k) js k x
  for_end k x d = grind (arith, due_within)

  answered_now : (k x n : ℕ) → due_here k x ≡ Some n → IsServedAt (inside_at (core_end next items) k) (js ++ service_order items) k x
  answered_now k x n q = go (makes_due core item k x) refl q
    where
      go : (b : Bool) → makes_due core item k x ≡ b → known_if b core (due_from next items k x) ≡ Some n → IsServedAt (inside_at (core_end next items) k) (js ++ service_order items) k x
      go true d q = served_at-left (inside_at (core_end next items) k) js (service_order items) k x (for_end k x d)
      go false d q = h.answered k x n q

  later_now : (k x n : ℕ) → due_here k x ≡ Some n → length core.entries ≤ n
  later_now k x n q = grind arith

  -- what is served later does not fall due here
  not_now : (k x : ℕ) → IsTrue (is_served (service_order items) k x) → due_here k x ≡ due_from next items k x
  not_now k x s = go (makes_due core item k x) refl
    where
      go : (b : Bool) → makes_due core item k x ≡ b → known_if b core (due_from next items k x) ≡ due_from next items k x
      go b d = grind (arith, closed_unserved, inside_at, for_end)

pub ordered : (items : List Item) (core : Core) (js : List Entry) → IsSettled core → Obeys (record { core = core; served = js }) items → IsOrdered core js items
ordered [] core js settled ob = record { fine = tt; answered = λ k x n e. absurd (cc); later = λ k x n e. absurd (cc); in_time = λ κ h. tt }
ordered (Byte s b ∷ items) core js settled ob = grind (arith, ordered items core js settled ob.1)
ordered (Starts s m ∷ items) core js settled ob =
    let h : IsOrdered core js items = ordered items core js settled ob.1 in
    let same = inside_end (Starts s m ∷ items) core js settled ob in
    record {
      fine = h.fine;
      answered = answered_now core core (Starts s m) items js ob.0.3 same (omega arith) h;
      later = later_now core core (Starts s m) items js ob.0.3 same (omega arith) h;
      in_time = λ κ q. h.in_time κ (λ k x s'. q k x s' ∙ not_now core core (Starts s m) items js ob.0.3 same (omega arith) h k x s');
    }
ordered (Completes s m ∷ items) core js settled ob =
    let h : IsOrdered (complete core m) js items = ordered items (complete core m) js (settled_complete core m ob.0.0 settled) ob.1 in
    let same = inside_end (Completes s m ∷ items) core js settled ob in
    let grows : length core.entries ≤ length (complete core m).entries = elim (length-complete core m) [ inl q ↦ omega arith | inr q ↦ omega arith ] in
    record {
      fine = h.fine;
      answered = answered_now core (complete core m) (Completes s m) items js ob.0.1 same grows h;
      later = later_now core (complete core m) (Completes s m) items js ob.0.1 same grows h;
      in_time = λ κ q. h.in_time κ (λ k x s'. q k x s' ∙ not_now core (complete core m) (Completes s m) items js ob.0.1 same grows h k x s');
    }
ordered (Serves j ∷ items) core js settled ob =
    let h : IsOrdered core (js ++ j ∷ []) items = ordered items core (js ++ j ∷ []) settled ob.1 in
    let grow : length core.entries ≤ length (core_end core items).entries = entries_grow core items in
    let lo : 0 < j.request = ob.0.0 in
    let hi : j.request ≤ length core.entries = ob.0.1 in
    record {
      fine = (
        (lo, omega arith, subst (λ within. MayServe within js j) (inside_end items core (js ++ j ∷ []) settled ob.1 j.request lo hi) ob.0.2),
        h.fine,
      );
      answered = λ k x n e. subst (λ es. IsServedAt (inside_at (core_end core items) k) es k x) (append_assoc js (j ∷ []) (service_order items)) (h.answered k x n e);
      later = h.later;
      in_time = λ κ q. (
        (λ k x n a e. (let l : length core.entries ≤ n = h.later k x n (sym (q k x a) ∙ e) in omega arith)),
        h.in_time κ (λ k x a. q k x (served_behind j (service_order items) k x a)),
      );
    }

pub start_settled : (profile : Profile) → IsSettled (start_of profile).core
start_settled profile = λ l. absurd (omega arith)

-- what a run serves has no order fault
pub order_of_run : {profile : Profile} (items : List Item) → IsRunOf profile items →
    HasNoFault (length (operations_of items)) (due_from (start_of profile).core items) (inside_at (ends_at start items).core) (service_order items)
order_of_run {profile} items run =
    let h : IsOrdered (start_of profile).core [] items = ordered items (start_of profile).core [] (start_settled profile) run.obeys in
    let same : with_profile Base (core_end (start_of profile).core items) ≡ (ends_at start items).core =
    ap (with_profile Base) (core_end-ends_at (start_of profile).core [] items) ∙ at_base profile items in
    record {
      fine = subst (λ (c : Core). AreFine (length c.entries) (inside_at c) [] (service_order items)) same h.fine;
      in_time = h.in_time (due_from (start_of profile).core items) (λ k x s. refl);
      served = λ k x n p l e. subst (λ (c : Core). IsServedAt (inside_at c k) (service_order items) k x) same (h.answered k x n e);
    }
