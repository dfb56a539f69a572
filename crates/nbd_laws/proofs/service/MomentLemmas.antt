-- The moments of service of the runs with given bytes are the orders without a fault.
use Rattle.nbd_laws.proofs.Common.{◌≡◌, ℕ, ◌≤◌, ◌==◌, List, [], length, refl, sym, ◌∙◌, ap, subst, Option, Some, None, Bool, true, false, arith, if◌then◌else◌, nat_le, leb-true, Entry, Profile, Base, Wide, Item, service_order, HasNoOrderFault, Asked, asked_at, known_from, due_by_chunk, due_in, due_of, first_shown, inside_in, known_count, lesser_of, operations_of, report, IsRunOf, ends_at, inside_at, is_by_chunk, Core, operation, start, start_of, LatestMoments, OrdersAreFaultless, with_profile}
use Rattle.nbd_laws.proofs.{service.{IndexLemmas.{by_entries, by_index}, DueLemmas.{by_chunk, due_chunk, due_from, due_known, known_within, shown_at}, EntryLemmas.HasNoFault, InsideLemmas.core_end, OrderLemmas.{order_of_run, start_settled}, PlacingLemmas.IsDeep}, runs.{ProfileLemmas.{at_base, known_at_base}, RunLemmas.{core_end-ends_at, latest}}}
use Rattle.nbd_laws.proofs.requests.ReportLemmas.{asked-report, entry_within, length-report, stated, told_if}
use Rattle.nbd_wire.specs.declared.commands.TheConstants as commands

pub inside-report : (items : List Item) → inside_in (report items) ≡ inside_at (ends_at start items).core
unfolding report
inside-report items = grind (arith, asked-report)

of_none : (p : Profile) (within : ℕ → Bool) (x : ℕ) → due_of p within None x ≡ None
of_none p within x = grind arith

-- when a request is due, by what messages have led to at the end
due_at_end : (profile : Profile) (items : List Item) → IsRunOf profile items → (k x : ℕ) →
    due_of profile (inside_at (core_end (start_of profile).core items) k) (told_if (core_end (start_of profile).core items) (known_count items) k (operation k (core_end (start_of profile).core items).entries)) x
    ≡ due_from (start_of profile).core items k x
due_at_end profile items run k x = grind (arith, of_none, inside_at, end, unknown, known, no_chunk, stated, known_at_base, chunk)
  where
    end : Core
    end = core_end (start_of profile).core items

    known : is_by_chunk profile (operation k end.entries) ≡ false → known_from (start_of profile).core k items ≡ due_from (start_of profile).core items k x
    known other = sym (due_known profile items (start_of profile).core [] run.obeys refl k x other)

    chunk : is_by_chunk profile (operation k end.entries) ≡ true → by_chunk (inside_at end k x) (shown_at end k x) (end.ended_at k) ≡ due_from (start_of profile).core items k x
    chunk is_chunk = grind (arith, due_chunk, start_settled, inside_at, end)

    no_chunk : (p : Profile) → is_by_chunk p None ≡ false
    no_chunk p = grind arith

    unknown : operation k end.entries ≡ None → (o : Option ℕ) → known_from (start_of profile).core k items ≡ o → None ≡ o
    unknown q None r = refl
    unknown q (Some n) r = (let w = known_within (start_of profile).core items k n r in let e = entry_within k end.entries w.0 w.1 in let z : Some e.0 ≡ None = sym e.1 ∙ q in absurd (cc))

-- when a request is due by the report, it falls due in the run
pub due-report : (profile : Profile) (items : List Item) → IsRunOf profile items → (k x : ℕ) → due_from (start_of profile).core items k x ≡ due_in profile (report items) k x
due-report profile items run k x =
    sym (subst (λ (c : Core). due_of profile (inside_at c k) (told_if c (known_count items) k (operation k c.entries)) x ≡ due_from (start_of profile).core items k x) same (due_at_end profile items run k x))
    ∙ ap (λ o. due_of profile (inside_at (ends_at start items).core k) o x) (sym (asked-report items k))
    ∙ ap (λ f. due_of profile (f k) (asked_at k (report items).asked) x) (sym (inside-report items))
  where
    same : with_profile Base (core_end (start_of profile).core items) ≡ (ends_at start items).core
    same = ap (with_profile Base) (core_end-ends_at (start_of profile).core [] items) ∙ at_base profile items

deep_of : (p : Profile) (within : ℕ → Bool) (o : Option Asked) (x y n : ℕ) → within x ≡ false → within y ≡ true → due_of p within o x ≡ Some n → (m : ℕ) × (due_of p within o y ≡ Some m) × (m ≤ n)
deep_of p within None x y n out in_ h = absurd (let z : None ≡ Some n = sym (of_none p within x) ∙ h in (cc))
deep_of Base within (Some a) x y n out in_ h = (n, h, omega arith)
deep_of Wide within (Some a) x y n out in_ h = go (a.command == commands.READ) h
  where
    go : (b : Bool) → (if b then due_by_chunk within a x else a.known_at) ≡ Some n → (m : ℕ) × ((if b then due_by_chunk within a y else a.known_at) ≡ Some m) × (m ≤ n)
    go false h = (n, h, omega arith)
    go true h = at (first_shown a.shown y) refl
      where
        here : (o : Option ℕ) → first_shown a.shown y ≡ o → due_by_chunk within a y ≡ lesser_of o (Some n)
        here o q = ap (λ b. lesser_of (if b then first_shown a.shown y else None) a.ended_at) in_ ∙ ap (λ s. lesser_of s a.ended_at) q ∙ ap (lesser_of o) (grind arith)

        at : (o : Option ℕ) → first_shown a.shown y ≡ o → (m : ℕ) × (due_by_chunk within a y ≡ Some m) × (m ≤ n)
        at o q = grind (arith, here, nat_le, leb-true)

deep : (profile : Profile) (items : List Item) → IsDeep (due_in profile (report items)) (inside_at (ends_at start items).core)
deep profile items k x y n out in_ h =
    deep_of profile (inside_in (report items) k) (asked_at k (report items).asked) x y n (ap (λ f. f k x) (inside-report items) ∙ out) (ap (λ f. f k y) (inside-report items) ∙ in_) h

abbrev Faultless : (count : ℕ) → (inside : ℕ → ℕ → Bool) → Profile → List Item → List Entry → Type 0
Faultless count inside profile items order = HasNoOrderFault count (due_in profile (report items)) inside order

pub latest_moments : LatestMoments
latest_moments profile items order run h =
    latest items order run (due_in profile (report items)) (due-report profile items run) (deep profile items)
    (by_entries (due_in profile (report items)) (length (operations_of items)) (inside_at (ends_at start items).core) order
    (subst (λ n. Faultless n (inside_at (ends_at start items).core) profile items order) (length-report items)
    (subst (λ within. Faultless (length (report items).asked) within profile items order) (inside-report items) h)))

pub orders_are_faultless : OrdersAreFaultless
orders_are_faultless profile items run =
    subst (λ within. Faultless (length (report items).asked) within profile items (service_order items)) (sym (inside-report items))
    (subst (λ n. Faultless n (inside_at (ends_at start items).core) profile items (service_order items)) (sym (length-report items))
    (by_index (due_in profile (report items)) (length (operations_of items)) (inside_at (ends_at start items).core) (service_order items)
    (subst (λ κ. HasNoFault (length (operations_of items)) κ (inside_at (ends_at start items).core) (service_order items)) (λ i k x. due-report profile items run k x i) (order_of_run items run))))
