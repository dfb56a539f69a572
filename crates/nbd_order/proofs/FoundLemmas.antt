-- What is found of a report, and of the runs with that report.
use Rattle.nbd_order.proofs.Common.{◌≡◌, ℕ, zero, suc, List, [], ◌∷◌, refl, sym, subst, None, All-append, All-cons, All-nil, Profile, Entry, whole, Start, Item, Report, report, IsRunOf, Passes, answered_count, improper_count, request_count, ExplainedPasses, PassingIsExplained, OneVerdict, IsVerdict, Verdict, Yes, Found, GaveUp, NoneWhole, Order, Unexplained, Wanted, Any, Whole, AreWhole, FoundIsSo, IsFound, IsWantedOrder, Says, arrival, RefutedIsUnexplained}
use Rattle.nbd_judge.proofs.verdicts.SingleLemmas.{fits_not}
use Rattle.nbd_order.specs.declared.finding.Found.TheVariants.{Image as FoundImage}

pub found_is_so : PassingIsExplained → ExplainedPasses → RefutedIsUnexplained → FoundIsSo
found_is_so passing only refuted profile items initial (Order order) is_run found = passing profile items order.items initial is_run found
found_is_so passing only refuted profile items initial (Unexplained refutation) is_run found = refuted profile items initial refutation.offset refutation.reads.items is_run found
found_is_so passing only refuted profile items initial (FoundImage image size) is_run found = λ order explained.
    fits_not (report items).export initial image size (only profile items order initial is_run explained).fits_image found
found_is_so passing only refuted profile items initial NoneWhole is_run found = λ explained.
    found (only profile items (arrival (request_count (report items))) initial is_run explained)
found_is_so passing only refuted profile items initial (GaveUp request offset reason) is_run found = λ explained.
    found (only profile items (arrival (request_count (report items))) initial is_run explained)

pub passes : (profile : Profile) (r : Report) (order : List Entry) (initial : Start) (a b c : ℕ) → IsVerdict profile r order initial (Yes a b c) → Passes profile r order initial
passes profile r order initial a b c v = record { faultless = v.1.0; fits_image = v.0; reads = v.1.1 }

judged_yes : (profile : Profile) (r : Report) (order : List Entry) (initial : Start) → Passes profile r order initial → IsVerdict profile r order initial (Yes (request_count r) (answered_count r) (improper_count profile r))
judged_yes profile r order initial p = (p.fits_image, (p.faultless, p.reads, refl, refl, refl))

pub does_not_pass : OneVerdict → (profile : Profile) (r : Report) (order : List Entry) (initial : Start) (v : Verdict) → IsVerdict profile r order initial v → ((a b c : ℕ) → v ≡ Yes a b c → ⊥) → Passes profile r order initial → ⊥
does_not_pass one profile r order initial v h other p =
    other (request_count r) (answered_count r) (improper_count profile r)
    (one profile r order initial v (Yes (request_count r) (answered_count r) (improper_count profile r)) h (judged_yes profile r order initial p))

-- what is found of a report is so of the bytes of each run with it
pub says_of : FoundIsSo → (profile : Profile) (r : Report) (initial : Start) (found : Found) → IsFound profile r initial found → (items : List Item) → IsRunOf profile items → report items ≡ r
    → Says profile items initial found
says_of law profile r initial found f items is_run same = law profile items initial found is_run (subst (λ q. IsFound profile q initial found) (sym same) f)

-- an order of whole requests is wanted, whatever is
pub whole_wanted : (wanted : Wanted) (order : List Entry) → AreWhole order → IsWantedOrder wanted order
whole_wanted Whole order are = are
whole_wanted Any order are = tt

-- each entry of the order of arrival is whole
pub arrival_whole : (n : ℕ) → AreWhole (arrival n)
arrival_whole zero = All-nil (λ (e : Entry). e.part ≡ None)
arrival_whole (suc n) = All-append (λ (e : Entry). e.part ≡ None) (arrival n) (whole (suc n) ∷ []) (arrival_whole n)
    (All-cons (λ (e : Entry). e.part ≡ None) (whole (suc n)) [] refl (All-nil (λ (e : Entry). e.part ≡ None)))
