-- A capture is explained exactly where a run with its bytes passes the tests.
use Rattle.nbd_laws.proofs.Common.{◌≡◌, ℕ, List, sym, ◌∙◌, ap, subst, Profile, Entry, IsExplainedOf, FitsImage, HasNoWrongByte, Start, Item, pairs, service_order, Pair, Report, report, IsRunOf, IsFaultless, Passes, answered_count, improper_count, request_count, ExplainedPasses, HasCountsOf, IsNoOf, PassingIsExplained}
use Rattle.nbd_laws.proofs.service.{MomentLemmas.{latest_moments, orders_are_faultless}, ServiceLemmas.same_reports}

pub passing_is_explained : PassingIsExplained
passing_is_explained profile items order initial run p =
    let l : (items' : List Item) × IsRunOf profile items' × (pairs items' ≡ pairs items) × (service_order items' ≡ order) = latest_moments profile items order run p.faultless in
    let same : report items ≡ report l.0 = same_reports profile items l.0 run l.1 (sym l.2) in
    record {
      items = l.0;
      is_run = l.1;
      has_pairs = l.2;
      has_order = l.3;
      fits_image = subst (λ (r : Report). FitsImage r.export initial) same p.fits_image;
      reads = subst (λ r. HasNoWrongByte r order initial) same p.reads;
    }

pub explained_passes : ExplainedPasses
explained_passes profile items order initial run x =
    let same : report x.items ≡ report items = same_reports profile x.items items x.is_run run x.has_pairs in
    record {
      faultless = subst (λ r. IsFaultless profile r order) same (subst (IsFaultless profile (report x.items)) x.has_order (orders_are_faultless profile x.items x.is_run));
      fits_image = subst (λ (r : Report). FitsImage r.export initial) same x.fits_image;
      reads = subst (λ r. HasNoWrongByte r order initial) same x.reads;
    }

pub counts_of : {profile : Profile} (items : List Item) (capture : List Pair) (r a i : ℕ) → IsRunOf profile items → pairs items ≡ capture → request_count (report items) ≡ r → answered_count (report items) ≡ a → improper_count profile (report items) ≡ i → HasCountsOf profile capture r a i
counts_of {profile} items capture r a i run e er ea ei items' run' e' =
    (ap request_count (same items' run' e') ∙ er, ap answered_count (same items' run' e') ∙ ea, ap (improper_count profile) (same items' run' e') ∙ ei)
  where
    same : (items' : List Item) → IsRunOf profile items' → pairs items' ≡ capture → report items' ≡ report items
    same items' run' e' = same_reports profile items' items run' run (e' ∙ sym e)

-- a test that a run with these bytes does not pass
pub failing_is_no : {profile : Profile} (items : List Item) (capture : List Pair) (order : List Entry) (initial : Start) → IsRunOf profile items → pairs items ≡ capture → (Passes profile (report items) order initial → ⊥) → IsNoOf profile capture order initial
failing_is_no {profile} items capture order initial run e no_pass x =
    no_pass (explained_passes profile items order initial run (subst (λ c. IsExplainedOf profile c order initial) (sym e) x))
