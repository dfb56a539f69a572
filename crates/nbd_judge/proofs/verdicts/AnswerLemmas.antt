-- What a verdict on the report of a run says of the run's bytes.
use Rattle.nbd_judge.proofs.Common.{◌≡◌, ℕ, List, sym, ◌∙◌, ap, subst, Profile, Entry, Start, start_byte, Item, pairs, Report, report, IsRunOf, IsFaultless, Passes, answered_count, improper_count, request_count, ExplainedPasses, IsNoOf, PassingIsExplained, OrdersAreFaultless, SameReports, Yes, Wire, Image, Order, Content, Status, orders_are_faultless, same_reports, VerdictsAnswerRuns, IsOrderFault, OrderFault}
use Rattle.nbd_judge.proofs.verdicts.SingleLemmas.{fits_not, has_fault, has_wrong}
use Rattle.nbd_judge.specs.Conclusions.{IsUnserved}

-- where an order has a fault, no run with these bytes is served in it
fault_unserved : OrdersAreFaultless → SameReports → (profile : Profile) (items : List Item) (order : List Entry) (entry : ℕ) (fault : OrderFault) → IsRunOf profile items →
    IsOrderFault profile (report items) order entry fault → IsUnserved profile (pairs items) order
fault_unserved faultless same profile items order entry fault run is other run' bytes serves = has_fault profile (report items) order entry fault is
    (subst (λ (r : Report). IsFaultless profile r order) (same profile other items run' run bytes)
    (subst (λ (o : List Entry). IsFaultless profile (report other) o) serves (faultless profile other run')))

-- so an Order verdict is of an order that no run with the session's bytes is served in
pub order_unserved : (profile : Profile) (r : Report) (order : List Entry) (entry : ℕ) (fault : OrderFault) → IsOrderFault profile r order entry fault →
    (items : List Item) → IsRunOf profile items → report items ≡ r → IsUnserved profile (pairs items) order
order_unserved profile r order entry fault is items run of_run =
    fault_unserved orders_are_faultless same_reports profile items order entry fault run (subst (λ (q : Report). IsOrderFault profile q order entry fault) (sym of_run) is)

module _ (passing : PassingIsExplained) (only : ExplainedPasses) (faultless : OrdersAreFaultless) (same : SameReports) where
  -- a run that does not pass is not explained
  no_pass : (profile : Profile) (items : List Item) (order : List Entry) (initial : Start) → IsRunOf profile items → (Passes profile (report items) order initial → ⊥)
      → IsNoOf profile (pairs items) order initial
  no_pass profile items order initial run fails explained = fails (only profile items order initial run explained)

  counted : (profile : Profile) (f : Report → ℕ) (items : List Item) (n : ℕ) → IsRunOf profile items → n ≡ f (report items) → (other : List Item) → IsRunOf profile other
      → pairs other ≡ pairs items → f (report other) ≡ n
  counted profile f items n run is other run' e = ap f (same profile other items run' run e) ∙ sym is

  pub answers_runs : VerdictsAnswerRuns
  answers_runs profile items order initial (Yes a b c) run v = record {
    explained = passing profile items order initial run (record { faultless = v.1.0; fits_image = v.0; reads = v.1.1 });
    counts = λ other run' e. (
      counted profile request_count items a run v.1.2 other run' e,
      counted profile answered_count items b run v.1.3 other run' e,
      counted profile (improper_count profile) items c run v.1.4 other run' e,
    );
  }
  answers_runs profile items order initial (Order e p) run v = (
    no_pass profile items order initial run (λ passes. has_fault profile (report items) order e p v.1 passes.faultless),
    fault_unserved faultless same profile items order e p run v.1,
  )
  answers_runs profile items order initial (Content k x) run v =
      no_pass profile items order initial run (λ passes. has_wrong (report items) order (start_byte initial) k x v.1.1.0 passes.reads)
  answers_runs profile items order initial (Status k x) run v =
      no_pass profile items order initial run (λ passes. has_wrong (report items) order (start_byte initial) k x v.1.1.0 passes.reads)
  answers_runs profile items order initial (Image i s) run v = no_pass profile items order initial run (λ passes. fits_not (report items).export initial i s passes.fits_image v)
  answers_runs profile items order initial (Wire at fault) run v = absurd v
