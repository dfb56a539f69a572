use Rattle.nbd_order.proofs.{Common.{subst, sym, ◌∙◌, ap, initial_of, one_verdict, Passes, AreWhole, arrival, Order}, FoundLemmas.{arrival_whole, does_not_pass, passes, says_of, whole_wanted}}
use Rattle.nbd_order.specs.declared.finding.Found.TheVariants.{Image}
use Rattle.nbd_order.proofs.finding.find.Goals as goal

pub searched-requires : goal.searched-requires
searched-requires c =
    let r = c.args.transcript.now in
    let s = initial_of c.args.start.now in
    subst (λ os. Passes c.args.profile r os s → ⊥) (c.deref.ensures.value ∙ c.in_ok-arrival.ensures ∙ ap arrival c.count.ensures.count)
    (does_not_pass one_verdict c.args.profile r c.deref.result.now s c.in_ok-verdict.verdict c.in_ok-verdict.ensures c.in_default.not-Yes)

pub returns-in-Yes-clause-found : goal.returns-in-Yes-clause-found
returns-in-Yes-clause-found c =
    let r = c.args.transcript.now in
    let s = initial_of c.args.start.now in
    subst (λ os. Passes c.args.profile r os s) c.deref.ensures.value
    (passes c.args.profile r c.deref.result.now s c.in-Yes.requests c.in-Yes.answered c.in-Yes.improper (rw c.in-Yes.is at c.in_ok-verdict.ensures))

pub returns-in-Yes-clause-wanted : goal.returns-in-Yes-clause-wanted
returns-in-Yes-clause-wanted c =
    whole_wanted c.args.scope.wanted c.in_ok-arrival.arrival.items (subst AreWhole (sym c.in_ok-arrival.ensures) (arrival_whole c.count.result))

pub returns-in-Yes-clause-says : goal.returns-in-Yes-clause-says
returns-in-Yes-clause-says c =
    let r = c.args.transcript.now in
    let s = initial_of c.args.start.now in
    says_of c.found_is_so.ensures c.args.profile r s (Order c.in_ok-arrival.arrival) (subst (λ os. Passes c.args.profile r os s) c.deref.ensures.value
    (passes c.args.profile r c.deref.result.now s c.in-Yes.requests c.in-Yes.answered c.in-Yes.improper (rw c.in-Yes.is at c.in_ok-verdict.ensures)))

pub returns-in-Image-clause-says : goal.returns-in-Image-clause-says
returns-in-Image-clause-says c = says_of c.found_is_so.ensures c.args.profile c.args.transcript.now (initial_of c.args.start.now) (Image c.in-Image.image c.in-Image.size)
    (rw c.in-Image.is at c.in_ok-verdict.ensures)
