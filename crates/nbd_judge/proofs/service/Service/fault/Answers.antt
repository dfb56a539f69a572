use Rattle.nbd_judge.proofs.{Common.{◌∙◌, ap, sym, served_atomically, Parts, sizes_of}, orders.ServiceLemmas.{full, not_full}}
use Rattle.nbd_judge.proofs.service.Service.fault.Goals as goal

pub returns-in-Whole : goal.returns-in-Whole
returns-in-Whole c = λ span within entries k is_span. rw c.in-Whole.is (λ h x u. served_atomically within entries k x h)

pub returns-then-left-eq0 : goal.returns-then-left-eq0
returns-then-left-eq0 c = λ span within entries k is_span. rw c.in-InParts.is (λ h x u.
    full span within is_span entries k (sizes_of c.in-InParts.parts.value.spans) c.in-InParts.parts.value.left h.1 h.0 (ap (λ (p : Parts). p.left) (sym c.deref.ensures) ∙ c.if-left-eq0.true) x)

pub returns-else-left-eq0 : goal.returns-else-left-eq0
returns-else-left-eq0 c = λ span within entries k is_span. rw c.in-InParts.is (λ h.
    let n = not_full span within is_span entries k (sizes_of c.in-InParts.parts.value.spans) c.in-InParts.parts.value.left h.1 (λ e. c.if-left-eq0.false (ap (λ (p : Parts). p.left) c.deref.ensures ∙ e)) in
    ((n.0, tt, n.1), h.0))
