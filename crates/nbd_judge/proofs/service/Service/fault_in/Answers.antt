use Rattle.nbd_judge.proofs.{Common.{subst, served_atomically, IsBare, IsHeld, Parts, sizes_of}, orders.ServiceLemmas.{bare_here, covered_here}}
use Rattle.nbd_judge.proofs.service.Service.fault_in.Goals as goal

pub returns-in-Whole : goal.returns-in-Whole
returns-in-Whole c = λ span within entries k is_span. rw c.in-Whole.is (λ h lies x i. served_atomically within entries k x h)

pub returns-then-covers : goal.returns-then-covers
returns-then-covers c = λ span within entries k is_span. rw c.in-InParts.is (λ h lies x i.
    covered_here span within is_span entries k (sizes_of c.in-InParts.parts.value.spans) c.in-InParts.parts.value.left h.1 h.0 x (subst (λ (p : Parts). IsHeld (sizes_of p.spans) x) c.deref.ensures (c.if-covers.ensures x i)))

pub returns-else-covers : goal.returns-else-covers
returns-else-covers c = λ span within entries k is_span. rw c.in-InParts.is (λ h lies.
    let b = c.if-covers.ensures in
    ((b.0, b.1, bare_here span within is_span entries k (sizes_of c.in-InParts.parts.value.spans) c.in-InParts.parts.value.left h.1 b.0 (lies b.0 b.1) (subst (λ (p : Parts). IsBare (sizes_of p.spans) b.0) c.deref.ensures b.2)), h.0))
