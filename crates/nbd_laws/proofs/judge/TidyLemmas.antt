-- Where extended headers are not in force, the length of each request fits four bytes.
use Rattle.nbd_laws.proofs.{Common.{or_parts, ◌≡◌, ◌<◌, ◌^◌, false, Bool, arith, Message, Operation, complete, IsSendable, Core, IsReached, at_start, after_message}, judge.{WholeLemmas.allowed, PhaseLemmas.extended-requested}, requests.EachLemmas.{Each, each_complete, each_weaker}}
unfoldable use Rattle.nbd_laws.proofs.judge.WholeLemmas.{IsAllowed}

abbrev pub IsTidy : (extended : Bool) → Operation → Type 0
IsTidy extended e = extended ≡ false → e.length < 2 ^ 32

-- a message does not end extended headers
extended_before : (core : Core) (m : Message) → (complete core m).extended ≡ false → core.extended ≡ false
unfolding complete
extended_before core m q = grind (arith, or_parts, extended-requested)

pub tidy : {core : Core} → IsReached core → Each (IsTidy core.extended) core.entries
unfolding IsAllowed IsSendable
tidy at_start = tt
tidy (after_message {c = c} m r sn ok) =
    each_weaker (IsTidy c.extended) (IsTidy (complete c m).extended) (λ e t q. t (extended_before c m q)) (complete c m).entries
    (each_complete (IsTidy c.extended) c c.phase m (allowed c c.phase m ok) (tidy r) ((grind (arith, allowed c c.phase m ok))) (λ export k e p q is h t. t))
