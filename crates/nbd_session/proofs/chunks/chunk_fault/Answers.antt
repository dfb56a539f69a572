use Rattle.nbd_session.proofs.{Common.{arith, ◌∙◌, sym}, judge.ChunkFaultLemmas.{elsewhere_last, fault_first}}
use Rattle.nbd_session.proofs.chunks.chunk_fault.Goals as goal

pub returns-in-Some : goal.returns-in-Some
returns-in-Some c = λ core export e s contexts h u.
    let head = c.args.head.now in
    sym (fault_first head.at core.profile export e head.flags head.kind head.cookie c.args.payload.now c.in-Some.fault (sym (c.payload_fault.ensures core export e s contexts h u) ∙ c.in-Some.is))

pub returns-in-None : goal.returns-in-None
returns-in-None c = grind (arith, elsewhere_last)
