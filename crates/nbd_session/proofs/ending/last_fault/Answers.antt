use Rattle.nbd_session.proofs.{Common.{◌∙◌, ap, sym, subst, Expected, StandsIn, last_fault_by}, expecting.EndLemmas.{chunk_end, simple_end}}
use Rattle.nbd_session.proofs.ending.last_fault.Goals as goal

pub returns-in-Simple : goal.returns-in-Simple
returns-in-Simple c = λ core s.
    let l = subst (λ (x : Expected). StandsIn c.args.state.now x) c.in-Simple.is c.requires in
    simple_end c.args.state.now core c.in-Simple.place s l c.index.result.now c.index.ensures c.in-Simple.head c.in-Simple.length c.args.payload.now c.success_fault.result c.success_fault.ensures
    ∙ ap (λ (x : Expected). last_fault_by core.phase core x c.args.payload.now) (sym c.in-Simple.is)

pub returns-in-Chunk : goal.returns-in-Chunk
returns-in-Chunk c = λ core s.
    let l = subst (λ (x : Expected). StandsIn c.args.state.now x) c.in-Chunk.is c.requires in
    chunk_end c.args.state.now core c.in-Chunk.place s l.0 c.index-exchange.result.now c.index-exchange.ensures c.in-Chunk.head l.1 c.args.payload.now c.chunk_fault.result
    (λ export e contexts h u. c.chunk_fault.ensures core export e s contexts h u)
    ∙ ap (λ (x : Expected). last_fault_by core.phase core x c.args.payload.now) (sym c.in-Chunk.is)
