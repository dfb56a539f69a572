use Rattle.nbd_wire.proofs.{Common.{◌∷◌, ◌∙◌, arith, sym, ids_of}, ListedReadLemmas.cut_behind, FilterLemmas.{ids-first, ids-none}}
use Rattle.nbd_wire.proofs.filters.first_id.Goals as goal

pub returns-then-ids-lt-ID_LENGTH : goal.returns-then-ids-lt-ID_LENGTH
returns-then-ids-lt-ID_LENGTH c = ids-none c.args.ids.now (omega (arith, c.if-ids-lt-ID_LENGTH.true))

pub returns : goal.returns
returns c =
    let bytes = c.args.ids.now in
    ids-first bytes (omega (arith, c.if-ids-lt-ID_LENGTH.false))
    ∙ (λ i. sym c.u32_at.ensures i ∷ ids_of (sym (cut_behind 4 bytes) i))
