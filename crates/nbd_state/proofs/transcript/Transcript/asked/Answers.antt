use Rattle.nbd_state.proofs.{Common.{◌∙◌, ap, arith, asked_at, length, sym, Report}, TranscriptLemmas.told_at}
use Rattle.nbd_state.proofs.transcript.Transcript.asked.Goals as goal

pub returns : goal.returns
returns c =
    let view = c.self.view_is in
    let size = c.count.ensures.count ∙ sym (ap (λ (r : Report). length r.asked) view) in
    told_at c.self.inside.exchanges.items c.args.k c.index.result.now c.if-k-eq0.false (omega (arith, size, c.if-k-count.false)) c.index.ensures ∙ ap (λ (r : Report). asked_at c.args.k r.asked) view
