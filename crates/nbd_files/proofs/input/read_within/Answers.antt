use Rattle.nbd_files.proofs.{Common.{◌≡◌, ◌∙◌, Ok, sym, arith, ap, Longer, Whole}, InputLemmas.{all_counted, all_kept}, input.read_within.Goals.{then-count-room, else-count-room}}
use Rattle.nbd_files.proofs.input.read_within.Goals as goal

pub returns-clause-read : goal.returns-clause-read
returns-clause-read g c = elim c.if-count-room.branch [
  | then-count-room w ↦ all_kept (g.R.Read.remaining c.args.reader.now) c.in_ok-count.count c.args.room c.read_into.new.text c.if-count-room.result c.in_ok-count.ensures.read w.if-count-room.true w.result-is
  | else-count-room w ↦ all_counted (g.R.Read.remaining c.args.reader.now) c.in_ok-count.count c.args.room _ c.if-count-room.result c.in_ok-count.ensures.read (omega (arith, w.if-count-room.false)) w.result-is
]

pub returns-clause-longer : goal.returns-clause-longer
returns-clause-longer g c = λ n e. elim c.if-count-room.branch [
  | then-count-room w ↦ absurd (let q : Ok (Whole c.read_into.new.text) ≡ Ok (Longer n) = ap Ok (sym w.result-is) ∙ e in cc)
  | else-count-room w ↦ (let q : Ok (Longer c.in_ok-count.count) ≡ Ok (Longer n) = ap Ok (sym w.result-is) ∙ e in let s : c.in_ok-count.count ≡ n = cc in (omega (arith, w.if-count-room.false), omega (arith, c.in_ok-count.ensures.few)))
]
