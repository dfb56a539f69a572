use Rattle.nbd_capture.proofs.{Common.{◌∙◌, sym, IsNumber}, ContentsLineLemmas.{no_second, piece_words, word_of}, contents_line.value_at.Goals.{in_default-via-in-Some-Some+else-from-at, in_default-via-in-Some+in_default, in_default-via-in_default}}
use Rattle.nbd_capture.proofs.contents_line.value_at.Goals as goal

pub returns-in_err-offset : goal.returns-in_err-offset
returns-in_err-offset c =
    rw c.from_residual-in_err-offset.ensures (no_second c.args.line.now c.in_ok-first.first.now c.in_ok-first.rest.now c.args.at c.in_ok-first.ensures.0 c.in_ok-first.ensures.1 c.in_err-offset.ensures)

pub returns-in_default : goal.returns-in_default
returns-in_default c = λ p o v n e.
    let parts = piece_words c.args.line.now c.in_ok-first.first.now c.in_ok-first.rest.now c.in_ok-offset.offset.now c.in_ok-offset.value.now c.args.at
    c.in_ok-first.ensures.0 c.in_ok-first.ensures.1 c.in_ok-offset.ensures.0 c.in_ok-offset.ensures.1 p o v n e in
    let w = word_of p in
    elim c.in_default.branch [
      | in_default-via-in-Some-Some+else-from-at b ↦ (let number : IsNumber c.in_ok-offset.offset.now b.in-Some-Some.from = b.in-Some-Some.ensures' in
          b.if-from-at.false (number.3 ∙ sym parts.1.3))
      | in_default-via-in-Some+in_default b ↦ b.in_default.ensures' c.args.at parts.1
      | in_default-via-in_default b ↦ (let none = rw b.in_default.is-0 at c.word_on.ensures in none w.0 (parts.0 ∙ w.1))
    ]
