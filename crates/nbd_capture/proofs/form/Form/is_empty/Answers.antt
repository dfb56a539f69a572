use Rattle.nbd_capture.proofs.{Common.{true≢false, sym}, SpellLemmas.filled}
use Rattle.nbd_capture.proofs.form.Form.is_empty.Goals as goal

pub returns-in_default : goal.returns-in_default
returns-in_default c = λ bytes line h. (λ wrong. absurd (true≢false (sym wrong)), λ none. absurd (filled c.args.self bytes line h c.in_default.not-Empty none))
