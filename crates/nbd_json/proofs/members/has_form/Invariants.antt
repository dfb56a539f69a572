use denote.Text.{Utf8}
use denote.Shadow.{shadow}
use Rattle.nbd_json.proofs.members.has_form.Given as goal

-- says that each `&str` the loop changes is text: keep it, and add clauses with ×
abbrev pub invariant-loop-part : goal.invariant-loop-part
invariant-loop-part l = shadow (Utf8 l.rest)
