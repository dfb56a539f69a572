use Rattle.nbd_lines.proofs.{Common.{◌≡◌, ◌∷◌, ◌++◌, ◌+◌, err_from_is_err_and, line_feed, IsUnbroken, advance, done, cut_off, one_reading, Line, IsScriptLine, said_by}, ScriptLineLemmas.{one_saying, only_memory, stopped_script}}
use Rattle.nbd_lines.proofs.script.parse_script.Goals as goal

pub returns-in_err-line-clause-fault : goal.returns-in_err-line-clause-fault
returns-in_err-line-clause-fault c =
    let p = err_from_is_err_and c.from_residual.result c.from_residual.ensures.1 in
    let unbroken : IsUnbroken c.loop-rest.rest.now = rw c.in_err-line.ensures.ok_part at c.first_line.ensures in
    let fault : c.in_err-line.field-0.0 ≡ Line (c.loop-rest.number + 1) = cc (rw c.in_err-line.ensures.ok_part at c.in_err-line.ensures.value) in
    let bad = cut_off IsScriptLine c.args.text.now c.loop-rest.rest.now c.loop-rest.messages.items c.loop-rest.number c.loop-rest.invariant c.loop-rest-test.ensures unbroken in
    rw (p.1, p.2, fault) bad

pub returns-in_err-message-clause-fault : goal.returns-in_err-message-clause-fault
returns-in_err-message-clause-fault c =
    let p = err_from_is_err_and c.from_residual-in_err-message.result c.from_residual-in_err-message.ensures.1 in
    let parts : IsUnbroken c.in_ok-line.line.now × (c.loop-rest.rest.now ≡ c.in_ok-line.line.now ++ line_feed ∷ c.in_ok-line.after.now) = rw c.in_ok-line.ensures.ok_part at c.first_line.ensures in
    rw (p.1, p.2) (stopped_script c.args.text.now c.loop-rest.rest.now c.in_ok-line.line.now c.in_ok-line.after.now c.loop-rest.messages.items c.loop-rest.number c.in_err-message.field-0.0 c.loop-rest.invariant parts.0 parts.1 c.in_err-message.ensures.fault)

pub returns-clause-messages : goal.returns-clause-messages
returns-clause-messages c =
    done IsScriptLine c.args.text.now c.loop-rest.rest.now c.loop-rest.messages.items c.loop-rest.number c.loop-rest.invariant c.loop-rest-test.ensures

pub loop-rest-preserved : goal.loop-rest-preserved
loop-rest-preserved c =
    let parts : IsUnbroken c.in_ok-line.line.now × (c.loop-rest.rest.now ≡ c.in_ok-line.line.now ++ line_feed ∷ c.in_ok-line.after.now) = rw c.in_ok-line.ensures.ok_part at c.first_line.ensures in
    let next = advance IsScriptLine c.args.text.now c.loop-rest.rest.now c.in_ok-line.line.now c.in_ok-line.after.now c.loop-rest.messages.items (said_by c.in_ok-message.message) c.loop-rest.number c.loop-rest.invariant parts.0 parts.1 c.in_ok-message.ensures.said in
    rw c.in_ok-push_if.ensures.pushed next

pub returns-in_err-line-clause-only : goal.returns-in_err-line-clause-only
returns-in_err-line-clause-only c =
    only_memory c.args.text.now c.from_residual.result _ c.from_residual.ensures.0 (returns-in_err-line-clause-fault c)

pub returns-in_err-message-clause-only : goal.returns-in_err-message-clause-only
returns-in_err-message-clause-only c =
    only_memory c.args.text.now c.from_residual-in_err-message.result _ c.from_residual-in_err-message.ensures.0 (returns-in_err-message-clause-fault c)

pub returns-clause-only : goal.returns-clause-only
returns-clause-only c = λ messages read.
    one_reading IsScriptLine one_saying c.args.text.now c.loop-rest.messages.items messages (returns-clause-messages c) read
