use Rattle.nbd_session.proofs.{Common.{sym, ◌∙◌, inl, inr, Client, Server, open_end_fault}, steps.TakenLemmas.{none_on, open_at}, monitor.Monitor.open_end.Goals.{else-is_empty-via-then-is_empty+else-is_empty-2, else-is_empty-via-else-is_empty}}
use Rattle.nbd_session.proofs.monitor.Monitor.open_end.Goals as goal

pub returns-then-is_empty-2 : goal.returns-then-is_empty-2
returns-then-is_empty-2 c =
    let held = c.args.self.now in
    let client = none_on held c.requires.0 Client c.is_empty.result c.requires.1 c.is_empty.ensures c.if-is_empty.true in
    let server = none_on held c.requires.0 Server c.is_empty-then-is_empty.result c.requires.1 c.is_empty-then-is_empty.ensures c.if-is_empty-2.true in
    sym (λ i. open_end_fault (client i) (server i) held.taken)

pub returns : goal.returns
returns c =
    let held = c.args.self.now in
    open_at held.client held.server held.taken (elim c.else-is_empty.branch [
      | else-is_empty-via-then-is_empty+else-is_empty-2 w ↦ inr (sym w.is_empty-then-is_empty.ensures ∙ w.if-is_empty-2.false)
      | else-is_empty-via-else-is_empty w ↦ inl (sym c.is_empty.ensures ∙ w.if-is_empty.false)
    ])
