use Rattle.std.proofs.Common.{◌≡◌, ◌++◌}
use Rattle.std.specs.Vec.Iter.{into_iter_items}
use Rattle.nbd_explain.proofs.Common.{Appends, message_lines}
use Rattle.nbd_explain.proofs.show.write_messages.Given as goal

abbrev pub invariant-loop-message : goal.invariant-loop-message
invariant-loop-message g l =
    (goal.iterator-loop-message g).can_next l.message-iterator
    × (goal.iterator-loop-message g).is_finite l.message-iterator
    × (l.yielded ++ into_iter_items l.message-iterator ≡ l.fn.messages.items)
    × Appends (g.W.Write.contents l.initial.out) (g.W.Write.contents l.out) (message_lines l.yielded)
