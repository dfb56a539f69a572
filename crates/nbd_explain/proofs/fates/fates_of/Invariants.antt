use Rattle.nbd_explain.proofs.Common.{◌≡◌, ◌-◌, drop, length, AreReplies, fates_behind}
use Rattle.nbd_explain.proofs.fates.fates_of.Given as goal

abbrev pub invariant-loop-behind : goal.invariant-loop-behind
invariant-loop-behind l = record {
  fates : l.fates.items ≡ fates_behind (drop (length l.messages - l.behind) l.messages);
  replies : AreReplies (drop (length l.messages - l.behind) l.messages) l.replies;
}
