-- Lines were written that name the messages before a place.
use Rattle.nbd_explain.proofs.{Common.{◌≡◌, List, drop, Message, fates_behind}, FateLemmas.AppendsFront}
use Rattle.nbd_explain.proofs.listing.write_lines.Given as goal

abbrev pub invariant-loop-place : goal.invariant-loop-place
invariant-loop-place g l = (messages : List Message) → l.fates.items ≡ fates_behind messages
    → AppendsFront messages (drop l.place messages) (g.W.Write.contents l.initial.out) (g.W.Write.contents l.out)
