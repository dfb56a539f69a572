use Rattle.nbd_session.proofs.{Common.{◌≡◌, ◌+◌, ◌<◌, length, Adds, SessionFault, Some, bytes_taken, pairs_of}, pushed.LogLemmas.to_go}
use Rattle.nbd_session.proofs.session.Session.push.Given as goal

-- all but what is left of the piece was taken
abbrev pub invariant-loop-self : goal.invariant-loop-self
invariant-loop-self l = record {
  adds : Adds (pairs_of l.fn.self) (pairs_of l.self) l.fn.self.messages l.self.messages l.fn.side l.fn.piece l.left;
  fits : bytes_taken l.self + length l.left < 9223372036854775808;
  side : l.side ≡ l.fn.side;
  profile : l.self.profile ≡ l.fn.self.profile;
  closed : (fault : SessionFault) → l.fn.self.closed ≡ Some fault → l.self ≡ l.fn.self;
}

abbrev pub decreases-loop-self : goal.decreases-loop-self
decreases-loop-self l = to_go l.self.closed (length l.left)
