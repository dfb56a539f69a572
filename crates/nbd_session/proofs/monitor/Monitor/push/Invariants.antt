use Rattle.nbd_session.proofs.{Common.{◌≡◌, ◌+◌, ◌<◌, length, Adds, IsKept, Past, SessionFault, Some}, pushed.LogLemmas.to_go}
use Rattle.nbd_session.proofs.monitor.Monitor.push.Given as goal

-- all but what is left of the piece was taken
abbrev pub invariant-loop-self : goal.invariant-loop-self
invariant-loop-self l = record {
  kept : (past : Past) → IsKept l.fn.self past → (next : Past) × IsKept l.self next × Adds past.pairs next.pairs past.messages next.messages l.fn.side l.fn.piece l.left;
  fits : l.self.taken + length l.left < 9223372036854775808;
  side : l.side ≡ l.fn.side;
  profile : l.self.state.profile ≡ l.fn.self.state.profile;
  closed : (fault : SessionFault) → l.fn.self.closed ≡ Some fault → l.self ≡ l.fn.self;
}

abbrev pub decreases-loop-self : goal.decreases-loop-self
decreases-loop-self l = to_go l.self.closed (length l.left)
