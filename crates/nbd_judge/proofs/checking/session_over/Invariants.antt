use Rattle.nbd_judge.proofs.Common.{◌≡◌, None, take, flat, pairs_of, records_of}
use Rattle.nbd_judge.proofs.checking.session_over.Given as goal

abbrev pub invariant-loop-side : goal.invariant-loop-side
invariant-loop-side l = record {
  unclosed : l.session.closed ≡ None;
  profile : l.session.profile ≡ l.fn.profile;
  took : pairs_of l.session ≡ flat (records_of (take l.side-index l.chunks));
}
