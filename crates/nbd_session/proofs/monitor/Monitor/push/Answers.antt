use Rattle.nbd_session.proofs.{Common.{eqb-true, no_length, Ok, Err, ◌≡◌, ◌∙◌, ◌+◌, ◌<◌, ap, arith, refl, sym, subst, [], length, None, Some, Adds, IsKept, Monitor, Past, past_of}, judge.PieceLemmas.{added_then, kept_taken, stands_open}, pushed.{FollowLemmas.pushed, LogLemmas.{adds_fits, adds_nothing, comes_nearer}}, steps.IncomingLemmas.none_of}
use Rattle.nbd_session.proofs.monitor.Monitor.push.Goals.{then-loop-self-test+else-is_none, else-loop-self-test}
use Rattle.nbd_session.proofs.monitor.Monitor.push.Goals as goal

pub loop-self-init : goal.loop-self-init
loop-self-init c = record {
  kept = λ past k. (past, k, adds_nothing past.pairs past.messages c.args.side c.args.piece.now);
  fits = c.requires.fits;
  side = refl;
  profile = refl;
  closed = λ fault e. refl;
}

pub pass-count-requires-clause-stands : goal.pass-count-requires-clause-stands
pass-count-requires-clause-stands c =
    let now = c.loop-self.invariant.kept (past_of c.requires.follows.0) c.requires.follows.1.kept in
    (now.0, stands_open c.loop-self.self now.0 now.1 (none_of c.loop-self.self.closed c.if-is_none.ensures))

pub loop-self-smaller : goal.loop-self-smaller
loop-self-smaller c =
    comes_nearer c.loop-self.self.closed c.pass-count.new.self.closed c.pass-count.result c.loop-self.left.now c.split_at.result.1.now
    (none_of c.loop-self.self.closed c.if-is_none.ensures) c.pass-count.ensures.within c.split_at.ensures.back c.pass-count.ensures.some

pub loop-self-preserved : goal.loop-self-preserved
loop-self-preserved c =
    let unclosed = none_of c.loop-self.self.closed c.if-is_none.ensures in
    let back = c.split_at.ensures.back in
    let kept : (past : Past) → IsKept c.args.self.now past → (next : Past) × IsKept c.pass-count.new.self next × Adds past.pairs next.pairs past.messages next.messages c.args.side c.args.piece.now c.split_at.result.1.now =
    (λ past k.
    let now = c.loop-self.invariant.kept past k in
    let next = c.pass-count.ensures.adds now.0 (stands_open c.loop-self.self now.0 now.1 unclosed) in (
      next.0,
      next.1,
      added_then past.pairs now.0.pairs next.0.pairs past.messages now.0.messages next.0.messages c.args.side c.args.piece.now c.loop-self.left.now c.split_at.result.1.now now.2
          (subst (Adds now.0.pairs next.0.pairs now.0.messages next.0.messages c.args.side c.loop-self.left.now) (sym back) next.2),
    )) in
    let first = past_of c.requires.follows.0 in
    let last = kept first c.requires.follows.1.kept in
    let fits : c.pass-count.new.self.taken + length c.split_at.result.1.now < 9223372036854775808 = (
    let many = adds_fits last.2 in
    let before = kept_taken c.args.self.now first c.requires.follows.1.kept in
    let after = kept_taken c.pass-count.new.self last.0 last.1 in
    let all = c.requires.fits in
    omega (arith, many, before, after, all)) in
    record {
      kept = kept;
      fits = fits;
      side = refl;
      profile = c.pass-count.ensures.profile ∙ c.loop-self.invariant.profile;
      closed = λ fault e.
          let same = ap (λ (h : Monitor). h.closed) (c.loop-self.invariant.closed fault e) in
          absurd (let q : None ≡ Some fault = sym unclosed ∙ same ∙ e in cc);
    }

pub returns-in-Some : goal.returns-in-Some
returns-in-Some c = λ r f.
    let last = c.loop-self.invariant.kept (past_of r) f.kept in
    pushed c.args.self.now c.loop-self.self r c.args.side c.args.piece.now c.loop-self.left.now last.0 (Err c.in-Some.fault) f last.1 last.2 c.loop-self.invariant.profile c.loop-self.invariant.closed (sym c.in-Some.is)
    (λ none. absurd (let q : None ≡ Some c.in-Some.fault = sym none ∙ c.in-Some.is in cc))

pub returns-in-None : goal.returns-in-None
returns-in-None c = λ r f.
    let last = c.loop-self.invariant.kept (past_of r) f.kept in
    let all : c.loop-self.left.now ≡ [] = (elim c.loop-self-test.branch [
      | then-loop-self-test+else-is_none w ↦ grind arith
      | else-loop-self-test w ↦ grind (arith, no_length, eqb-true)
    ]) in
    pushed c.args.self.now c.loop-self.self r c.args.side c.args.piece.now c.loop-self.left.now last.0 (Ok tt) f last.1 last.2 c.loop-self.invariant.profile c.loop-self.invariant.closed (sym c.in-None.is) (λ none. all)
