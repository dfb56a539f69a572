use Rattle.nbd_session.proofs.{Common.{◌≡◌, ◌∙◌, ◌+◌, ◌<◌, ap, arith, refl, sym, subst, length, None, Some, Adds, SessionView, bytes_taken, pairs_of}, judge.PieceLemmas.added_then, pushed.LogLemmas.{adds_fits, adds_nothing, comes_nearer}, steps.IncomingLemmas.none_of}
use Rattle.nbd_session.proofs.session.Session.push.Goals as goal

pub loop-self-init : goal.loop-self-init
loop-self-init c = record {
  adds = adds_nothing (pairs_of c.args.self.now) c.args.self.now.messages c.args.side c.args.piece.now;
  fits = c.requires;
  side = refl;
  profile = refl;
  closed = λ fault e. refl;
}

pub loop-self-smaller : goal.loop-self-smaller
loop-self-smaller c =
    comes_nearer c.loop-self.self.closed c.step-count.new.self.closed c.step-count.result c.loop-self.left.now c.split_at.result.1.now
    (sym c.closed.ensures.closed ∙ none_of c.closed.result c.if-is_none.ensures) c.step-count.ensures.within c.split_at.ensures.back c.step-count.ensures.some

pub loop-self-preserved : goal.loop-self-preserved
loop-self-preserved c =
    let more = subst (Adds (pairs_of c.loop-self.self) (pairs_of c.step-count.new.self) c.loop-self.self.messages c.step-count.new.self.messages c.args.side c.loop-self.left.now) (sym c.split_at.ensures.back) c.step-count.ensures.adds in
    let fits : bytes_taken c.step-count.new.self + length c.split_at.result.1.now < 9223372036854775808 = (let same = adds_fits more in let before = c.loop-self.invariant.fits in omega (arith, same, before)) in
    record {
      adds = added_then (pairs_of c.args.self.now) (pairs_of c.loop-self.self) (pairs_of c.step-count.new.self) c.args.self.now.messages c.loop-self.self.messages c.step-count.new.self.messages c.args.side c.args.piece.now c.loop-self.left.now c.split_at.result.1.now c.loop-self.invariant.adds more;
      fits = fits;
      side = refl;
      profile = c.step-count.ensures.profile ∙ c.loop-self.invariant.profile;
      closed = λ fault e.
          let none = sym c.closed.ensures.closed ∙ none_of c.closed.result c.if-is_none.ensures in
          let same = ap (λ (r : SessionView). r.closed) (c.loop-self.invariant.closed fault e) in
          absurd (let q : None ≡ Some fault = sym none ∙ same ∙ e in cc);
    }
