use Rattle.nbd_export.proofs.{Common.{◌≡◌, ℕ, ◌<◌, IsSome, sym, ◌∙◌, subst, arith, kind_from}, KindLemmas.{apart_same, kind_before-same, set_apart, set_before, set_behind, set_inside, set_whole, set_within}}
use Rattle.nbd_export.proofs.kinds.Kinds.set.Goals as goal

pub invariant_of-self : goal.invariant_of-self
invariant_of-self c =
    let old = kind_from c.args.self.now.starts in
    let new = kind_from c.overlay.new.starts in
    let same : (x : ℕ) → new x ≡ old x = c.in_err-overlay.ensures.refused in
    record {
      fits = c.args.self.now.fits;
      whole = λ l. subst IsSome (sym (same 0)) (c.args.self.now.whole l);
      within = λ x l. same x ∙ c.args.self.now.within x l;
      apart = λ x. apart_same old new x (same x) (kind_before-same old new x (λ k l. same k)) (c.args.self.now.apart x);
    }

pub invariant_of-self-2 : goal.invariant_of-self-2
invariant_of-self-2 c =
    let self = c.args.self.now in
    let old = kind_from self.starts in
    let laid = kind_from c.overlay.new.starts in
    let joined = kind_from c.join.new.starts in
    let new = kind_from c.join-2.new.starts in
    let l : 0 < self.size = omega arith in
    record {
      fits = self.fits;
      whole = λ l. set_whole old laid joined new c.args.first c.args.end self.size c.args.kind c.in_ok-overlay.ensures.done (self.whole l) self.within self.apart c.requires.some c.requires.within c.join.ensures.done c.join-2.ensures.done;
      within = set_within old laid joined new c.args.first c.args.end self.size c.args.kind c.in_ok-overlay.ensures.done (self.whole l) self.within self.apart c.requires.some c.requires.within c.join.ensures.done c.join-2.ensures.done;
      apart = set_apart old laid joined new c.args.first c.args.end self.size c.args.kind c.in_ok-overlay.ensures.done (self.whole l) self.within self.apart c.requires.some c.requires.within c.join.ensures.done c.join-2.ensures.done;
    }

pub returns-clause-inside : goal.returns-clause-inside
returns-clause-inside c =
    let self = c.args.self.now in
    let old = kind_from self.starts in
    let laid = kind_from c.overlay.new.starts in
    let joined = kind_from c.join.new.starts in
    let new = kind_from c.join-2.new.starts in
    let l : 0 < self.size = omega arith in
    set_inside old laid joined new c.args.first c.args.end self.size c.args.kind c.in_ok-overlay.ensures.done (self.whole l) self.within self.apart c.requires.some c.requires.within c.join.ensures.done c.join-2.ensures.done

pub returns-clause-before : goal.returns-clause-before
returns-clause-before c =
    let self = c.args.self.now in
    let old = kind_from self.starts in
    let laid = kind_from c.overlay.new.starts in
    let joined = kind_from c.join.new.starts in
    let new = kind_from c.join-2.new.starts in
    let l : 0 < self.size = omega arith in
    set_before old laid joined new c.args.first c.args.end self.size c.args.kind c.in_ok-overlay.ensures.done (self.whole l) self.within self.apart c.requires.some c.requires.within c.join.ensures.done c.join-2.ensures.done

pub returns-clause-behind : goal.returns-clause-behind
returns-clause-behind c =
    let self = c.args.self.now in
    let old = kind_from self.starts in
    let laid = kind_from c.overlay.new.starts in
    let joined = kind_from c.join.new.starts in
    let new = kind_from c.join-2.new.starts in
    let l : 0 < self.size = omega arith in
    set_behind old laid joined new c.args.first c.args.end self.size c.args.kind c.in_ok-overlay.ensures.done (self.whole l) self.within self.apart c.requires.some c.requires.within c.join.ensures.done c.join-2.ensures.done
