use Rattle.nbd_export.proofs.{Common.{◌≡◌, ℕ, ◌<◌, None, IsSome, sym, ◌∙◌, subst, ap, refl, arith, is_at, lookup, kind_from}, KindLemmas.{none_apart, one_apart, one_kind, other_key}, kinds.Kinds.new.Goals.{then-size-gt0+in_ok-insert, else-size-gt0}}
use Rattle.std.specs.Ordering.{nat_cmp}
use Rattle.nbd_export.proofs.kinds.Kinds.new.Goals as goal

pub invariant_of-result : goal.invariant_of-result
invariant_of-result c =
    let empty : (x : ℕ) → kind_from c.new-starts.result x ≡ None = λ x. ap (lookup (is_at (nat_cmp x))) c.new-starts.ensures.empty in
    elim c.if-size-gt0.branch [
      | then-size-gt0+in_ok-insert w ↦
          (let none : (x : ℕ) → 0 < x → kind_from w.insert.new.self x ≡ None = λ x l. w.in_ok-insert.ensures.updates.2 x (other_key 0 x (λ e. omega arith)) ∙ empty x in
          rw w.starts-is (record {
            fits = omega arith;
            whole = λ l. subst IsSome (sym w.in_ok-insert.ensures.updates.1) refl;
            within = λ x l. none x (omega arith);
            apart = one_apart (kind_from w.insert.new.self) none;
          }))
      | else-size-gt0 w ↦ rw w.starts-is (record {
        fits = omega arith;
        whole = λ l. absurd (omega arith);
        within = λ x l. empty x;
        apart = λ x. none_apart (kind_from c.new-starts.result) x (empty x);
      })
    ]

pub returns-clause-kinds : goal.returns-clause-kinds
returns-clause-kinds c = λ x l.
    let empty : (x : ℕ) → kind_from c.new-starts.result x ≡ None = λ x. ap (lookup (is_at (nat_cmp x))) c.new-starts.ensures.empty in
    elim c.if-size-gt0.branch [
      | then-size-gt0+in_ok-insert w ↦
          (let none : (x : ℕ) → 0 < x → kind_from w.insert.new.self x ≡ None = λ x l. w.in_ok-insert.ensures.updates.2 x (other_key 0 x (λ e. omega arith)) ∙ empty x in
          rw w.starts-is (one_kind (kind_from w.insert.new.self) none c.args.kind w.in_ok-insert.ensures.updates.1 x))
      | else-size-gt0 w ↦ absurd (omega arith)
    ]
