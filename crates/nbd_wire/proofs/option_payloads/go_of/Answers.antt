use Rattle.nbd_wire.proofs.{Common.{arith, None, Some, refl, sym, ◌∙◌, ap, ◌+◌, ◌*◌, ℕ, List, subst, ReadsAs}, NumberLemmas.AreBytes-from_places, ListedReadLemmas.{Go, go-no_name, go-no_rest, go-reads, go-tells}}
use Rattle.nbd_wire.proofs.option_payloads.go_of.Goals as goal

pub returns-in_err-name-clause-form : goal.returns-in_err-name-clause-form
returns-in_err-name-clause-form c =
    subst (λ answer. ReadsAs (λ v. (v.0.now, v.1)) answer (Go c.args.bytes.now)) (sym c.from_residual.ensures) (go-no_name _ c.in_err-name.ensures.form)

pub returns-then-rest-lt2-clause-form : goal.returns-then-rest-lt2-clause-form
returns-then-rest-lt2-clause-form c =
    let name = c.in_ok-name.name.now in
    let rest = c.in_ok-name.rest.now in
    go-no_rest name rest _ ((c.in_ok-name.ensures.form (name, rest)).0 refl) (λ e. omega arith)

pub returns-then-rest-from-clause-form : goal.returns-then-rest-from-clause-form
returns-then-rest-from-clause-form c =
    let name = c.in_ok-name.name.now in
    let rest = c.in_ok-name.rest.now in
    go-no_rest name rest _ ((c.in_ok-name.ensures.form (name, rest)).0 refl)
    (λ e. c.if-rest-from.true (e ∙ ap (λ (k : ℕ). 2 + 2 * k) (sym (c.from.ensures ∙ c.u16_at-count.ensures))))

pub returns-clause-form : goal.returns-clause-form
returns-clause-form c =
    let bytes = c.args.bytes.now in
    let name = c.in_ok-name.name.now in
    let rest = c.in_ok-name.rest.now in
    go-reads name rest bytes _ (AreBytes-from_places bytes (λ i. omega (arith, c.type_inv.bytes i)))
    ((c.in_ok-name.ensures.form (name, rest)).0 refl) c.u16_at-count.ensures
    (c.if-rest-from.false ∙ ap (λ (k : ℕ). 2 + 2 * k) c.from.ensures)

pub returns-in_err-name-clause-same : goal.returns-in_err-name-clause-same
returns-in_err-name-clause-same c =
    go-tells (λ v. (v.0.now, v.1)) _ c.args.bytes.now (AreBytes-from_places c.args.bytes.now (λ i. omega (arith, c.type_inv.bytes i))) (returns-in_err-name-clause-form c)

pub returns-then-rest-lt2-clause-same : goal.returns-then-rest-lt2-clause-same
returns-then-rest-lt2-clause-same c =
    go-tells (λ v. v) None c.args.bytes.now (AreBytes-from_places c.args.bytes.now (λ i. omega (arith, c.type_inv.bytes i))) (returns-then-rest-lt2-clause-form c)

pub returns-then-rest-from-clause-same : goal.returns-then-rest-from-clause-same
returns-then-rest-from-clause-same c =
    go-tells (λ v. v) None c.args.bytes.now (AreBytes-from_places c.args.bytes.now (λ i. omega (arith, c.type_inv.bytes i))) (returns-then-rest-from-clause-form c)

pub returns-clause-same : goal.returns-clause-same
returns-clause-same c =
    go-tells {R = List ℕ × ℕ} (λ v. v) (Some (c.in_ok-name.name.now, c.u16_at-count.result)) c.args.bytes.now (AreBytes-from_places c.args.bytes.now (λ i. omega (arith, c.type_inv.bytes i))) (returns-clause-form c)
