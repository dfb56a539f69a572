use Rattle.nbd_wire.proofs.{Common.{None, Some, refl, sym, ◌∙◌, ap, ℕ, List, Bor, drop, subst, arith, option_map, are_queries, ReadsAs}, ListedReadLemmas.cut_behind, NumberLemmas.AreBytes-from_places, QueryLemmas.{Asked, name_is, queries-long, queries-reads, queries-short, queries-unnamed}}
use Rattle.nbd_wire.proofs.option_payloads.queries_of.Goals as goal

pub returns-in_err-name-clause-count : goal.returns-in_err-name-clause-count
returns-in_err-name-clause-count c = ap (option_map (λ v. v.1)) c.from_residual.ensures ∙ sym (queries-unnamed c.args.bytes.now (sym c.in_err-name.ensures.same))

pub returns-in_err-name-clause-form : goal.returns-in_err-name-clause-form
returns-in_err-name-clause-form c =
    let bytes = c.args.bytes.now in
    subst (λ answer. ReadsAs (λ v. (v.0.now, v.1)) answer (Asked bytes)) (sym c.from_residual.ensures)
    (queries-reads {R = Bor (List ℕ) × ℕ} (λ v. (v.0.now, v.1)) None bytes (AreBytes-from_places bytes (λ i. omega (arith, c.type_inv.bytes i))) (sym (queries-unnamed bytes (sym c.in_err-name.ensures.same))) tt)

pub returns-then-rest-lt4-clause-count : goal.returns-then-rest-lt4-clause-count
returns-then-rest-lt4-clause-count c =
    let name = c.in_ok-name.name.now in
    let rest = c.in_ok-name.rest.now in
    let bytes = c.args.bytes.now in
    sym (queries-short name rest bytes (AreBytes-from_places bytes (λ i. omega (arith, c.type_inv.bytes i))) ((c.in_ok-name.ensures.form (name, rest)).0 refl) c.if-rest-lt4.true)

pub returns-then-rest-lt4-clause-form : goal.returns-then-rest-lt4-clause-form
returns-then-rest-lt4-clause-form c =
    let bytes = c.args.bytes.now in
    queries-reads {R = List ℕ × ℕ} (λ v. v) None bytes (AreBytes-from_places bytes (λ i. omega (arith, c.type_inv.bytes i))) (returns-then-rest-lt4-clause-count c) tt

pub returns-then-not-are_queries-clause-count : goal.returns-then-not-are_queries-clause-count
returns-then-not-are_queries-clause-count c =
    let name = c.in_ok-name.name.now in
    let rest = c.in_ok-name.rest.now in
    let bytes = c.args.bytes.now in
    let is = ap (λ n. are_queries n (drop 4 rest)) (sym c.u32_at-count.ensures) ∙ ap (are_queries c.u32_at-count.result) (sym (cut_behind 4 rest)) ∙ sym c.are_queries.ensures ∙ c.if-not-are_queries.true in
    sym (queries-long name rest bytes _ (AreBytes-from_places bytes (λ i. omega (arith, c.type_inv.bytes i))) ((c.in_ok-name.ensures.form (name, rest)).0 refl) c.if-rest-lt4.false is)

pub returns-then-not-are_queries-clause-form : goal.returns-then-not-are_queries-clause-form
returns-then-not-are_queries-clause-form c =
    let bytes = c.args.bytes.now in
    queries-reads {R = List ℕ × ℕ} (λ v. v) None bytes (AreBytes-from_places bytes (λ i. omega (arith, c.type_inv.bytes i))) (returns-then-not-are_queries-clause-count c) tt

pub returns-clause-count : goal.returns-clause-count
returns-clause-count c =
    let name = c.in_ok-name.name.now in
    let rest = c.in_ok-name.rest.now in
    let bytes = c.args.bytes.now in
    let is = ap (λ n. are_queries n (drop 4 rest)) (sym c.u32_at-count.ensures) ∙ ap (are_queries c.u32_at-count.result) (sym (cut_behind 4 rest)) ∙ sym c.are_queries.ensures ∙ c.if-not-are_queries.false in
    ap Some c.u32_at-count.ensures
    ∙ sym (queries-long name rest bytes _ (AreBytes-from_places bytes (λ i. omega (arith, c.type_inv.bytes i))) ((c.in_ok-name.ensures.form (name, rest)).0 refl) c.if-rest-lt4.false is)

pub returns-clause-name : goal.returns-clause-name
returns-clause-name c =
    let name = c.in_ok-name.name.now in
    let rest = c.in_ok-name.rest.now in
    let bytes = c.args.bytes.now in
    sym (name_is name rest bytes (AreBytes-from_places bytes (λ i. omega (arith, c.type_inv.bytes i))) ((c.in_ok-name.ensures.form (name, rest)).0 refl))

pub returns-clause-form : goal.returns-clause-form
returns-clause-form c =
    let bytes = c.args.bytes.now in
    queries-reads {R = List ℕ × ℕ} (λ v. v) (Some (c.in_ok-name.name.now, c.u32_at-count.result)) bytes (AreBytes-from_places bytes (λ i. omega (arith, c.type_inv.bytes i))) (returns-clause-count c) (returns-clause-name c)
