use Rattle.nbd_wire.proofs.{Common.{◌≡◌, ◌*◌, true, false, None, Some, length, sym, ◌∙◌, ap, arith, Status, extents_of, has_empty, number_at}, ListedReadLemmas.cut_behind, NumberLemmas.AreBytes-from_places, StatusLemmas.{IsWhole, status-none, status-reads, status-some}}
use Rattle.nbd_wire.proofs.chunk_payloads.status_ext_of.Goals.{then-descriptors-from-via-then-descriptors-from, then-descriptors-from-via-else-descriptors-from+then-is_one_empty}
use Rattle.nbd_wire.proofs.chunk_payloads.status_ext_of.Goals as goal

pub returns-then-bytes-clause-same : goal.returns-then-bytes-clause-same
returns-then-bytes-clause-same c =
    sym (status-none true c.args.bytes.now (λ w. omega (arith, c.if-bytes.true, w.0)))

pub returns-then-bytes-clause-form : goal.returns-then-bytes-clause-form
returns-then-bytes-clause-form c =
    let bytes = c.args.bytes.now in
    status-reads true {R = Status} (λ v. v) None bytes (AreBytes-from_places bytes (λ i. omega (arith, c.type_inv.bytes i))) (returns-then-bytes-clause-same c)

pub returns-then-descriptors-from-clause-same : goal.returns-then-descriptors-from-clause-same
returns-then-descriptors-from-clause-same c =
    let bytes = c.args.bytes.now in
    let count : c.from.result ≡ number_at 4 4 bytes = c.from.ensures ∙ c.u32_at-count.ensures in
    sym (status-none true bytes (λ w. elim c.then-descriptors-from.branch [
      | then-descriptors-from-via-then-descriptors-from p ↦ p.if-descriptors-from.true (ap length (cut_behind 8 bytes) ∙ w.1 ∙ ap (λ n. 16 * n) (sym count))
      | then-descriptors-from-via-else-descriptors-from+then-is_one_empty p ↦ (let q : true ≡ false = sym p.if-is_one_empty.true ∙ p.is_one_empty.ensures ∙ ap (λ r. has_empty (extents_of true r)) (cut_behind 8 bytes) ∙ w.2 in absurd (cc))
    ]))

pub returns-then-descriptors-from-clause-form : goal.returns-then-descriptors-from-clause-form
returns-then-descriptors-from-clause-form c =
    let bytes = c.args.bytes.now in
    status-reads true {R = Status} (λ v. v) None bytes (AreBytes-from_places bytes (λ i. omega (arith, c.type_inv.bytes i))) (returns-then-descriptors-from-clause-same c)

pub returns-clause-same : goal.returns-clause-same
returns-clause-same c =
    let bytes = c.args.bytes.now in
    let count : c.from.result ≡ number_at 4 4 bytes = c.from.ensures ∙ c.u32_at-count.ensures in
    let whole : IsWhole true bytes = (
      omega (arith, c.if-bytes.false),
      ap length (sym (cut_behind 8 bytes)) ∙ c.if-descriptors-from.false ∙ ap (λ n. 16 * n) count,
      ap (λ r. has_empty (extents_of true r)) (sym (cut_behind 8 bytes)) ∙ sym c.is_one_empty.ensures ∙ c.if-is_one_empty.false,
    ) in
    (λ i. Some (record { id = c.u32_at-id.ensures i; extents = extents_of true (cut_behind 8 bytes i) })) ∙ sym (status-some true bytes whole)

pub returns-clause-form : goal.returns-clause-form
returns-clause-form c =
    let bytes = c.args.bytes.now in
    status-reads true {R = Status} (λ v. v) (Some _) bytes (AreBytes-from_places bytes (λ i. omega (arith, c.type_inv.bytes i))) (returns-clause-same c)
