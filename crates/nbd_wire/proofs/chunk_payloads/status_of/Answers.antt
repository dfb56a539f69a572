use Rattle.nbd_wire.proofs.{Common.{◌≡◌, ◌%◌, true, false, None, Some, sym, ◌∙◌, ap, arith, length-drop, Status, extents_of, has_empty}, ListedReadLemmas.cut_behind, NumberLemmas.AreBytes-from_places, StatusLemmas.{IsWhole, status-none, status-reads, status-some}, chunk_payloads.status_of.Goals.{then-bytes-via-then-bytes, then-bytes-via-else-bytes+then-bytes-ne0}}
use Rattle.nbd_wire.proofs.chunk_payloads.status_of.Goals as goal

pub returns-then-bytes-clause-same : goal.returns-then-bytes-clause-same
returns-then-bytes-clause-same c =
    let bytes = c.args.bytes.now in
    sym (status-none false bytes (λ w. elim c.then-bytes.branch [ then-bytes-via-then-bytes p ↦ omega (arith, p.if-bytes.true, w.0) | then-bytes-via-else-bytes+then-bytes-ne0 p ↦ p.if-bytes-ne0.true (ap (λ n. n % 8) (sym (length-drop 4 bytes)) ∙ w.1) ]))

pub returns-then-bytes-clause-form : goal.returns-then-bytes-clause-form
returns-then-bytes-clause-form c =
    let bytes = c.args.bytes.now in
    status-reads false {R = Status} (λ v. v) None bytes (AreBytes-from_places bytes (λ i. omega (arith, c.type_inv.bytes i))) (returns-then-bytes-clause-same c)

pub returns-then-is_one_empty-clause-same : goal.returns-then-is_one_empty-clause-same
returns-then-is_one_empty-clause-same c =
    let bytes = c.args.bytes.now in
    sym (status-none false bytes (λ w. (let q : true ≡ false = sym c.if-is_one_empty.true ∙ c.is_one_empty.ensures ∙ ap (λ r. has_empty (extents_of false r)) (cut_behind 4 bytes) ∙ w.2 in absurd (cc))))

pub returns-then-is_one_empty-clause-form : goal.returns-then-is_one_empty-clause-form
returns-then-is_one_empty-clause-form c =
    let bytes = c.args.bytes.now in
    status-reads false {R = Status} (λ v. v) None bytes (AreBytes-from_places bytes (λ i. omega (arith, c.type_inv.bytes i))) (returns-then-is_one_empty-clause-same c)

pub returns-clause-same : goal.returns-clause-same
returns-clause-same c =
    let bytes = c.args.bytes.now in
    let long = c.if-bytes.false in
    let whole : IsWhole false bytes = (
      omega (arith, long),
      ap (λ n. n % 8) (length-drop 4 bytes) ∙ c.if-bytes-ne0.false,
      ap (λ r. has_empty (extents_of false r)) (sym (cut_behind 4 bytes)) ∙ sym c.is_one_empty.ensures ∙ c.if-is_one_empty.false,
    ) in
    (λ i. Some (record { id = c.u32_at.ensures i; extents = extents_of false (cut_behind 4 bytes i) })) ∙ sym (status-some false bytes whole)

pub returns-clause-form : goal.returns-clause-form
returns-clause-form c =
    let bytes = c.args.bytes.now in
    status-reads false {R = Status} (λ v. v) (Some _) bytes (AreBytes-from_places bytes (λ i. omega (arith, c.type_inv.bytes i))) (returns-clause-same c)
