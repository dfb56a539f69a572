use Rattle.nbd_wire.proofs.{Common.{◌%◌, None, Some, sym, ◌∙◌, ap, arith, length-drop, Filter, ids_of}, ListedReadLemmas.cut_behind, NumberLemmas.AreBytes-from_places, FilterLemmas.{IsWhole, filter-none, filter-reads, filter-some}, filters.filter_of.Goals.{then-bytes-lt-IDS-via-then-bytes-lt-IDS, then-bytes-lt-IDS-via-else-bytes-lt-IDS+then-bytes-ne0}}
use Rattle.nbd_wire.proofs.filters.filter_of.Goals as goal

pub returns-then-bytes-lt-IDS-clause-same : goal.returns-then-bytes-lt-IDS-clause-same
returns-then-bytes-lt-IDS-clause-same c =
    let bytes = c.args.bytes.now in
    sym (filter-none bytes (λ w. elim c.then-bytes-lt-IDS.branch [ then-bytes-lt-IDS-via-then-bytes-lt-IDS p ↦ omega (arith, p.if-bytes-lt-IDS.true, w.0) | then-bytes-lt-IDS-via-else-bytes-lt-IDS+then-bytes-ne0 p ↦ p.if-bytes-ne0.true (ap (λ n. n % 4) (sym (length-drop 8 bytes)) ∙ w.1) ]))

pub returns-then-bytes-lt-IDS-clause-form : goal.returns-then-bytes-lt-IDS-clause-form
returns-then-bytes-lt-IDS-clause-form c =
    let bytes = c.args.bytes.now in
    filter-reads {R = Filter} (λ v. v) None bytes (AreBytes-from_places bytes (λ i. omega (arith, c.type_inv.bytes i))) (returns-then-bytes-lt-IDS-clause-same c)

pub returns-clause-same : goal.returns-clause-same
returns-clause-same c =
    let bytes = c.args.bytes.now in
    let whole : IsWhole bytes = (
      omega (arith, c.if-bytes-lt-IDS.false),
      ap (λ n. n % 4) (length-drop 8 bytes) ∙ c.if-bytes-ne0.false,
    ) in
    (λ i. Some (record { length = c.u64_at.ensures i; ids = ids_of (cut_behind 8 bytes i) })) ∙ sym (filter-some bytes whole)

pub returns-clause-form : goal.returns-clause-form
returns-clause-form c =
    let bytes = c.args.bytes.now in
    filter-reads {R = Filter} (λ v. v) (Some _) bytes (AreBytes-from_places bytes (λ i. omega (arith, c.type_inv.bytes i))) (returns-clause-same c)
