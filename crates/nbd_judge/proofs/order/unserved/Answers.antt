use Rattle.nbd_judge.proofs.{Common.{◌≡◌, ◌+◌, ◌-◌, ℕ, List, Some, slice_get, inl, inr, sym, ◌∙◌, ap, subst, arith, option_copied, report_of_request, report_of_request_if, Span, Asked, Report, Service, IsAllServed, TellsFaultOf, cases_eq}, orders.{FirstLemmas.read_at, TableLemmas.{fault_here, not_asked, not_unserved}}, order.unserved.Goals.{in-Some+in_default-fault_of, in_default}}
use Rattle.nbd_judge.specs.internal.Services.{IsFaultOf}
use Rattle.nbd_judge.proofs.order.unserved.Goals as goal

pub returns-in-Some-fault_of : goal.returns-in-Some-fault_of
returns-in-Some-fault_of c order h =
    let r : Report = c.args.transcript.now in
    let table : List Service = c.args.table.now in
    let i : ℕ = c.loop-i.i in
    let a : Asked = report_of_request c.in-Some.one.now in
    let cell : slice_get table (i + 1 - 1) ≡ Some c.index-table-i.result = ap (slice_get table) (omega arith) ∙ read_at table i c.index-table-i.result (omega arith) c.index-table-i.is in
    let f = fault_here r order table h (i + 1) a c.index-table-i.result (sym c.in-Some.ensures) cell c.args.profile c.fault_of.result
    (subst (λ (s : Span). TellsFaultOf c.args.profile a s c.index-table-i.result c.fault_of.result) c.inside.ensures.span c.fault_of.ensures) in
    (subst (IsFaultOf c.args.profile r order (i + 1)) c.in-Some-fault_of.is f, λ k l u. not_unserved c.args.profile r order k (c.loop-i.invariant order h k (omega (arith, l))) u)

pub loop-i-preserved : goal.loop-i-preserved
loop-i-preserved c order h k l =
    let r : Report = c.args.transcript.now in
    let table : List Service = c.args.table.now in
    let i : ℕ = c.loop-i.i in
    elim (cases_eq k (i + 1)) [
      | inr ne ↦ c.loop-i.invariant order h k (omega (arith, l, ne))
      | inl q ↦ subst (IsAllServed c.args.profile r order) (sym q) (elim c.match-asked.branch [
        | in-Some+in_default-fault_of w ↦
            (let a : Asked = report_of_request w.in-Some.one.now in
            let cell : slice_get table (i + 1 - 1) ≡ Some w.index-table-i.result = ap (slice_get table) (omega arith) ∙ read_at table i w.index-table-i.result (omega arith) w.index-table-i.is in
            subst (IsFaultOf c.args.profile r order (i + 1)) w.in_default-fault_of.is
            (fault_here r order table h (i + 1) a w.index-table-i.result (sym w.in-Some.ensures) cell c.args.profile w.fault_of.result
            (subst (λ (s : Span). TellsFaultOf c.args.profile a s w.index-table-i.result w.fault_of.result) w.inside.ensures.span w.fault_of.ensures)))
        | in_default w ↦ not_asked c.args.profile r order (i + 1) (sym c.asked.ensures ∙ ap (λ o. report_of_request_if (option_copied o)) w.in_default.is)
      ])
    ]

pub returns : goal.returns
returns c order h k x d =
    let len = h.len in
    let within = d.1 in
    c.loop-i.invariant order h k (omega (arith, len, within)) x d
