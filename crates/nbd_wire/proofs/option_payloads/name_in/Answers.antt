use Rattle.nbd_wire.proofs.{Common.{refl, sym, arith}, NumberLemmas.AreBytes-from_places, QueryLemmas.{name_is, no_name}}
use Rattle.nbd_wire.proofs.option_payloads.name_in.Goals as goal

pub returns-in-Some : goal.returns-in-Some
returns-in-Some c =
    let name = c.in-Some.name.now in
    let rest = c.in-Some.field-0-1.now in
    let bytes = c.args.bytes.now in
    sym (name_is name rest bytes (AreBytes-from_places bytes (λ i. omega (arith, c.type_inv.bytes i))) ((c.in-Some.ensures.form (name, rest)).0 refl))

pub returns-in-None : goal.returns-in-None
returns-in-None c = sym (no_name c.args.bytes.now (sym c.in-None.ensures.same))
