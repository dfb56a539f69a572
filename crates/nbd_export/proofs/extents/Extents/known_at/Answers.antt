use Rattle.nbd_export.proofs.{Common.{◌≡◌, ◌∙◌, ◌+◌, Some, Bytes, arith, ap, sym, kind_of, slice_index}, ExtentLemmas.byte_of-kind}
use Rattle.nbd_export.proofs.extents.Extents.known_at.Goals as goal

pub returns-in-Bytes-clause-known : goal.returns-in-Bytes-clause-known
returns-in-Bytes-clause-known c = λ i l.
    let kind : kind_of c.args.self.now.kinds (c.args.offset + i) ≡ Some Bytes = c.range_at-kind.ensures.kind (c.args.offset + i) (omega arith) (omega arith) ∙ ap Some c.in-Bytes.is in
    let at : 0 + i ≡ i = omega arith in
    byte_of-kind c.args.self.now (c.args.offset + i) Bytes kind
    ∙ ap Some (sym (c.rest_of_page-stored.ensures.bytes i (omega arith)) ∙ sym (c.part.ensures.bytes i (omega arith) ∙ ap (slice_index c.rest_of_page-stored.result.now) at))
