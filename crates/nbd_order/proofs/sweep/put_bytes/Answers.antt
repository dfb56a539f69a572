use Rattle.nbd_order.proofs.{Common.{◌+◌, ◌∙◌, refl}, SettleLemmas.{on_ok, sliced}}
use Rattle.std.specs.Prelude.{◌-◌, slice_range}
use Rattle.nbd_export.specs.Extents.{byte_of}
use Rattle.nbd_order.proofs.sweep.put_bytes.Goals as goal

pub returns-clause-done : goal.returns-clause-done
returns-clause-done c =
    let span = c.args.span in
    let first = c.args.first in
    let bytes = c.args.bytes.now in
    on_ok c.put.result c.put.ensures.done
    (λ h x l. h x l ∙ sliced bytes (slice_range bytes (span.offset - first) (span.offset - first + span.size)) first span.offset span.size (byte_of c.args.contents.now) x c.requires.first c.requires.last refl)
