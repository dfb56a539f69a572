use Rattle.nbd_order.proofs.{Common.{ℕ, ◌∙◌, Option, Some, sym, Asked, Report, effect, effect_byte, report_of_request}, SettleLemmas.{change_in, change_lies, change_some, on_ok, overlay_kept, overlay_same, piece_lies, piece_some, piece_sure, read_some, shown_in, sound_asked}}
use Rattle.nbd_export.specs.{Extents.byte_of, Ranges.unknown}
use Rattle.nbd_wire.specs.Prelude.{piece_byte}
use Rattle.nbd_order.specs.{Sure.sure, declared.here.Holds.TheVariants.{First, Unknown}}
use Rattle.nbd_order.proofs.sweep.settle.Goals as goal

pub request-requires : goal.request-requires
request-requires c =
    let r : Report = c.args.transcript.now in
    change_some r (byte_of c.args.contents.now) c.args.here.now c.args.span.offset c.args.span.size c.requires.some c.requires.told c.in-Change.number c.in-Change.ensures

pub put_change-requires : goal.put_change-requires
put_change-requires c =
    let r : Report = c.args.transcript.now in
    let a : Asked = report_of_request c.request.result.now in
    let lies = change_lies r (byte_of c.args.contents.now) c.args.here.now c.args.span.offset c.args.span.size c.requires.some c.requires.told c.in-Change.number c.in-Change.ensures a c.request.ensures in
    record { fits = c.requires.fits; first = lies.0; last = lies.1; carried = (sound_asked r c.requires.sound c.in-Change.number a c.request.ensures).1.carried }

pub returns-in-Change-clause-done : goal.returns-in-Change-clause-done
returns-in-Change-clause-done c =
    let r : Report = c.args.transcript.now in
    let f : ℕ → Option ℕ = byte_of c.args.contents.now in
    let a : Asked = report_of_request c.request.result.now in
    on_ok c.put_change.result c.put_change.ensures.done
    (λ d x l. d x l ∙ overlay_same c.args.span.offset c.args.span.size (effect_byte (effect a)) (sure r f) f x
    (λ i. sym (change_in r f c.args.here.now c.args.span.offset c.args.span.size c.requires.some c.requires.told c.in-Change.number c.in-Change.ensures a c.request.ensures x i).1))

pub request-requires-in-Read : goal.request-requires-in-Read
request-requires-in-Read c =
    let r : Report = c.args.transcript.now in
    read_some r (byte_of c.args.contents.now) c.args.here.now c.args.span.offset c.args.span.size c.requires.some c.requires.told c.in-Read.got c.in-Read.ensures

pub piece-requires : goal.piece-requires
piece-requires c =
    let r : Report = c.args.transcript.now in
    let a : Asked = report_of_request c.request-in-Read.result.now in
    piece_some r (byte_of c.args.contents.now) c.args.here.now c.args.span.offset c.args.span.size c.requires.some c.requires.told c.in-Read.got c.in-Read.ensures a c.request-in-Read.ensures

pub put_piece-requires : goal.put_piece-requires
put_piece-requires c =
    let r : Report = c.args.transcript.now in
    let a : Asked = report_of_request c.request-in-Read.result.now in
    let lies = piece_lies r (byte_of c.args.contents.now) c.args.here.now c.args.span.offset c.args.span.size c.requires.some c.requires.told c.in-Read.got c.in-Read.ensures a c.request-in-Read.ensures c.piece.result.now c.piece.ensures in
    record { fits = c.requires.fits; first = lies.0; last = lies.1 }

pub returns-in-Read-clause-done : goal.returns-in-Read-clause-done
returns-in-Read-clause-done c =
    let r : Report = c.args.transcript.now in
    let f : ℕ → Option ℕ = byte_of c.args.contents.now in
    let a : Asked = report_of_request c.request-in-Read.result.now in
    on_ok c.put_piece.result c.put_piece.ensures.done
    (λ d x l. d x l ∙ overlay_same c.args.span.offset c.args.span.size (λ y. Some (piece_byte c.piece.result.now y)) (sure r f) f x
    (λ i. sym (piece_sure r f c.args.here.now c.args.span.offset c.args.span.size c.requires.some c.requires.told c.in-Read.got c.in-Read.ensures a c.request-in-Read.ensures c.piece.result.now c.piece.ensures
    (sound_asked r c.requires.sound c.in-Read.got.number a c.request-in-Read.ensures).1.laid x i)))

pub returns-in-First-clause-done : goal.returns-in-First-clause-done
returns-in-First-clause-done c = λ x l.
    let r : Report = c.args.transcript.now in
    let f : ℕ → Option ℕ = byte_of c.args.contents.now in
    overlay_kept c.args.span.offset c.args.span.size (sure r f) f x
    (λ i. shown_in r f c.args.here.now c.args.span.offset c.args.span.size c.requires.some c.requires.told First c.in-First.ensures x i)

pub returns-in-Unknown-clause-done : goal.returns-in-Unknown-clause-done
returns-in-Unknown-clause-done c =
    let r : Report = c.args.transcript.now in
    let f : ℕ → Option ℕ = byte_of c.args.contents.now in
    on_ok c.forget.result c.forget.ensures.done
    (λ d x l. d x l ∙ overlay_same c.args.span.offset c.args.span.size unknown (sure r f) f x
    (λ i. sym (shown_in r f c.args.here.now c.args.span.offset c.args.span.size c.requires.some c.requires.told Unknown c.in-Unknown.ensures x i)))
