use Rattle.nbd_export.proofs.{Common.{length, refl, ◌∙◌, err_from_is_err_and, Bytes, stored_byte, bytes_from}, ExtentLemmas.{byte_of-same, range_made, written_byte}}
use Rattle.nbd_export.proofs.extents.ExtentsContents.put.Goals as goal

pub returns-in_err-make_room-clause-refused : goal.returns-in_err-make_room-clause-refused
returns-in_err-make_room-clause-refused c =
    let e = err_from_is_err_and c.from_residual.result c.from_residual.ensures.1 in
    let p = c.args.self.now in
    rw e.1 (λ x l. byte_of-same p _ x refl (c.in_err-make_room.ensures.bytes x))

pub returns-in_err-set-clause-refused : goal.returns-in_err-set-clause-refused
returns-in_err-set-clause-refused c =
    let e = err_from_is_err_and c.from_residual-in_err-set.result c.from_residual-in_err-set.ensures.1 in
    let p = c.args.self.now in
    rw e.1 (λ x l. byte_of-same p _ x refl (c.make_room.ensures.bytes x))

pub returns-in_err-set-2-clause-refused : goal.returns-in_err-set-2-clause-refused
returns-in_err-set-2-clause-refused c =
    let e = err_from_is_err_and c.from_residual-in_err-set-2.result c.from_residual-in_err-set-2.ensures.1 in
    let p = c.args.self.now in
    rw e.1 (λ x l. byte_of-same p _ x (c.in_err-set-2.ensures.refused x) (c.make_room.ensures.bytes x))

pub returns-clause-done : goal.returns-clause-done
returns-clause-done c =
    let p = c.args.self.now in
    let offset = c.args.offset in
    let bytes = c.args.bytes.now in
    range_made p _ offset (length bytes) p.kinds.size Bytes (bytes_from offset bytes)
    c.in_ok-set-2.ensures.inside c.in_ok-set-2.ensures.before c.in_ok-set-2.ensures.behind
    (λ x l. c.write.ensures.before x l ∙ c.make_room.ensures.bytes x)
    (λ x l. c.write.ensures.behind x l ∙ c.make_room.ensures.bytes x)
    (λ x lo hi. written_byte offset x bytes (stored_byte c.write.new.self) c.write.ensures.inside lo hi)
