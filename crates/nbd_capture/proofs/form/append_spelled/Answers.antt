use Rattle.nbd_capture.proofs.{Common.{◌+◌, ◌/◌, ◌∙◌, arith, length, rules}, SpellLemmas.{begins, decoded, seam}}
use Rattle.nbd_capture.proofs.form.append_spelled.Goals as goal

pub returns-clause-spelled : goal.returns-clause-spelled
returns-clause-spelled c =
    let old = c.args.bytes.now.items in
    let front = begins old _ _ (c.len-start.result + length c.args.digits.now / 2) c.len-start.result (c.as_mut_slice.ensures.value ∙ c.in_ok-resize.ensures.items) (c.len-start.ensures ∙ c.args.bytes.now.ok.0) (omega arith) in
    let room = c.split_at_mut-room.ensures.back_len in
    rw c.is_ok.ensures.value (decoded c.args.digits.now old c.decode_to_slice.new.out _ _ c.decode_to_slice.result (omega (arith, room, c.as_mut_slice.ensures.len, c.in_ok-resize.ensures.len, c.requires)) c.decode_to_slice.ensures.value
    (seam c.resize.new.self.len _ _ _ old (c.split_at_mut-room.ensures.front ∙ front) (omega (arith, room, c.as_mut_slice.ensures.len, c.in_ok-resize.ensures.len, c.len-start.ensures, c.args.bytes.now.ok.0))))

pub returns-clause-full : goal.returns-clause-full
returns-clause-full c = search rules
