use Rattle.nbd_capture.proofs.{Common.{◌≡◌, ◌∙◌, ◌+◌, ◌≤◌, ◌<◌, length, subst, arith, told, known, AreDigits}, HeldLemmas.{laid_here, length-known, known_at}, FormLemmas.same_bytes}
use Rattle.nbd_export.specs.Extents.{byte_of, size_of}
use Rattle.nbd_export.specs.Ranges as ranges
use Rattle.nbd_capture.proofs.contents_line.lay_bytes.Goals as goal

pub returns-then-not-branch-clause-laid : goal.returns-then-not-branch-clause-laid
returns-then-not-branch-clause-laid c = grind arith

pub returns-then-len-size-clause-laid : goal.returns-then-len-size-clause-laid
returns-then-len-size-clause-laid c = grind (arith, same_bytes, length-known)

pub returns-clause-laid : goal.returns-clause-laid
returns-clause-laid c =
    let bytes = c.spell.new.buffer.items in
    let spelled : AreDigits c.args.value.now bytes × (0 < length bytes) = rw c.if-not-branch.false at c.in_ok-spell.ensures in
    let stored : length bytes ≡ c.len-len.result = omega (arith, c.len-len.ensures, c.spell.new.buffer.ok.0) in
    let len : length (told (known bytes)) ≡ c.len-len.result = length-known bytes ∙ stored in
    let fits : c.args.at + c.len-len.result ≤ size_of c.args.contents.now = omega (arith, c.if-len-size.false, c.size.ensures, c.requires) in
    let slice : c.as_slice.result.now ≡ bytes = c.as_slice.ensures.value in (
      bytes,
      spelled,
      fits,
      omega (arith, len),
      laid_here (byte_of c.put.new.self) (byte_of c.args.contents.now) (ranges.bytes_from c.args.at bytes) (size_of c.args.contents.now) c.args.at c.len-len.result (told (known bytes)) len fits
          (subst (λ n. ranges.AreSameBelow (size_of c.args.contents.now) (byte_of c.put.new.self) (ranges.overlay c.args.at n (ranges.bytes_from c.args.at bytes) (byte_of c.args.contents.now))) stored
          (subst (λ l. ranges.AreSameBelow (size_of c.args.contents.now) (byte_of c.put.new.self) (ranges.overlay c.args.at (length l) (ranges.bytes_from c.args.at l) (byte_of c.args.contents.now))) slice c.in_ok-put.ensures.done))
          (known_at c.args.at bytes),
    )
