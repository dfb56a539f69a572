use Rattle.nbd_capture.proofs.{Common.{◌≡◌, length, arith, told, unknown}, HeldLemmas.{laid_here, length-unknown, unknown_at}}
use Rattle.nbd_export.specs.Extents.{byte_of, size_of}
use Rattle.nbd_export.specs.Ranges as ranges
use Rattle.nbd_capture.proofs.contents_line.lay_unknown.Goals as goal

pub returns-clause-laid : goal.returns-clause-laid
returns-clause-laid c =
    let n = c.in-Some.len in
    let len : length (told (unknown n)) ≡ n = length-unknown n in
    let own = c.in-Some.ensures in (
      n,
      (own.0, own.1),
      omega (arith, own.2, c.size.ensures, c.requires),
      omega (arith, len),
      laid_here (byte_of c.forget.new.self) (byte_of c.args.contents.now) ranges.unknown (size_of c.args.contents.now) c.args.at n (told (unknown n)) len
          (omega (arith, own.2, c.size.ensures, c.requires)) c.in_ok-forget.ensures.done (unknown_at c.args.at n),
    )
