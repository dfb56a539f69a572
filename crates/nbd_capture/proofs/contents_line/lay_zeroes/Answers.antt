use Rattle.nbd_capture.proofs.{Common.{◌≡◌, length, arith, told, zeroes}, HeldLemmas.{laid_here, length-zeroes, zeroes_at}}
use Rattle.nbd_export.specs.Extents.{byte_of, size_of}
use Rattle.nbd_export.specs.Ranges as ranges
use Rattle.nbd_capture.proofs.contents_line.lay_zeroes.Goals as goal

pub returns-clause-laid : goal.returns-clause-laid
returns-clause-laid c =
    let n = c.in-Some.len in
    let len : length (told (zeroes n)) ≡ n = length-zeroes n in
    let own = c.in-Some.ensures in (
      n,
      (own.0, own.1),
      omega (arith, own.2, c.size.ensures, c.requires),
      omega (arith, len),
      laid_here (byte_of c.zero.new.self) (byte_of c.args.contents.now) ranges.zeroes (size_of c.args.contents.now) c.args.at n (told (zeroes n)) len
          (omega (arith, own.2, c.size.ensures, c.requires)) c.in_ok-zero.ensures.done (zeroes_at c.args.at n),
    )
