use Rattle.nbd_lines.proofs.{Common.{◌≡◌, ◌+◌, ◌<◌, slice_index, ◌∙◌, ◌-◌, ap, arith, length-take-le}, ShowingLemmas.known_there, UnwrittenLemmas.byte_if_known, contents_writing.known_at.Goals.{then-are_zeroes, else-are_zeroes}}
use Rattle.nbd_export.specs.Extents.{byte_of}
use Rattle.nbd_lines.proofs.contents_writing.known_at.Goals as goal

pub returns-clause-piece : goal.returns-clause-piece
returns-clause-piece c = grind (arith, length-take-le, then-are_zeroes, else-are_zeroes, known_there)

pub returns-clause-bytes : goal.returns-clause-bytes
returns-clause-bytes c = λ x lo hi.
    let f = byte_of c.args.contents.now in
    let i = x - c.args.at in
    let is : x ≡ c.args.at + i = omega arith in
    let inside : i < c.read_known-len.result = omega arith in
    byte_if_known (f x) (slice_index c.read_known-len.new.into i) (ap f is ∙ c.read_known-len.ensures.known i inside) (c.read_known-len.ensures.bytes i inside)
