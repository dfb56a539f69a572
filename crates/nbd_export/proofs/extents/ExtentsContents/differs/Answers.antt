use Rattle.nbd_export.proofs.{Common.{◌≡◌, ◌+◌, ◌-◌, length, take, drop, arith, length-drop, length-take, byte_of, bytes_from}, LeastLemmas.{bytes_from-same, least_in_part, none_in_part}}
use Rattle.nbd_export.proofs.extents.ExtentsContents.differs.Goals as goal

pub returns-in-Some : goal.returns-in-Some
returns-in-Some c =
    let f = byte_of c.args.self.now in
    let offset = c.args.offset in
    let bytes = c.args.bytes.now in
    let done = c.loop-done.done in
    let n = c.min-len.result in
    let part = take (done + n - done) (drop done bytes) in
    let len : length part ≡ n = simp (length-take, length-drop) (omega arith) in
    least_in_part f (bytes_from offset bytes) (bytes_from (offset + done) part) offset (length bytes) (offset + done) (length part)
    (omega arith) (omega arith) (λ x lo hi. bytes_from-same offset done n x bytes (omega arith) lo (omega arith)) c.loop-done.invariant.none
    c.in-Some.found c.in-Some.ensures

pub loop-done-preserved : goal.loop-done-preserved
loop-done-preserved c =
    let f = byte_of c.args.self.now in
    let offset = c.args.offset in
    let bytes = c.args.bytes.now in
    let done = c.loop-done.done in
    let n = c.min-len.result in
    let part = take (done + n - done) (drop done bytes) in
    let len : length part ≡ n = simp (length-take, length-drop) (omega arith) in
    record {
      fits = omega arith;
      none = λ x l. none_in_part f (bytes_from offset bytes) (bytes_from (offset + done) part) offset (length bytes) (offset + done) (length part)
          (omega arith) (omega arith) (λ x lo hi. bytes_from-same offset done n x bytes (omega arith) lo (omega arith)) c.loop-done.invariant.none
          (λ y d. c.in_default.ensures y d) x (omega arith);
    }

pub returns : goal.returns
returns c = λ n d. c.loop-done.invariant.none n (omega arith) d
