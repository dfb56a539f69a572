use Rattle.nbd_export.proofs.Common.{◌≡◌, ◌+◌, ◌-◌, ◌/◌, ◌<◌, ◌≤◌, length, slice_index, take, drop, ◌∙◌, ap, arith, ⊎_elim, cases_lt, length-drop, length-take, get_or-drop, get_or-take, PAGE, stored_byte}
use Rattle.nbd_export.proofs.pages.Pages.write.Goals as goal

pub loop-done-preserved : goal.loop-done-preserved
loop-done-preserved c =
    let before = c.loop-done.invariant in
    let done = c.loop-done.done in
    let n = c.min-len.result in
    let bytes = c.args.bytes.now in
    let len : length (take (done + n - done) (drop done bytes)) ≡ n = simp (length-take, length-drop) (omega arith) in
    record {
      fits = omega arith;
      inside = λ i l. ⊎_elim
          (λ (m : i < done). c.write_in_page.ensures.before (c.args.offset + i) (omega arith) ∙ before.inside i m)
          (λ (m : done ≤ i).
          ap (stored_byte c.write_in_page.new.self) (let is : c.args.offset + i ≡ c.args.offset + done + (i - done) = omega arith in is)
          ∙ c.write_in_page.ensures.inside (i - done) (omega arith)
          ∙ get_or-take (done + n - done) (drop done bytes) (i - done) 0 (omega arith) ∙ get_or-drop done bytes (i - done) 0
          ∙ ap (slice_index bytes) (let is : done + (i - done) ≡ i = omega arith in is))
          (cases_lt i done);
      before = λ x l. c.write_in_page.ensures.before x (omega arith) ∙ before.before x l;
      behind = λ x l. c.write_in_page.ensures.behind x (omega arith) ∙ before.behind x (omega arith);
      room = λ x lo hi. c.write_in_page.ensures.pages (x / PAGE) (before.room x lo hi);
    }
