use Rattle.nbd_export.proofs.{Common.{◌≡◌, ◌+◌, ◌/◌, ◌%◌, None, Some, length, slice_index, sym, ◌∙◌, ap, arith, rules, get_or_past, PAGE, page_from}, PageLemmas.{stored_along, stored_along_image}}
use Rattle.nbd_export.proofs.pages.Pages.rest_of_page.Goals as goal

pub returns-in-Some-clause-bytes : goal.returns-in-Some-clause-bytes
returns-in-Some-clause-bytes c = λ i l.
    let p = c.args.self.now in
    let page : page_from p (c.args.offset / PAGE) ≡ Some c.in-Some.page.now.value = search rules in
    c.part.ensures.bytes i (omega (arith, c.part.ensures.len)) ∙ ap (λ l. slice_index l (c.args.offset % PAGE + i)) c.deref.ensures ∙ sym (stored_along p c.args.offset i c.in-Some.page.now.value page (omega (arith, c.part.ensures.len)))

pub returns-then-place-image-clause-bytes : goal.returns-then-place-image-clause-bytes
returns-then-place-image-clause-bytes c = λ i l.
    let p = c.args.self.now in
    let none : page_from p (c.args.offset / PAGE) ≡ None = search rules in
    c.part-then-place-image.ensures.bytes i (omega (arith, c.part-then-place-image.ensures.len)) ∙ ap (λ l. slice_index l (c.args.offset + i)) c.image-image.ensures ∙ sym (stored_along_image p c.args.offset i none (omega (arith, c.part-then-place-image.ensures.len)))

pub returns-then-place-image-clause-rest : goal.returns-then-place-image-clause-rest
returns-then-place-image-clause-rest c = λ i l fits.
    let p = c.args.self.now in
    let none : page_from p (c.args.offset / PAGE) ≡ None = search rules in
    stored_along_image p c.args.offset i none fits ∙ get_or_past p.image.value.items (c.args.offset + i) 0 (omega (arith, c.part-then-place-image.ensures.len, ap length c.image-image.ensures))

pub returns-clause-bytes : goal.returns-clause-bytes
returns-clause-bytes c = λ i l.
    let p = c.args.self.now in
    let none : page_from p (c.args.offset / PAGE) ≡ None = search rules in
    c.zero_bytes.ensures.zeroes i ∙ sym (get_or_past p.image.value.items (c.args.offset + i) 0 (omega (arith, ap length c.image-image.ensures))) ∙ sym (stored_along_image p c.args.offset i none (omega (arith, c.zero_bytes.ensures.len)))
