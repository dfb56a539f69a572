use Rattle.nbd_export.proofs.{Common.{◌≡◌, ◌+◌, ◌/◌, ◌<◌, ◌≤◌, Some, length, slice_index, refl, sym, ◌∙◌, ap, arith, nat_cmp, ⊎_elim, cases_lt, get_or-replicate, is_at, lookup, option_map, PAGE}, KindLemmas.other_key, PageLemmas.{stored_made, stored_same}}
use Rattle.nbd_export.proofs.pages.Pages.make_page.Goals as goal

pub returns-in_err-insert-clause-bytes : goal.returns-in_err-insert-clause-bytes
returns-in_err-insert-clause-bytes c = λ x. stored_same c.args.self.now (record { image = c.args.self.now.image; pages = c.insert.new.self }) x refl (ap (λ l. option_map (λ page. page.value) (lookup (is_at (nat_cmp (x / PAGE))) l)) c.in_err-insert.ensures.err)

pub returns-in_ok-insert-clause-bytes : goal.returns-in_ok-insert-clause-bytes
returns-in_ok-insert-clause-bytes c =
    let p = c.args.self.now in
    stored_made p (record { image = p.image; pages = c.insert.new.self }) c.args.number c.overwrite.new.bytes refl (ap (option_map (λ page. page.value)) c.in_ok-insert.ensures.updates.1 ∙ ap Some c.in_ok-page.ensures.ok)
    (λ k ne. ap (option_map (λ page. page.value)) (c.in_ok-insert.ensures.updates.2 k (other_key c.args.number k ne))) (λ i l. ⊎_elim
    (λ (m : i < length c.rest_of_page.result.now). ap (slice_index c.overwrite.new.bytes) (let is : i ≡ 0 + i = omega arith in is) ∙ c.overwrite.ensures.inside i m ∙ c.rest_of_page.ensures.bytes i m)
    (λ (m : length c.rest_of_page.result.now ≤ i). c.overwrite.ensures.behind i (omega arith) ∙ get_or-replicate PAGE i 0 0 l ∙ sym (c.rest_of_page.ensures.rest i m (omega arith)))
    (cases_lt i (length c.rest_of_page.result.now)))
