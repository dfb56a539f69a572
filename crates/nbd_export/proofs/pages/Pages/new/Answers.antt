use Rattle.nbd_export.proofs.{Common.{ap, ◌/◌, nat_cmp, is_at, lookup, option_map, PAGE}, PageLemmas.stored_off}
use Rattle.nbd_export.proofs.pages.Pages.new.Goals as goal

pub returns : goal.returns
returns c = λ x. stored_off (record { image = c.args.image; pages = c.new.result }) x (ap (λ l. option_map (λ page. page.value) (lookup (is_at (nat_cmp (x / PAGE))) l)) c.new.ensures.empty)
