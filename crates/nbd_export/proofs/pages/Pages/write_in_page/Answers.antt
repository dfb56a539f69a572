use Rattle.nbd_export.proofs.{Common.{◌≡◌, ◌/◌, ◌%◌, Some, slice_index, refl, sym, ◌∙◌, ap, arith, nat_cmp, IsSome, subst, get, option_copied_mut, option_map, with_value, Pages, PAGE}, KindLemmas.other_key, PageLemmas.{write_inside, write_outside}}
use Rattle.nbd_export.proofs.pages.Pages.write_in_page.Goals as goal

pub returns-clause-inside : goal.returns-clause-inside
returns-clause-inside c =
    let p = c.args.self.now in
    let page = c.unwrap-page.result.now in
    let written = with_value page c.overwrite.new.bytes in
    let q : Pages = record { image = p.image; pages = c.get_mut.follows.lender written } in
    let number = c.args.offset / PAGE in
    let found : get nat_cmp p.pages number ≡ Some page = sym c.get_mut.ensures.value ∙ ap option_copied_mut c.unwrap-page.ensures in
    let updates = (c.get_mut.follows.holds written).3 (subst IsSome (sym found) refl) in
    write_inside p q c.args.offset page.value c.overwrite.new.bytes c.args.bytes.now refl (ap (option_map (λ b. b.value)) found) (ap (option_map (λ b. b.value)) updates.1) (λ k ne. ap (option_map (λ b. b.value)) (updates.2 k (other_key number k ne))) c.overwrite.ensures.inside c.requires.fits

pub returns-clause-before : goal.returns-clause-before
returns-clause-before c = λ x l.
    let p = c.args.self.now in
    let page = c.unwrap-page.result.now in
    let written = with_value page c.overwrite.new.bytes in
    let q : Pages = record { image = p.image; pages = c.get_mut.follows.lender written } in
    let number = c.args.offset / PAGE in
    let found : get nat_cmp p.pages number ≡ Some page = sym c.get_mut.ensures.value ∙ ap option_copied_mut c.unwrap-page.ensures in
    let updates = (c.get_mut.follows.holds written).3 (subst IsSome (sym found) refl) in
    write_outside p q c.args.offset page.value c.overwrite.new.bytes c.args.bytes.now refl (ap (option_map (λ b. b.value)) found) (ap (option_map (λ b. b.value)) updates.1) (λ k ne. ap (option_map (λ b. b.value)) (updates.2 k (other_key number k ne))) x (λ e. c.overwrite.ensures.before (x % PAGE) (omega arith) ∙ ap (λ l. slice_index l (x % PAGE)) c.deref_mut.ensures.value)

pub returns-clause-behind : goal.returns-clause-behind
returns-clause-behind c = λ x l.
    let p = c.args.self.now in
    let page = c.unwrap-page.result.now in
    let written = with_value page c.overwrite.new.bytes in
    let q : Pages = record { image = p.image; pages = c.get_mut.follows.lender written } in
    let number = c.args.offset / PAGE in
    let found : get nat_cmp p.pages number ≡ Some page = sym c.get_mut.ensures.value ∙ ap option_copied_mut c.unwrap-page.ensures in
    let updates = (c.get_mut.follows.holds written).3 (subst IsSome (sym found) refl) in
    write_outside p q c.args.offset page.value c.overwrite.new.bytes c.args.bytes.now refl (ap (option_map (λ b. b.value)) found) (ap (option_map (λ b. b.value)) updates.1) (λ k ne. ap (option_map (λ b. b.value)) (updates.2 k (other_key number k ne))) x (λ e. c.overwrite.ensures.behind (x % PAGE) (omega arith) ∙ ap (λ l. slice_index l (x % PAGE)) c.deref_mut.ensures.value)
