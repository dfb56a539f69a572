use Rattle.nbd_export.proofs.{Common.{refl, err_from_is_err_and, Zeroes, zeroes}, ExtentLemmas.{byte_of-same, range_made}}
use Rattle.nbd_export.proofs.extents.ExtentsContents.zero.Goals as goal

pub returns-in_err-set-clause-refused : goal.returns-in_err-set-clause-refused
returns-in_err-set-clause-refused c =
    let e = err_from_is_err_and c.from_residual.result c.from_residual.ensures.1 in
    rw e.1 (λ x l. byte_of-same c.args.self.now _ x (c.in_err-set.ensures.refused x) refl)

pub returns-in_ok-set-clause-done : goal.returns-in_ok-set-clause-done
returns-in_ok-set-clause-done c =
    let p = c.args.self.now in
    range_made p _ c.args.offset c.args.len p.kinds.size Zeroes zeroes
    c.in_ok-set.ensures.inside c.in_ok-set.ensures.before c.in_ok-set.ensures.behind
    (λ x l. refl) (λ x l. refl) (λ x lo hi. refl)
