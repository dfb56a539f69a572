-- Refusals that need no search over runs.
use Rattle.nbd_laws.proofs.{Common.{◌≡◌, List, [], ◌∷◌, ◌++◌, length, map, refl, subst, inl, inr, arith, whole, image, Some, Item, flat, Base, report, IsRunOf, MayStartIn, IsFaultless}, worked.{DecidingRunLemmas.is_run, SessionLemmas.{gone, greeted, sends}, AnswerLemmas.computing}, service.{ExplainingLemmas.failing_is_no, MomentLemmas.orders_are_faultless}}
use Rattle.nbd_laws.proofs.{runs.{FollowLemmas.{bare, follows, follows_unserved, pairs_unserved, walk_unserved}, RunLemmas.walk_of}, reading.TwinLemmas.{opens, goes_on, ends, next}}
use Rattle.std.proofs.lemmas.List.{length-map}
use Rattle.nbd_laws.specs.captures.Openings as captures
use Rattle.nbd_laws.proofs.examples.unexplained.Goals as goal

opening_items : List Item
opening_items = sends (greeted ++ gone)

opening_run : IsRunOf Base opening_items
unfolding opening_items computing
opening_run = is_run opening_items refl refl refl refl

pub returns-clause-wrong_image : goal.returns-clause-wrong_image
unfolding opening_items computing
returns-clause-wrong_image c bytes e = failing_is_no opening_items (flat captures.opening) [] (image bytes) opening_run refl (λ p. (let q : length (map Some bytes) ≡ 8 = p.fits_image in let l = length-map bytes Some in absurd (omega (arith, q, l))))

-- whatever the capture, no run serves a request twice
pub returns-clause-named_twice : goal.returns-clause-named_twice
returns-clause-named_twice c capture initial x =
    let o : IsFaultless Base (report x.items) (whole 1 ∷ whole 1 ∷ []) = subst (IsFaultless Base (report x.items)) x.has_order (orders_are_faultless Base x.items x.is_run) in
    o.none_bad 1 (inr (inl (whole 1, refl, inl refl)))

-- no run begins with a byte of the client
pub returns-clause-hasty_client : goal.returns-clause-hasty_client
unfolding MayStartIn
returns-clause-hasty_client c order initial x = grind (arith, next, walk_unserved, walk_of, is_run, bare, pairs_unserved, follows_unserved, follows, opens, goes_on, ends)
