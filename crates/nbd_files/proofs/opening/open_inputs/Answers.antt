use Rattle.nbd_files.proofs.Common.{◌++◌, ◌∷◌, [], ◌∙◌, List, None, Some, ap, append_assoc, err_from_is_err_and, Option, AsksFor, IsOpeningCause, IsOpeningFault, Path, start_path, StartWord, Image, Contents, RunFault, ImageRead, ContentsRead}
use Rattle.nbd_files.proofs.opening.open_inputs.Goals as goal

AsksFor-trans : (old mid new : Option (List Path)) (first rest : List Path) → AsksFor old mid first → AsksFor mid new rest → AsksFor old new (first ++ rest)
AsksFor-trans None mid new first rest p q = tt
AsksFor-trans (Some o) None new first rest p q = absurd p
AsksFor-trans (Some o) (Some m) None first rest p q = absurd q
AsksFor-trans (Some o) (Some m) (Some n) first rest p q = q ∙ ap (λ l. l ++ rest) p ∙ append_assoc o first rest

-- a start that cannot be opened
no_start : (old new : Option (List Path)) (capture order : Path) (start : StartWord) (fault : RunFault) → AsksFor old new (capture ∷ order ∷ start_path start) → IsOpeningFault start fault
    → IsOpeningCause old new capture order start fault
no_start old new capture order (Image path) ImageRead asked h = (h, asked)
no_start old new capture order (Contents path) ContentsRead asked h = (h, asked)
no_start old new capture order start fault asked h = absurd h

pub returns-in_default-open-clause-cause : goal.returns-in_default-open-clause-cause
returns-in_default-open-clause-cause g c = AsksFor-trans _ _ _ (c.args.capture.now ∷ []) (c.args.order.now ∷ []) c.open.ensures.asked c.open-2.ensures.asked

pub returns-in_err-start-clause-cause : goal.returns-in_err-start-clause-cause
returns-in_err-start-clause-cause g c =
    let p = err_from_is_err_and c.from_residual.result c.from_residual.ensures.1 in
    let asked = AsksFor-trans _ _ _ (c.args.capture.now ∷ []) (c.args.order.now ∷ []) c.open.ensures.asked c.open-2.ensures.asked in
    rw (p.1, p.2) (no_start _ _ _ _ c.args.start c.in_err-start.field-0.0 (AsksFor-trans _ _ _ (c.args.capture.now ∷ c.args.order.now ∷ []) (start_path c.args.start) asked c.open_start.ensures.asked) c.in_err-start.ensures.cause)

pub returns-clause-asked : goal.returns-clause-asked
returns-clause-asked g c =
    let asked = AsksFor-trans _ _ _ (c.args.capture.now ∷ []) (c.args.order.now ∷ []) c.open.ensures.asked c.open-2.ensures.asked in
    AsksFor-trans _ _ _ (c.args.capture.now ∷ c.args.order.now ∷ []) (start_path c.args.start) asked c.open_start.ensures.asked
