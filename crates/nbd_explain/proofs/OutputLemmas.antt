-- A capture has one output of `show`.
use Rattle.nbd_explain.proofs.Common.{◌≡◌, List, [], ◌∷◌, length, refl, sym, ◌∙◌, ap, Profile, Message, Pair, Item, Byte, Starts, Completes, Serves, completed_messages, without_service, same_marks, HasRunOf, one_wire_fault, line, OneOutput, accepted, refused}
use Rattle.nbd_wire.specs.declared.verdict.Verdict.TheVariants.{Wire}

-- the moments of service aside, the same messages complete
completed_alike : (items : List Item) → completed_messages (without_service items) ≡ completed_messages items
completed_alike [] = refl
completed_alike (Byte s b ∷ items) = completed_alike items
completed_alike (Starts s m ∷ items) = completed_alike items
completed_alike (Completes s m ∷ items) = ap (λ ms. m ∷ ms) (completed_alike items)
completed_alike (Serves k ∷ items) = completed_alike items

-- two runs with the same bytes complete the same messages
one_run : (profile : Profile) (capture : List Pair) (messages more : List Message) → HasRunOf profile capture messages [] [] → HasRunOf profile capture more [] [] → messages ≡ more
one_run profile capture messages more a b =
    sym a.has_messages
    ∙ sym (completed_alike a.items)
    ∙ ap completed_messages (same_marks profile a.items b.items a.is_run b.is_run (a.has_pairs ∙ sym b.has_pairs))
    ∙ completed_alike b.items
    ∙ b.has_messages

pub one_output : OneOutput
one_output profile capture _ _ _ _ _ _ (accepted messages run) (accepted more other) = (refl, one_run profile capture messages more run other, refl)
one_output profile capture _ _ _ _ _ _ (accepted messages run) (refused prefix more fault leads is none) = absurd (none run.items run.is_run run.has_pairs)
one_output profile capture _ _ _ _ _ _ (refused prefix more fault leads is none) (accepted messages run) = absurd (none run.items run.is_run run.has_pairs)
one_output profile capture _ _ _ _ _ _ (refused prefix messages fault leads is none) (refused other more again leads' is' none') =
    let one = one_wire_fault profile capture messages more (length prefix) (length other) fault again is is' in
    (refl, one.2, ap (λ n. line (Wire n fault)) one.0 ∙ ap (λ f. line (Wire (length other) f)) one.1)
