-- What a run leads to and states does not depend on the moments of service.
use Rattle.nbd_laws.proofs.Common.{arith, ◌≡◌, ℕ, List, [], ◌∷◌, refl, ap, Option, Report, known_from, report, asked_list, Item, Starts, Completes, without_service, complete, Core, export_in, SameMarks, SameReports, ReportsIgnoreService, if◌then◌else◌, is_reply_to, Some, length}
use Rattle.nbd_laws.proofs.{runs.{FollowLemmas.{bare, follows, follows_unserved, pairs_unserved, walk_unserved}, RunLemmas.{core_end-ends_at, walk_of}}, service.InsideLemmas.core_end, reading.TwinLemmas.twins}

core_end_unserved : (core : Core) (items : List Item) → core_end core items ≡ core_end core (without_service items)
core_end_unserved core [] = refl
core_end_unserved core (Completes s m ∷ items) = core_end_unserved (complete core m) items
core_end_unserved core (item ∷ items) = core_end_unserved core items

known_unserved : (core : Core) (k : ℕ) (items : List Item) → known_from core k items ≡ known_from core k (without_service items)
known_unserved core k [] = refl
known_unserved core k (Starts s m ∷ items) = ap (λ later. if is_reply_to core m k then Some (length core.entries) else later) (known_unserved core k items)
known_unserved core k (Completes s m ∷ items) = known_unserved (complete core m) k items
known_unserved core k (item ∷ items) = known_unserved core k items

abbrev report_by : Core → (ℕ → Option ℕ) → Report
report_by core known_at = record { export = export_in core.phase; asked = asked_list 0 core known_at core.entries }

pub reports_ignore_service : ReportsIgnoreService
unfolding report
reports_ignore_service items items' e = grind (arith, core_end-ends_at, core_end_unserved, known_unserved)

pub same_marks : SameMarks
same_marks profile items items' run run' e = grind (arith, twins, walk_unserved, walk_of, follows_unserved, follows, bare, pairs_unserved)

pub same_reports : SameReports
same_reports profile items items' run run' e = reports_ignore_service items items' (same_marks profile items items' run run' e)
