-- What a verdict concludes from a session, and what it says of the runs with that session's report.
use Rattle.std.specs.Prelude.{List, ◌≡◌, Result, Ok, Err}
use Rattle.nbd_wire.specs.{declared.{entry.Entry.Entry, profile.Profile.Profile, verdict.Verdict.{Verdict, TheVariants.{Yes, Wire, Order}}}, Prelude.{Start, Item, pairs, service_order, Pair, Report, report, IsRunOf}}
use Rattle.nbd_laws.specs.Explaining.{IsNoOf, IsYesOf}
use Rattle.nbd_session.specs.declared.fault.SessionFault.{SessionFault}
use Rattle.nbd_session.specs.declared.fault.SessionFault.TheVariants as session
use Rattle.nbd_judge.specs.Verdicts.{IsVerdict}

-- the verdict on a finished session of the profile: that on its report, or its wire fault; none where it met out of
-- memory
abbrev pub IsConclusion : Profile → Result Report SessionFault → List Entry → Start → Verdict → Type 0
IsConclusion profile (Ok r) order initial v = IsVerdict profile r order initial v
IsConclusion profile (Err (session.Wire at fault)) order initial v = v ≡ Wire at fault
IsConclusion profile (Err session.Memory) order initial v = ⊥

-- the session finished with the report of this run
abbrev pub IsReportOf : List Item → Result Report SessionFault → Type 0
IsReportOf items (Ok r) = report items ≡ r
IsReportOf items (Err fault) = ⊥

-- no run of the profile with these bytes is served in this order
abbrev pub IsUnserved : Profile → List Pair → List Entry → Type 0
IsUnserved profile capture order =
    (items : List Item) → IsRunOf profile items → pairs items ≡ capture → service_order items ≡ order → ⊥

-- of an Order verdict: no run of the profile with these bytes is served in this order
abbrev pub LeavesUnserved : Profile → List Pair → List Entry → Verdict → Type 0
LeavesUnserved profile capture order (Order entry fault) = IsUnserved profile capture order
LeavesUnserved profile capture order _ = Unit {0}

-- what a verdict says of a capture that is the bytes of a run of the profile: Yes that the order explains it, with its
-- counts, every other that it does not; Order that no such run with these bytes is served so
abbrev pub Answers : Profile → List Pair → List Entry → Start → Verdict → Type 0
Answers profile capture order initial (Yes of_requests of_answered of_improper) =
    IsYesOf profile capture order initial of_requests of_answered of_improper
Answers profile capture order initial (Order entry fault) =
    IsNoOf profile capture order initial × IsUnserved profile capture order
Answers profile capture order initial (Wire at fault) = ⊥
Answers profile capture order initial v = IsNoOf profile capture order initial

-- the verdict on the report of a run of any profile says what holds of its bytes
abbrev pub VerdictsAnswerRuns : Type 0
VerdictsAnswerRuns = (profile : Profile) (items : List Item) (order : List Entry) (initial : Start) (v : Verdict)
    → IsRunOf profile items → IsVerdict profile (report items) order initial v
    → Answers profile (pairs items) order initial v
