-- The cases of the definitions of a verdict exclude each other, and a capture has one answer at most.
use Rattle.std.specs.Prelude.{ℕ, List, ◌≡◌, Option}
use Rattle.nbd_wire.specs.{declared.{entry.Entry.Entry, fault.WireFault.WireFault, message.Message.Message, profile.Profile.Profile, verdict.Verdict.{Verdict, TheVariants.Yes}}, Prelude.{Pair, Start, Report, Item, pairs, report, IsRunOf}}
use Rattle.nbd_session.specs.Refusals.{IsWireFaultOf}
use Rattle.nbd_judge.specs.{Captures.IsChecked, Verdicts.{IsJudged, IsVerdict}}
use Rattle.nbd_laws.specs.Profiles.{AnswersAtOnce, NothingParts}

-- in a profile there is one verdict at most, where the export's bytes were these at first
abbrev pub OneJudgement : Type 0
OneJudgement = (profile : Profile) (r : Report) (order : List Entry) (initial : ℕ → Option ℕ) (v w : Verdict)
    → IsJudged profile r order initial v → IsJudged profile r order initial w → v ≡ w

-- in a profile there is one verdict at most from a start
abbrev pub OneVerdict : Type 0
OneVerdict = (profile : Profile) (r : Report) (order : List Entry) (initial : Start) (v w : Verdict)
    → IsVerdict profile r order initial v → IsVerdict profile r order initial w → v ≡ w

-- in a profile a capture is refused in one way at most: at one byte, with one fault, after the same messages
abbrev pub OneWireFault : Type 0
OneWireFault = (profile : Profile) (capture : List Pair) (messages more : List Message) (at place : ℕ)
    (fault other : WireFault) → IsWireFaultOf profile capture messages at fault
    → IsWireFaultOf profile capture more place other →
    (at ≡ place) × (fault ≡ other) × (messages ≡ more)

-- in a profile a capture, an order and a start have one answer at most; so two lists of records with one flat capture
-- get equal answers
abbrev pub OneAnswer : Type 0
OneAnswer = (profile : Profile) (capture : List Pair) (order : List Entry) (initial : Start) (v w : Verdict) →
    IsChecked profile capture order initial v → IsChecked profile capture order initial w → v ≡ w

-- in the capture, read in either profile, come no bytes that the profiles take differently
abbrev pub NothingPartsIn : List Pair → Type 0
NothingPartsIn capture = (profile : Profile) → NothingParts profile capture

-- in each of its runs READs are answered at once
abbrev pub AnswersAtOnceIn : List Pair → Type 0
AnswersAtOnceIn capture = (profile : Profile) (items : List Item) → IsRunOf profile items → pairs items ≡ capture
    → AnswersAtOnce (report items)

-- the same verdict, with this count of requests that a client should not have sent where it is a yes
abbrev pub with_improper : ℕ → Verdict → Verdict
with_improper count (Yes of_requests of_answered of_improper) = Yes of_requests of_answered count
with_improper count v = v

-- where both are so the profiles have the same verdict, but for the count of requests that were not to be sent
abbrev pub VerdictsAgree : Type 0
VerdictsAgree = (p q : Profile) (capture : List Pair) (order : List Entry) (initial : Start) (v : Verdict)
    → NothingPartsIn capture → AnswersAtOnceIn capture → IsChecked p capture order initial v →
    (count : ℕ) × IsChecked q capture order initial (with_improper count v)
