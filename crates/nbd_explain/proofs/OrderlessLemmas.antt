-- What is told of a session without an order.
use Rattle.nbd_explain.proofs.Common.{IsAnswered, Refuted, found_text, ordered_of, wire, ◌≡◌, ℕ, List, ◌++◌, sym, subst, Option, Some, None, Result, Ok, Err, IfSome, Appends, Entry, WireFault, Profile, Pair, IsExplainedOf, Start, start_byte, Report, report, request_count, SessionFault, Wire, no_run_of, IsChecked, IsFaultOf, IsOtherSize, size_of, HasReport, Verdict, checked, IsFound, IsWanted, Says, arrival, IsRefutedBy, IsUnexplained, Found, GaveUp, Image, NoneWhole, Order, Unexplained, Any, IsBeginningOf, IsReadAs, room_in, IsUnexplainedBy, unexplained_line, flat_of, IsYes, line, Beginning, fault_over, report_over, Answer, No, Open, Yes, answer_to, BeginsWithLine, IsTold, Tells, found, Begins, IsFinishOf, IsLineOf, IsToldBySearch, IsToldOfFound, OnWritten}
use Rattle.nbd_explain.proofs.OrderingLemmas.{answered}
use Rattle.nbd_session.specs.declared.fault.SessionFault.TheVariants.{Memory}
use Rattle.nbd_wire.specs.declared.verdict.Verdict.TheVariants as verdict
use Rattle.nbd_explain.specs.Orderless.{IsToldFrom, BeginsWith, IsTold.{refuted, undecided}}
use Rattle.nbd_explain.specs.declared.ordering.Ordered.TheVariants as ordered

-- the verdict on an order that explains a capture is a yes
yes_of : {profile : Profile} (capture : List Pair) (entries : List Entry) (initial : Start) (v : Verdict) → IsExplainedOf profile capture entries initial → IsChecked profile capture entries initial v → IsYes v
yes_of capture entries initial (verdict.Yes a b c) explained judged = tt
yes_of capture entries initial (verdict.Wire at fault) explained judged =
    absurd (no_run_of capture judged.0 at fault judged.1 explained.items explained.is_run explained.has_pairs)
yes_of capture entries initial (verdict.Image n size) explained judged = absurd (judged.answers explained)
yes_of capture entries initial (verdict.Order entry fault) explained judged = absurd (judged.answers.0 explained)
yes_of capture entries initial (verdict.Content request offset) explained judged = absurd (judged.answers explained)
yes_of capture entries initial (verdict.Status request offset) explained judged = absurd (judged.answers explained)

-- what `order` answers of what was found
found_of : {profile : Profile} (capture : List Pair) (initial : Start) (told : Report) (f : Found) → (has : HasReport profile capture told) → IsFound profile told initial f → IsWanted Any f → Says profile has.items initial f →
    IsAnswered profile capture initial Any (ordered_of f) (found_text told f)
found_of capture initial told f has is fits says = answered capture initial Any told has.items f has.is_run has.has_pairs (has.same_report has.items has.is_run has.has_pairs) is fits says

-- what was found of the report of a run, and written
told_of : {profile : Profile} (capture : List Pair) (initial : Start) (told : Report) (beginning : Beginning) (f : Found) (first rest : List ℕ) (old new : Option (List ℕ)) → (has : HasReport profile capture told) →
    IsReadAs (size_of told.export) initial beginning → IsFound profile told initial f → IsWanted Any f → Says profile has.items initial f → IsLineOf profile told f beginning first → Appends old new (first ++ rest) →
    IsTold profile capture initial (answer_to f) first × BeginsWith first old new
told_of {profile} capture initial told beginning (Order entries) first rest old new has is_read is fits says is_line appended =
    let judged : IsChecked profile capture entries.items initial is_line.verdict =
    checked profile capture entries.items initial (Ok told) is_line.verdict has tt (is_line.concludes initial is_read) (λ items is_run reported. is_line.answers initial items is_read is_run reported) in
    let explained : IsExplainedOf profile capture entries.items initial = subst (λ c. IsExplainedOf profile c entries.items initial) has.has_pairs says in
    (subst (IsTold profile capture initial Yes) (sym is_line.is_line) (found entries.items is_line.verdict explained judged (yes_of capture entries.items initial is_line.verdict explained judged)), (rest, appended))
told_of {profile} capture initial told beginning (Unexplained refutation) first rest old new has is_read is fits says is_line appended =
    (refuted first (subst (IsAnswered profile capture initial Any Refuted) (sym is_line) (found_of capture initial told (Unexplained refutation) has is fits says)), (rest, appended))
told_of {profile} capture initial told beginning (Image n size) first rest old new has is_read is fits says is_line appended =
    (refuted first (subst (IsAnswered profile capture initial Any Refuted) (sym is_line) (found_of capture initial told (Image n size) has is fits says)), (rest, appended))
told_of capture initial told beginning NoneWhole first rest old new has is_read is fits says is_line appended = absurd (cc)
told_of {profile} capture initial told beginning (GaveUp request offset reason) first rest old new has is_read is fits says is_line appended =
    (undecided first (subst (IsAnswered profile capture initial Any ordered.Open) (sym is_line) (found_of capture initial told (GaveUp request offset reason) has is fits says)), (rest, appended))

-- the same, where the start may be known
told_from : {profile : Profile} (capture : List Pair) (known : Option Start) (initial : Start) (told : Report) (beginning : Beginning) (f : Found) (first rest : List ℕ) (old new : Option (List ℕ)) → IfSome known (λ s. initial ≡ s) → (has : HasReport profile capture told) →
    IsReadAs (size_of told.export) initial beginning → IsFound profile told initial f → IsWanted Any f → Says profile has.items initial f → IsLineOf profile told f beginning first → Appends old new (first ++ rest) → IsToldFrom profile capture known old new (answer_to f)
told_from capture None initial told beginning f first rest old new is_known has is_read is fits says is_line appended = tt
told_from {profile} capture (Some start) initial told beginning f first rest old new is_known has is_read is fits says is_line appended =
    let p = told_of capture initial told beginning f first rest old new has is_read is fits says is_line appended in
    (first, subst (λ s. IsTold profile capture s (answer_to f) first) is_known p.0, p.1)

-- what the search came to is told
tells : {profile : Profile} (known : Option (List ℕ)) (start : Option Start) (told : Report) (finish : IsFinishOf profile known (Ok told)) (beginning : Beginning) (begun : IsBeginningOf start (size_of told.export) beginning) (answered : Answer) (text : List ℕ) →
    IsToldOfFound profile told beginning answered text → OnWritten text (Tells profile known start answered)
tells {profile} known start told finish beginning begun answered text of = λ old new appended.
    let chunks = finish.over.chunks in
    let has : HasReport profile (flat_of chunks) told = report_over (flat_of chunks) finish.session (Ok told) finish.over.over finish.fault finish.report in
    subst (λ a. Tells profile known start a old new) (sym of.answer) (record {
      chunks = chunks;
      is_text = finish.over.is_text;
      is_told = told_from (flat_of chunks) start begun.initial told of.kept of.found of.begins.first of.begins.explanation old new begun.is_known has
          (of.copied (size_of told.export) begun.initial begun.is_read) (of.is_found begun.initial begun.is_read) of.fits
          (of.says begun.initial has.items begun.is_read has.is_run (has.same_report has.items has.is_run has.has_pairs))
          of.begins.is_line (subst (Appends old new) of.begins.parts appended);
    })

-- a session that was refused
wired : {profile : Profile} (capture : List Pair) (start : Option Start) (at : ℕ) (fault : WireFault) (old new : Option (List ℕ)) → IsFaultOf profile capture (Wire at fault) → BeginsWithLine (verdict.Wire at fault) old new → IsToldFrom profile capture start old new No
wired capture None at fault old new why begins = tt
wired capture (Some initial) at fault old new why begins =
    (line (verdict.Wire at fault), refuted (line (verdict.Wire at fault)) (wire why.0 at fault why.1 (no_run_of capture why.0 at fault why.1)), begins)

refuses : {profile : Profile} (known : Option (List ℕ)) (start : Option Start) (at : ℕ) (fault : WireFault) (finish : IsFinishOf profile known (Err (Wire at fault))) (text : List ℕ) →
    Begins (line (verdict.Wire at fault)) text → OnWritten text (Tells profile known start No)
refuses {profile} known start at fault finish text begins = λ old new appended.
    let chunks = finish.over.chunks in
    let why : IsFaultOf profile (flat_of chunks) (Wire at fault) = fault_over {A = Report} (flat_of chunks) finish.session (Err (Wire at fault)) finish.over.over finish.fault finish.wire in
    record { chunks = chunks; is_text = finish.over.is_text; is_told = wired (flat_of chunks) start at fault old new why (begins.0, subst (Appends old new) begins.1 appended) }

-- without an order
pub searched : {profile : Profile} (known : Option (List ℕ)) (start : Option Start) (finished : Result Report SessionFault) (finish : IsFinishOf profile known finished) (beginning : Beginning) (begun : IsBeginningOf start (room_in finished) beginning)
    (answered : Answer) (text : List ℕ) → IsToldBySearch profile beginning finished answered text → OnWritten text (Tells profile known start answered)
searched known start (Ok told) finish beginning begun answered text of = tells known start told finish beginning begun answered text of
searched known start (Err (Wire at fault)) finish beginning begun Yes text of = absurd of.0
searched known start (Err (Wire at fault)) finish beginning begun Open text of = absurd of.0
searched known start (Err (Wire at fault)) finish beginning begun No text of = refuses known start at fault finish text of.1
searched known start (Err Memory) finish beginning begun answered text of = absurd of
