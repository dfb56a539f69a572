-- What a run of `contents` writes of what is left.
use Rattle.nbd_explain.proofs.Common.{◌≡◌, ℕ, List, true, false, refl, sym, ◌∙◌, ap, subst, Option, Some, None, Result, Ok, Err, IfOk, IfErr, Entry, Profile, Pair, FitsImage, IsExplainedOf, Start, start_byte, Report, report, SessionFault, EndsIn, IsReported, SessionView, fault_at_end, fault_of, IsChecked, IsFaultOf, IsOtherSize, HasReport, IsOverText, WireFault, fault_over, flat_of, checked_over, no_run_of, report_over}
use Rattle.std.specs.{Prelude.Bool, declared.{alloc.Global.Global, vec.Vec.Vec}}
use Rattle.nbd_tool.specs.{Beginnings.{IsBeginningOf, IsReadAs, room_in}, declared.beginning.Beginning.Beginning, Ends.IsOver, Verdicts.IsYes}
use Rattle.nbd_wire.specs.{Prelude.Exporting, declared.verdict.Verdict.Verdict}
use Rattle.nbd_export.specs.Held.{held, held_from}
use Rattle.nbd_judge.specs.{Captures.SaysYes, Conclusions.VerdictsAnswerRuns, Verdicts.IsVerdict}
use Rattle.nbd_wire.specs.declared.verdict.Verdict.TheVariants as verdict
use Rattle.nbd_session.specs.declared.fault.SessionFault.TheVariants as session
use Rattle.nbd_order.specs.{Leaving.left, Sure.sure, declared.leaving.Left.{Left, TheVariants.{Contents, NoExport, Refused}}}
use Rattle.nbd_explain.specs.Contents.{HasEntries, IsLeftByEachOf, IsLeftOf, IsRefusedGiven, IsRefusedOf, WritesContents, WritesLeft, IsLeftByEachOf.{held as each-bytes, nothing as each-nothing}, IsRefusedOf.{no_run as refuses-bytes, other_size as refuses-size}, IsLeftOf.{held as leaves-bytes, nothing as leaves-nothing}, WritesLeft.{contents as writes-bytes, no_export as writes-nothing, refused as writes-verdict}}
use Rattle.nbd_explain.specs.internal.Leaving.{IsLeftBehind, IsLeftFrom, IsLeftIn, IsLeftOver, TellsLeft, entries_of}

-- a verdict of yes explains
explained : {profile : Profile} (capture : List Pair) (entries : List Entry) (initial : Start) (v : Verdict) → IsChecked profile capture entries initial v → SaysYes v → IsExplainedOf profile capture entries initial
explained capture entries initial (verdict.Yes a b c) judged so = judged.answers.explained
explained capture entries initial v judged so = absurd so

module _ {profile : Profile} (answer_runs : VerdictsAnswerRuns) (capture : List Pair) (r : SessionView) (finished : Result Report SessionFault) (over : IsOver profile capture r) (same : fault_of finished ≡ fault_at_end r)
    (reported : IfOk finished (IsReported r)) (ends : IfErr finished (EndsIn r)) (entries : List Entry) (initial : Start) where
  -- the verdict on a report is that on the capture
  judged : (told : Report) → finished ≡ Ok told → (v : Verdict) → IsVerdict profile told entries initial v → IsChecked profile capture entries initial v
  judged told is v of =
      checked_over capture r entries initial (Ok told) v over (subst (λ o. fault_of o ≡ fault_at_end r) is same) (subst (λ o. IfOk o (IsReported r)) is reported) (subst (λ o. IfErr o (EndsIn r)) is ends) of
      (λ items is_run reports. answer_runs profile items entries initial v is_run (subst (λ t. IsVerdict profile t entries initial v) (sym reports) of))

  has : (told : Report) → finished ≡ Ok told → HasReport profile capture told
  has told is = report_over capture r (Ok told) over (subst (λ o. fault_of o ≡ fault_at_end r) is same) (subst (λ o. IfOk o (IsReported r)) is reported)

  left_held : (told : Report) → finished ≡ Ok told → (v : Verdict) → IsVerdict profile told entries initial v → SaysYes v → (export : Exporting) → told.export ≡ Some export → (bytes : List (Option ℕ))
      → bytes ≡ held_from (left told entries (start_byte initial)) 0 export.size → IsLeftOf profile capture entries initial (Some bytes)
  left_held told is v of so export has_export bytes are =
      let h : HasReport profile capture told = has told is in
      let e : report h.items ≡ told = h.same_report h.items h.is_run h.has_pairs in
      subst (λ b. IsLeftOf profile capture entries initial (Some b)) (ap (λ t. held_from (left t entries (start_byte initial)) 0 export.size) e ∙ sym are)
      (leaves-bytes h.items export h.is_run h.has_pairs (explained capture entries initial v (judged told is v of) so) (ap (λ (t : Report). t.export) e ∙ has_export))

  left_nothing : (told : Report) → finished ≡ Ok told → (v : Verdict) → IsVerdict profile told entries initial v → SaysYes v → told.export ≡ None → IsLeftOf profile capture entries initial None
  left_nothing told is v of so none =
      let h : HasReport profile capture told = has told is in
      let e : report h.items ≡ told = h.same_report h.items h.is_run h.has_pairs in
      leaves-nothing h.items h.is_run h.has_pairs (explained capture entries initial v (judged told is v of) so) (ap (λ (t : Report). t.export) e ∙ none)

-- the same without an order
each_held : {profile : Profile} (capture : List Pair) (told : Report) → HasReport profile capture told → (initial : Start) (bytes : List (Option ℕ)) (export : Exporting) → FitsImage told.export initial → told.export ≡ Some export
    → bytes ≡ held_from (sure told (start_byte initial)) 0 export.size → IsLeftByEachOf profile capture initial (Some bytes)
each_held {profile = profile} capture told h initial bytes export fits has_export are =
    let e : report h.items ≡ told = h.same_report h.items h.is_run h.has_pairs in
    subst (λ b. IsLeftByEachOf profile capture initial (Some b)) (ap (λ t. held_from (sure t (start_byte initial)) 0 export.size) e ∙ sym are)
    (each-bytes h.items export h.is_run h.has_pairs (subst (λ (t : Report). FitsImage t.export initial) (sym e) fits) (ap (λ (t : Report). t.export) e ∙ has_export))

each_nothing : {profile : Profile} (capture : List Pair) (told : Report) → HasReport profile capture told → (initial : Start) → told.export ≡ None → IsLeftByEachOf profile capture initial None
each_nothing capture told h initial none =
    let e : report h.items ≡ told = h.same_report h.items h.is_run h.has_pairs in
    each-nothing h.items h.is_run h.has_pairs (ap (λ (t : Report). t.export) e ∙ none)

each_other_size : {profile : Profile} (capture : List Pair) (told : Report) → HasReport profile capture told → (initial : Start) (v : Verdict) (image size : ℕ) → v ≡ verdict.Image image size → IsOtherSize told.export initial image size
    → IsRefusedOf profile capture initial v
each_other_size {profile = profile} capture told h initial v image size is other =
    let e : report h.items ≡ told = h.same_report h.items h.is_run h.has_pairs in
    subst (IsRefusedOf profile capture initial) (sym is) (refuses-size h.items image size h.is_run h.has_pairs (subst (λ (t : Report). IsOtherSize t.export initial image size) (sym e) other))

each_refused : {profile : Profile} (capture : List Pair) (initial : Start) (v : Verdict) (at : ℕ) (fault : WireFault) → IsFaultOf profile capture (session.Wire at fault) → v ≡ verdict.Wire at fault → IsRefusedOf profile capture initial v
each_refused {profile = profile} capture initial v at fault why is =
    subst (IsRefusedOf profile capture initial) (sym is) (refuses-bytes why.0 at fault why.1 (no_run_of capture why.0 at fault why.1))

-- what is left of a session is left of its capture
behind : {profile : Profile} → VerdictsAnswerRuns → (capture : List Pair) (r : SessionView) (finished : Result Report SessionFault) → IsOver profile capture r → fault_of finished ≡ fault_at_end r → IfOk finished (IsReported r)
    → IfErr finished (EndsIn r) → (entries : Option (List Entry)) (initial : Start) (l : Left) → IsLeftIn profile finished entries initial l → IsLeftBehind profile capture entries initial l
behind answer_runs capture r (Ok told) over same reported ends (Some entries) initial (Contents contents) h =
    left_held answer_runs capture r (Ok told) over same reported ends entries initial told refl h.0.0 h.0.1 h.0.2 h.1.0 h.1.1 (held contents) h.1.2
behind answer_runs capture r (Ok told) over same reported ends (Some entries) initial NoExport h =
    left_nothing answer_runs capture r (Ok told) over same reported ends entries initial told refl h.0.0 h.0.1 h.0.2 h.1
behind answer_runs capture r (Ok told) over same reported ends (Some entries) initial (Refused v) h = (judged answer_runs capture r (Ok told) over same reported ends entries initial told refl v h.0, h.1)
behind answer_runs capture r (Err (session.Wire at fault)) over same reported ends (Some entries) initial (Refused v) h = (
  checked_over capture r entries initial (Err (session.Wire at fault)) v over same reported ends h (λ items is_run reports. absurd reports),
  λ so. subst SaysYes h so,
)
behind answer_runs capture r (Err (session.Wire at fault)) over same reported ends (Some entries) initial (Contents contents) h = absurd h
behind answer_runs capture r (Err (session.Wire at fault)) over same reported ends (Some entries) initial NoExport h = absurd h
behind answer_runs capture r (Err session.Memory) over same reported ends (Some entries) initial l h = absurd h
behind answer_runs capture r (Ok told) over same reported ends None initial (Contents contents) h =
    each_held capture told (report_over capture r (Ok told) over same reported) initial (held contents) h.1.0 h.0 h.1.1 h.1.2
behind answer_runs capture r (Ok told) over same reported ends None initial NoExport h = each_nothing capture told (report_over capture r (Ok told) over same reported) initial h
behind answer_runs capture r (Ok told) over same reported ends None initial (Refused v) h =
    each_other_size capture told (report_over capture r (Ok told) over same reported) initial v h.0 h.1 h.2 h.3
behind answer_runs capture r (Err (session.Wire at fault)) over same reported ends None initial (Refused v) h =
    each_refused capture initial v at fault (fault_over {A = Report} capture r (Err (session.Wire at fault)) over same ends) h
behind answer_runs capture r (Err (session.Wire at fault)) over same reported ends None initial (Contents contents) h = absurd h
behind answer_runs capture r (Err (session.Wire at fault)) over same reported ends None initial NoExport h = absurd h
behind answer_runs capture r (Err session.Memory) over same reported ends None initial l h = absurd h

-- the same from what was read of an order and of a start
pub left_read : {O : Type 0} (profile : Profile) (of_order : O → Option (List ℕ)) (finished : Result Report SessionFault) (order : Option O) (read : Option (Vec Entry Global)) (start : Option Start) (beginning : Beginning) (l : Left) →
    HasEntries of_order order (entries_of read) → IsBeginningOf start (room_in finished) beginning → ((initial : Start) → IsReadAs (room_in finished) initial beginning → IsLeftIn profile finished (entries_of read) initial l) →
    IsLeftFrom of_order profile finished order start l
left_read profile of_order finished order read start beginning l has begun of = record {
  entries = entries_of read;
  initial = begun.initial;
  has_entries = has;
  is_start = begun.is_known;
  is_left = of begun.initial begun.is_read;
}

pub left_over : {O : Type 0} (profile : Profile) (of_order : O → Option (List ℕ)) (known : Option (List ℕ)) (order : Option O) (start : Option Start) (r : SessionView) (finished : Result Report SessionFault) (l : Left) →
    VerdictsAnswerRuns → IsOverText profile known r → fault_of finished ≡ fault_at_end r → IfOk finished (IsReported r) → IfErr finished (EndsIn r) →
    IsLeftFrom of_order profile finished order start l → IsLeftOver profile of_order known order start l
left_over profile of_order known order start r finished l answer_runs over same reported ends from = record {
  chunks = over.chunks;
  entries = from.entries;
  initial = from.initial;
  is_text = over.is_text;
  has_entries = from.has_entries;
  is_start = from.is_start;
  is_left = behind answer_runs (flat_of over.chunks) r finished over.over same reported ends from.entries from.initial l from.is_left;
}

-- a verdict of yes
says : (v : Verdict) → IsYes v → SaysYes v
says (verdict.Yes a b c) y = tt
says v y = absurd y

no_yes : (profile : Profile) (capture : List Pair) (order : Option (List Entry)) (initial : Start) (v : Verdict) → IsRefusedGiven profile capture order initial v → SaysYes v → ⊥
no_yes profile capture (Some order) initial v h so = h.1 so
no_yes profile capture None initial _ (refuses-bytes messages at fault why none) so = so
no_yes profile capture None initial _ (refuses-size items image size is_run same other) so = so

-- what was written of it
written : {A : Type 0} (profile : Profile) (of_image : A → Option (List ℕ)) (against : Option A) (capture : List Pair) (entries : Option (List Entry)) (initial : Start) (l : Left) (old new : Option (List ℕ)) (answer : Bool) →
    IsLeftBehind profile capture entries initial l → TellsLeft of_image against l old new answer → WritesLeft profile capture entries initial of_image against old new answer
written profile of_image against capture entries initial (Contents contents) old new answer of told = writes-bytes (held contents) answer of told
written profile of_image against capture entries initial NoExport old new answer of told =
    subst (WritesLeft profile capture entries initial of_image against old new) (sym told.1) (writes-nothing of told.0)
written profile of_image against capture entries initial (Refused v) old new true of told = absurd (no_yes profile capture entries initial v of (says v (told.1.0 refl)))
written profile of_image against capture entries initial (Refused v) old new false of told = writes-verdict v of told.0

pub writes_contents : {O A : Type 0} (profile : Profile) (of_order : O → Option (List ℕ)) (of_image : A → Option (List ℕ)) (known : Option (List ℕ)) (order : Option O) (start : Option Start) (against : Option A) (l : Left) (old new : Option (List ℕ))
    (answer : Bool) → IsLeftOver profile of_order known order start l → TellsLeft of_image against l old new answer → WritesContents profile of_order of_image known order start against old new answer
writes_contents profile of_order of_image known order start against l old new answer over told = record {
  chunks = over.chunks;
  entries = over.entries;
  initial = over.initial;
  is_text = over.is_text;
  has_entries = over.has_entries;
  is_start = over.is_start;
  writes = written profile of_image against (flat_of over.chunks) over.entries over.initial l old new answer over.is_left told;
}
