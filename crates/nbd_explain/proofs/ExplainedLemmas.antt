-- The verdict that is explained, what faults say, and the lines of an order of arrival.
use Rattle.nbd_explain.proofs.Common.{◌≡◌, ℕ, List, true, false, sym, subst, Option, Some, None, Result, Ok, Err, IfOk, IfErr, IfSome, OnOk, length, Appends, Keeps, Entry, WireFault, Profile, Start, Report, IsOrderText, SessionFault, Wire, EndsIn, IsReported, SessionView, fault_at_end, fault_of, no_run_of, IsFaultOf, HasReport, IsOverText, Beginning, IsBeginningOf, room_in, flat_of, verdict_on, checked_over, fault_over, report_over, Arrives, number_lines, Answer, Explains, IsFinishOf, IsToldOn, OnWritten}
use Rattle.nbd_explain.proofs.OrderlessLemmas.{searched}
use Rattle.std.specs.declared.{alloc.Global.Global, vec.Vec.Vec}
use Rattle.nbd_explain.specs.{Arrival.HasArrival.{accepted, refused}, Contents.HasEntries, Explained.IsExplained, internal.{Leaving.entries_of, Lines.IsToldGiven}}

-- what holds of a value holds of another claim that follows
pub map_ok : {A E : Type 0} {P Q : A → Type 0} (o : Result A E) → ((a : A) → P a → Q a) → IfOk o P → IfOk o Q
map_ok (Ok a) f p = f a p
map_ok (Err e) f p = tt

pub map_err : {A E : Type 0} {P Q : E → Type 0} (o : Result A E) → ((e : E) → P e → Q e) → IfErr o P → IfErr o Q
map_err (Ok a) f p = tt
map_err (Err e) f p = f e p

pub each_ok : {A E P : Type 0} (o : Result A E) → P → OnOk o P
each_ok (Ok a) p = p
each_ok (Err e) p = tt

-- the verdict on the entries of an order text, of a session that took all bytes of a capture text
pub explained : {profile : Profile} (known order : Option (List ℕ)) (entries : List Entry) (start : Option Start) (finished : Result Report SessionFault) (finish : IsFinishOf profile known finished) (beginning : Beginning)
    (begun : IsBeginningOf start (room_in finished) beginning) (answered : Answer) (text : List ℕ) →
    IfSome order (λ text. IsOrderText text entries) → IsToldOn profile finished entries beginning answered text → OnWritten text (Explains profile known order start answered)
explained {profile} known order entries start finished finish beginning begun answered text is_text told = λ old new appended. record {
  verdict = told.verdict;
  is_verdict = verdict_on profile known order start finish.over.chunks entries begun.initial told.verdict finish.over.is_text is_text begun.is_known
      (checked_over (flat_of finish.over.chunks) finish.session entries begun.initial finished told.verdict finish.over.over finish.fault finish.report finish.wire
      (told.concludes begun.initial begun.is_read) (λ items is_run reports. told.answers begun.initial items begun.is_read is_run reports));
  answer = told.answer;
  begins = (told.begins.0, subst (Appends old new) told.begins.1 appended);
}

-- with an order or without one
pub told_given : {O : Type 0} {profile : Profile} (known : Option (List ℕ)) (of_order : O → Option (List ℕ)) (order : Option O) (entries : Option (Vec Entry Global)) (start : Option Start) (finished : Result Report SessionFault)
    (finish : IsFinishOf profile known finished) (beginning : Beginning) (begun : IsBeginningOf start (room_in finished) beginning) (answered : Answer) (text : List ℕ) →
    HasEntries of_order order (entries_of entries) → IsToldGiven profile finished (entries_of entries) beginning answered text → OnWritten text (IsExplained profile of_order known order start answered)
told_given known of_order (Some order) (Some entries) start finished finish beginning begun answered text has told =
    explained known (of_order order) entries.items start finished finish beginning begun answered text has told
told_given known of_order None None start finished finish beginning begun answered text has told = searched known start finished finish beginning begun answered text told
told_given known of_order (Some order) None start finished finish beginning begun answered text has told = absurd has
told_given known of_order None (Some entries) start finished finish beginning begun answered text has told = absurd has

-- the lines of an accepted session's requests
pub arrives : {profile : Profile} (known : Option (List ℕ)) (r : SessionView) (told : Report) (finished : Result Report SessionFault) (old new : Option (List ℕ)) → IsOverText profile known r → finished ≡ Ok told →
    fault_of finished ≡ fault_at_end r → IfOk finished (IsReported r) → Appends old new (number_lines (length told.asked)) → Arrives profile known true old new
arrives {profile} known r told finished old new session is same reported lines =
    let has = subst (λ o. IfOk o (HasReport profile (flat_of session.chunks))) is (report_over (flat_of session.chunks) r finished session.over same reported) in
    record {
      chunks = session.chunks;
      is_text = session.is_text;
      arrival = accepted has.items has.is_run has.has_pairs
          (subst (λ found. Appends old new (number_lines (length found.asked))) (sym (has.same_report has.items has.is_run has.has_pairs)) lines);
    }

-- nothing of a refused one
pub arrives_not : {profile : Profile} (known : Option (List ℕ)) (r : SessionView) (at : ℕ) (fault : WireFault) (finished : Result Report SessionFault) (old new : Option (List ℕ)) → IsOverText profile known r →
    finished ≡ Err (Wire at fault) → fault_of finished ≡ fault_at_end r → IfErr finished (EndsIn r) → Keeps old new → Arrives profile known false old new
arrives_not {profile} known r at fault finished old new session is same ends kept =
    let why = subst (λ o. IfErr o (IsFaultOf profile (flat_of session.chunks))) is (fault_over (flat_of session.chunks) r finished session.over same ends) in
    record { chunks = session.chunks; is_text = session.is_text; arrival = refused (no_run_of (flat_of session.chunks) why.0 at fault why.1) kept }
