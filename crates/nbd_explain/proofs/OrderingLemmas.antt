-- What a run of `order` writes.
use Rattle.nbd_explain.proofs.Common.{◌≡◌, ℕ, List, [], ◌∷◌, ◌++◌, ◌<◌, ◌≤◌, ap, refl, sym, ◌∙◌, subst, Option, Some, None, Result, Ok, Err, IfOk, IfErr, IfSome, length, slice_index, slice_get, inl, inr, arith, decimal, Appends, Entry, WireFault, Profile, Pair, FitsImage, IsExplainedOf, Start, start_byte, Item, pairs, Report, report, IsRunOf, Passes, request_count, IsSoundReport, no_export, SessionFault, Wire, EndsIn, IsReported, SessionView, fault_at_end, fault_of, no_run_of, IsFaultOf, HasReport, IsFound, IsWanted, Says, arrival, IsRefutedBy, IsUnexplained, Found, Wanted, IsOverText, IsAnswered, IsOrderedFrom, IsUnexplainedBy, Orders, found_text, ordered_of, spaced_numbers, unexplained_line, gave_up, image, none_whole, order, unexplained, wire, Refuted, Beginning, IsBeginningOf, room_in, IsToldFrom, IsToldOf, of_refusal, of_report, RunFault, Ordered, flat_of, line, words, fault_over, report_over, Exporting, size_and_flags, IsOtherSize, wrong_verdict, size_of, IsReadAs, Longer}
use Rattle.std.specs.Prelude.{codes}
use Rattle.std.proofs.lemmas.List.{length-map}
use Rattle.nbd_wire.specs.declared.verdict.Verdict.TheVariants as verdict
use Rattle.nbd_order.specs.declared.finding.Found.TheVariants as found

-- an image that was counted has another size than the export
pub counted_other : (export : Option Exporting) (initial : Start) (n size flags : ℕ) → Some (size, flags) ≡ size_and_flags export → IsReadAs (size_of export) initial (Longer n) → IsOtherSize export initial n size
counted_other None initial n size flags q h = absurd (cc)
counted_other (Some e) initial n size flags q h =
    let s : (size, flags) ≡ (e.size, e.flags) = cc in
    let same : size ≡ e.size = ap (λ (p : ℕ × ℕ). p.0) s in
    subst (λ i. IsOtherSize (Some e) i n size) (sym h.1)
    (h.2 ∙ sym (length-map h.0 Some), same, λ z. (let more : e.size < n = h.3 in let is : n ≡ length h.0 = h.2 in let l = length-map h.0 Some in absurd (omega (arith, z, more, is, l))))

-- without an export there is no request, and the empty order passes
pub nothing_passes : (profile : Profile) (r : Report) (initial : Start) → IsSoundReport r → None ≡ size_and_flags r.export → Passes profile r [] initial
nothing_passes profile r initial sound none =
    let without : r.export ≡ None = no_export r.export none in
    let nobody : length r.asked ≡ 0 = ap length (sound.none without) in
    record {
      faultless = record {
        none_bad = λ i bad. elim bad [
          | inl e ↦ nothing_at i e.0 e.1
          | inr (inl e) ↦ nothing_at i e.0 e.1
          | inr (inr e) ↦ nothing_at i e.0 e.1
        ];
        none_late = λ i late. nothing_at i late.0 late.4;
        served = λ k x due. (let l : 0 < k = due.0 in let m : k ≤ length r.asked = due.1 in absurd (omega arith));
      };
      fits_image = subst (λ e. FitsImage e initial) (sym without) tt;
      reads = λ i x wrong. nothing_at i wrong.0 wrong.1;
    }
  where
    nothing_at : (i : ℕ) (e : Entry) → slice_get [] i ≡ Some e → ⊥
    nothing_at i e at = absurd (cc)

-- what was found of the report of a run
pub answered : {profile : Profile} (capture : List Pair) (initial : Start) (wanted : Wanted) (told : Report) (items : List Item) (f : Found) → IsRunOf profile items → pairs items ≡ capture → report items ≡ told →
    IsFound profile told initial f → IsWanted wanted f → Says profile items initial f → IsAnswered profile capture initial wanted (ordered_of f) (found_text told f)
answered {profile} capture initial wanted told items (found.Order entries) is_run has same is fits says =
    order entries.items (subst (λ c. IsExplainedOf profile c entries.items initial) has says) fits
answered {profile} capture initial wanted told items (found.Unexplained refutation) is_run has same is fits says =
    subst (λ (r : Report). IsAnswered profile capture initial wanted Refuted (unexplained_line r refutation.reads.items refutation.offset)) same
    (unexplained items refutation.reads.items refutation.offset is_run has
    (subst (λ r. IsRefutedBy profile r (start_byte initial) refutation.offset refutation.reads.items) (sym same) is)
    (subst (λ c. IsUnexplained profile c initial) has says))
answered {profile} capture initial wanted told items (found.Image n size) is_run has same is fits says =
    image items n size is_run has (subst (λ (r : Report). IsOtherSize r.export initial n size) (sym same) is)
answered {profile} capture initial wanted told items found.NoneWhole is_run has same is fits says =
    none_whole items fits is_run has (subst (λ c. IsUnexplainedBy profile c initial (arrival (request_count (report items)))) has says)
answered {profile} capture initial wanted told items (found.GaveUp request offset reason) is_run has same is fits says =
    gave_up items request offset reason is_run has (subst (λ c. IsUnexplainedBy profile c initial (arrival (request_count (report items)))) has says)

-- that was written, where the start may be known
ordered_from : {profile : Profile} (capture : List Pair) (known : Option Start) (initial : Start) (wanted : Wanted) (told : Report) (items : List Item) (f : Found) (old new : Option (List ℕ)) → IfSome known (λ s. initial ≡ s) →
    IsRunOf profile items → pairs items ≡ capture → report items ≡ told → IsFound profile told initial f → IsWanted wanted f → Says profile items initial f → Appends old new (found_text told f) →
    IsOrderedFrom profile capture known wanted old new (ordered_of f)
ordered_from capture None initial wanted told items f old new is is_run has same found fits says appended = tt
ordered_from {profile} capture (Some start) initial wanted told items f old new is is_run has same found fits says appended =
    (found_text told f, subst (λ s. IsAnswered profile capture s wanted (ordered_of f) (found_text told f)) is (answered capture initial wanted told items f is_run has same found fits says), appended)

pub orders : {profile : Profile} (known : Option (List ℕ)) (start : Option Start) (room : ℕ) (beginning : Beginning) (wanted : Wanted) (r : SessionView) (told : Report) (finished : Result Report SessionFault) (f : Found)
    (old new : Option (List ℕ)) →
    IsOverText profile known r → finished ≡ Ok told → fault_of finished ≡ fault_at_end r → IfOk finished (IsReported r) → (begun : IsBeginningOf start room beginning) → IsReadAs (size_of told.export) begun.initial beginning →
    ((initial : Start) → IsReadAs (size_of told.export) initial beginning → IsFound profile told initial f) → IsWanted wanted f →
    ((initial : Start) (items : List Item) → IsReadAs (size_of told.export) initial beginning → IsRunOf profile items → report items ≡ told → Says profile items initial f) →
    Appends old new (found_text told f) → Orders profile known start wanted (ordered_of f) old new
orders {profile} known start room beginning wanted r told finished f old new session is same reported begun is_read found fits says appended =
    let has : HasReport profile (flat_of session.chunks) told = subst (λ o. IfOk o (HasReport profile (flat_of session.chunks))) is (report_over (flat_of session.chunks) r finished session.over same reported) in
    let told_is : report has.items ≡ told = has.same_report has.items has.is_run has.has_pairs in
    record {
      chunks = session.chunks;
      is_text = session.is_text;
      is_ordered = ordered_from (flat_of session.chunks) start begun.initial wanted told has.items f old new begun.is_known has.is_run has.has_pairs told_is
          (found begun.initial is_read) fits (says begun.initial has.items is_read has.is_run told_is) appended;
    }

-- the session was refused
wired : {profile : Profile} (capture : List Pair) (start : Option Start) (wanted : Wanted) (at : ℕ) (fault : WireFault) (old new : Option (List ℕ)) → IsFaultOf profile capture (Wire at fault) → Appends old new (line (verdict.Wire at fault)) →
    IsOrderedFrom profile capture start wanted old new Refuted
wired capture None wanted at fault old new why appended = tt
wired capture (Some initial) wanted at fault old new why appended =
    (line (verdict.Wire at fault), wire why.0 at fault why.1 (no_run_of capture why.0 at fault why.1), appended)

pub refuses : {profile : Profile} (known : Option (List ℕ)) (start : Option Start) (wanted : Wanted) (r : SessionView) (at : ℕ) (fault : WireFault) (finished : Result Report SessionFault) (old new : Option (List ℕ)) → IsOverText profile known r →
    finished ≡ Err (Wire at fault) → fault_of finished ≡ fault_at_end r → IfErr finished (EndsIn r) → Appends old new (line (verdict.Wire at fault)) → Orders profile known start wanted Refuted old new
refuses {profile} known start wanted r at fault finished old new session is same ends appended =
    let why = subst (λ o. IfErr o (IsFaultOf profile (flat_of session.chunks))) is (fault_over (flat_of session.chunks) r finished session.over same ends) in
    record { chunks = session.chunks; is_text = session.is_text; is_ordered = wired (flat_of session.chunks) start wanted at fault old new why appended }

-- what is said of a report, and of a refused session
pub told_found : (profile : Profile) (beginning : Beginning) (wanted : Wanted) (finished : Result Report SessionFault) (told : Report) (f : Found) (answer : Ordered) (text : List ℕ) → finished ≡ Ok told →
    ((initial : Start) → IsReadAs (size_of told.export) initial beginning → IsFound profile told initial f) → IsWanted wanted f →
    ((initial : Start) (items : List Item) → IsReadAs (size_of told.export) initial beginning → IsRunOf profile items → report items ≡ told → Says profile items initial f) →
    answer ≡ ordered_of f → text ≡ found_text told f → IsToldOf profile beginning wanted finished answer text
told_found profile beginning wanted finished told f answer text is is_found fits says same lines =
    subst (λ q. IsToldOf profile beginning wanted q answer text) (sym is)
    (subst (λ a. IsToldOf profile beginning wanted (Ok told) a text) (sym same)
    (subst (IsToldOf profile beginning wanted (Ok told) (ordered_of f)) (sym lines) (of_report told f is_found fits says)))

pub told_refused : (profile : Profile) (beginning : Beginning) (wanted : Wanted) (at : ℕ) (fault : WireFault) (finished : Result Report SessionFault) (text : List ℕ) → finished ≡ Err (Wire at fault) →
    text ≡ line (verdict.Wire at fault) → IsToldOf profile beginning wanted finished Refuted text
told_refused profile beginning wanted at fault finished text is same =
    subst (λ q. IsToldOf profile beginning wanted q Refuted text) (sym is)
    (subst (IsToldOf profile beginning wanted (Err (Wire at fault)) Refuted) (sym same) (of_refusal at fault))

-- what was said of a session that has ended
told_from : {profile : Profile} (known : Option (List ℕ)) (start : Option Start) (beginning : Beginning) (wanted : Wanted) (r : SessionView) (finished : Result Report SessionFault) (answer : Ordered) (text : List ℕ)
    (old new : Option (List ℕ)) →
    IsOverText profile known r → fault_of finished ≡ fault_at_end r → IfOk finished (IsReported r) → IfErr finished (EndsIn r) → IsBeginningOf start (room_in finished) beginning →
    IsToldOf profile beginning wanted finished answer text → Appends old new text → Orders profile known start wanted answer old new
told_from known start beginning wanted r _ _ _ old new session same reported ends begun (of_report told f is_found fits says) appended =
    orders known start (size_of told.export) beginning wanted r told (Ok told) f old new session refl same reported begun begun.is_read is_found fits says appended
told_from known start beginning wanted r _ _ _ old new session same reported ends begun (of_refusal at fault) appended =
    refuses known start wanted r at fault (Err (Wire at fault)) old new session refl same ends appended

-- and was written
pub orders_written : {profile : Profile} {IsStart : Option Start → Type 0} (known : Option (List ℕ)) (wanted : Wanted) (r : SessionView) (finished : Result Report SessionFault) (answer : Ordered) (text : List ℕ)
    (old new : Option (List ℕ)) (o : Result Ordered RunFault) →
    IsOverText profile known r → fault_of finished ≡ fault_at_end r → IfOk finished (IsReported r) → IfErr finished (EndsIn r) →
    IsToldFrom profile IsStart wanted finished answer text → IfOk o (λ ordered. (ordered ≡ answer) × Appends old new text) →
    IfOk o (λ ordered. (start : Option Start) → IsStart start → Orders profile known start wanted ordered old new)
orders_written {profile} known wanted r finished answer text old new (Ok said) session same reported ends told written = λ start is.
    subst (λ ordered. Orders profile known start wanted ordered old new) (sym written.0)
    (told_from known start told.0 wanted r finished answer text old new session same reported ends (told.1 start is) told.2 written.1)
orders_written known wanted r finished answer text old new (Err fault) session same reported ends told written = tt

-- the line of one request, and that of another count of them
pub one_line : (told : Report) (reads : List ℕ) (offset : ℕ) → length reads ≡ 1 → words (wrong_verdict told (slice_index reads 0) offset) ++ codes " in any order\n" ≡ unexplained_line told reads offset
one_line told [] offset h = absurd (omega arith)
one_line told (request ∷ []) offset h = refl
one_line told (request ∷ more ∷ reads) offset h = absurd (omega arith)

pub several_line : (told : Report) (reads : List ℕ) (offset : ℕ) → (length reads ≡ 1 → ⊥)
    → codes "no order explains requests" ++ (spaced_numbers reads ++ (codes " at offset " ++ (decimal offset ++ codes "\n"))) ≡ unexplained_line told reads offset
several_line told [] offset h = refl
several_line told (request ∷ []) offset h = absurd (h refl)
several_line told (request ∷ more ∷ reads) offset h = refl
