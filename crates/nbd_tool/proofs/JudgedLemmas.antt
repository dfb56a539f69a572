-- The verdict on the texts and the start that were read.
use Rattle.nbd_tool.proofs.Common.{◌≡◌, ℕ, List, ◌↔◌, ◌⊎◌, inl, inr, Bool, sym, subst, Option, Some, None, Result, Ok, Err, IfErr, IfOk, IfSome, IsTrue, OnOk, Appends, Keeps, Entry, Profile, Start, Chunk, IsCaptureText, IsOrderText, AppendsPrefix, Verdict, Report, SessionFault, EndsIn, IsReported, SessionView, fault_at_end, fault_of, IsChecked, IsOverText, IsConcluded, RunFault, Write, Memory, IsVerdictOn, LeavesWritten, Tells, flat_of, IsYes, line}
use Rattle.nbd_tool.proofs.OverLemmas.{checked_over}

pub verdict_on : (profile : Profile) (capture order : Option (List ℕ)) (known : Option Start) (chunks : List Chunk) (entries : List Entry) (initial : Start) (v : Verdict) →
    IfSome capture (λ text. IsCaptureText text chunks) → IfSome order (λ text. IsOrderText text entries) → IfSome known (λ start. initial ≡ start) →
    IsChecked profile (flat_of chunks) entries initial v → IsVerdictOn profile capture order known v
verdict_on profile (Some text) (Some order) (Some start) chunks entries initial v c o s checked = (chunks, entries, c, o, subst (λ i. IsChecked profile (flat_of chunks) entries i v) s checked)
verdict_on profile None order known chunks entries initial v c o s checked = tt
verdict_on profile (Some text) None known chunks entries initial v c o s checked = tt
verdict_on profile (Some text) (Some order) None chunks entries initial v c o s checked = tt

-- what follows for each one follows for all
pub each_ok : {A B E : Type 0} (P : B → Type 0) (Q : B → A → Type 0) (o : Result A E) → ((b : B) → P b → IfOk o (Q b)) → IfOk o (λ a. (b : B) → P b → Q b a)
each_ok P Q (Ok a) f = f
each_ok P Q (Err e) f = tt

pub each_err : {A B E : Type 0} (P : B → Type 0) (Q : B → E → Type 0) (o : Result A E) → ((b : B) → P b → IfErr o (Q b)) → IfErr o (λ e. (b : B) → P b → Q b e)
each_err P Q (Ok a) f = tt
each_err P Q (Err e) f = f

-- the order's entries are those of its text
pub with_entries : (P : Option Start → Type 0) (profile : Profile) (order : Option (List ℕ)) (finished : Result Report SessionFault) (entries slice : List Entry) (o : Result Verdict RunFault) → slice ≡ entries →
    IfSome order (λ text. IsOrderText text entries) → IfOk o (λ v. (known : Option Start) → P known → IsConcluded profile known finished slice v) →
    IfOk o (λ v. (entries : List Entry) × IfSome order (λ text. IsOrderText text entries) × ((known : Option Start) → P known → IsConcluded profile known finished entries v))
with_entries P profile order finished entries slice (Ok v) same is_text concluded = (entries, is_text, subst (λ e. (known : Option Start) → P known → IsConcluded profile known finished e v) same concluded)
with_entries P profile order finished entries slice (Err fault) same is_text concluded = tt

-- the conclusion from a session over a capture text is the verdict on its texts
pub concluded : {profile : Profile} (capture order : Option (List ℕ)) (known : Option Start) (r : SessionView) (finished : Result Report SessionFault) (entries : List Entry) (v : Verdict) → IsOverText profile capture r →
    fault_of finished ≡ fault_at_end r → IfOk finished (IsReported r) → IfErr finished (EndsIn r) → IfSome order (λ text. IsOrderText text entries) → IsConcluded profile known finished entries v →
    IsVerdictOn profile capture order known v
concluded {profile} capture order known r finished entries v over same reported ends is_text c =
    verdict_on profile capture order known over.chunks entries c.initial v over.is_text is_text c.is_known
    (checked_over (flat_of over.chunks) r entries c.initial finished v over.over same reported ends c.is_conclusion c.answers)

-- its line was written
pub tells : (profile : Profile) (capture order : Option (List ℕ)) (known : Option Start) (old new : Option (List ℕ)) (v : Verdict) (o : Result Bool RunFault) → IsVerdictOn profile capture order known v →
    IfOk o (λ said. IsTrue said ↔ IsYes v) → OnOk o (Appends old new (line v)) → IfOk o (λ said. Tells profile capture order known said old new)
tells profile capture order known old new v (Ok answered) is answer written = record { verdict = v; is_verdict = is; answer = answer; appended = written }
tells profile capture order known old new v (Err fault) is answer written = tt

-- it was not, or not all of it
pub leaves : (profile : Profile) (capture order : Option (List ℕ)) (known : Option Start) (old new : Option (List ℕ)) (v : Verdict) (o : Result Bool RunFault) → IsVerdictOn profile capture order known v →
    IfErr o (λ fault. (fault ≡ Write) × AppendsPrefix old new (line v) ⊎ (fault ≡ Memory) × Keeps old new) → IfErr o (LeavesWritten profile capture order known old new)
leaves profile capture order known old new v (Ok answered) is left = tt
leaves profile capture order known old new v (Err fault) is (inl e) = subst (LeavesWritten profile capture order known old new) (sym e.0) (record { verdict = v; is_verdict = is; appended = e.1 })
leaves profile capture order known old new v (Err fault) is (inr e) = subst (LeavesWritten profile capture order known old new) (sym e.0) e.1
