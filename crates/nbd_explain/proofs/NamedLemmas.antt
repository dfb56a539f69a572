-- What the end of a session says of its capture.
use Rattle.nbd_explain.proofs.{Common.{◌≡◌, ℕ, List, Bool, sym, ◌∙◌, subst, Option, Result, Ok, Err, IfOk, IfErr, IsErrAnd, OnOk, ◌⊎◌, inl, inr, Appends, Appends-trans, Profile, SessionFault, IsComplete, IsOfRun, SessionView, fault_at_end, RunFault, IsOverText, LeavesLast, is_accepted, last_line, flat_of, IsShowCause, IsShown, capture_over, NamesAll, AppendsNames}, LastLineLemmas.shown}
use Rattle.nbd_explain.proofs.OutcomeLemmas.{named_by_report}
use Rattle.nbd_files.specs.declared.fault.RunFault.TheVariants as faults

-- the end of a session that is over, behind the lines of its messages
pub named : {profile : Profile} (known : Option (List ℕ)) (r : SessionView) (ended : Option SessionFault) (answer : Bool) (old mid new : Option (List ℕ)) → IsOverText profile known r → IsOfRun r → IsComplete r →
    ended ≡ fault_at_end r → answer ≡ is_accepted ended → AppendsNames r.messages old mid → Appends mid new (last_line ended) → NamesAll profile known answer old new
named {profile = profile} known r ended answer old mid new session run complete same is front written = record {
  chunks = session.chunks;
  is_text = session.is_text;
  messages = r.messages;
  last = last_line ended;
  is_shown = subst (λ yes. IsShown profile (flat_of session.chunks) yes r.messages (last_line ended)) (sym is)
      (subst (λ e. IsShown profile (flat_of session.chunks) (is_accepted e) r.messages (last_line e)) (sym same) (shown (flat_of session.chunks) r session.over run complete));
  lines = front.0;
  are_named = λ items client server run same. named_by_report front.1 items run same;
  appended = Appends-trans old mid new front.0 (last_line ended) front.2 written;
}

-- what a fault of the last line says of the capture
pub last_cause : {profile : Profile} (known : Option (List ℕ)) (r : SessionView) (ended : Option SessionFault) (old new : Option (List ℕ)) (o : Result Bool RunFault) → IsOverText profile known r →
    IfErr o (LeavesLast ended old new) → IfErr o (IsShowCause known)
last_cause known r ended old new (Ok b) session left = tt
last_cause known r ended old new (Err faults.Write) session left = capture_over known r session
last_cause known r ended old new (Err faults.Memory) session left = tt
last_cause known r ended old new (Err fault) session left = absurd left

-- what a fault says of the capture where the writer failed or memory ran out
pub told_cause : {profile : Profile} (A : Type 0) (known : Option (List ℕ)) (r : SessionView) (o : Result A RunFault) (fault : RunFault) → IsOverText profile known r → IsErrAnd o (λ f. f ≡ fault) →
    (fault ≡ faults.Write) ⊎ (fault ≡ faults.Memory) → IfErr o (IsShowCause known)
told_cause A known r (Ok a) fault session is either = tt
told_cause A known r (Err f) fault session is (inl e) = subst (IsShowCause known) (sym (is ∙ e)) (capture_over known r session)
told_cause A known r (Err f) fault session is (inr e) = subst (IsShowCause known) (sym (is ∙ e)) tt

-- the same of each capture text whose bytes a session took
pub named_over : (r : SessionView) (ended : Option SessionFault) (o : Result Bool RunFault) (old mid new : Option (List ℕ)) → IsOfRun r → IsComplete r →
    ended ≡ fault_at_end r → AppendsNames r.messages old mid → IfOk o (λ b. b ≡ is_accepted ended) → OnOk o (Appends mid new (last_line ended)) →
    IfOk o (λ b. (profile : Profile) (known : Option (List ℕ)) → IsOverText profile known r → NamesAll profile known b old new)
named_over r ended (Ok b) old mid new run complete same front is written = λ profile known session. named known r ended b old mid new session run complete same is front written
named_over r ended (Err fault) old mid new run complete same front is written = tt

pub last_cause_over : (r : SessionView) (ended : Option SessionFault) (old new : Option (List ℕ)) (o : Result Bool RunFault) → IfErr o (LeavesLast ended old new) →
    IfErr o (λ fault. (profile : Profile) (known : Option (List ℕ)) → IsOverText profile known r → IsShowCause known fault)
last_cause_over r ended old new (Ok b) left = tt
last_cause_over r ended old new (Err fault) left = λ profile known session. last_cause known r ended old new (Err fault) session left

pub told_cause_over : (A : Type 0) (r : SessionView) (o : Result A RunFault) (fault : RunFault) → IsErrAnd o (λ f. f ≡ fault) → (fault ≡ faults.Write) ⊎ (fault ≡ faults.Memory) →
    IfErr o (λ f. (profile : Profile) (known : Option (List ℕ)) → IsOverText profile known r → IsShowCause known f)
told_cause_over A r (Ok a) fault is either = tt
told_cause_over A r (Err f) fault is either = λ profile known session. told_cause A known r (Err f) fault session is either

-- of the capture text whose bytes it took
pub named_of : {profile : Profile} (known : Option (List ℕ)) (r : SessionView) (o : Result Bool RunFault) (old new : Option (List ℕ)) → IsOverText profile known r →
    IfOk o (λ b. (p : Profile) (k : Option (List ℕ)) → IsOverText p k r → NamesAll p k b old new) → IfOk o (λ b. NamesAll profile known b old new)
named_of {profile} known r (Ok b) old new session names_all = names_all profile known session
named_of known r (Err fault) old new session names_all = tt

pub cause_of : {profile : Profile} (known : Option (List ℕ)) (r : SessionView) (o : Result Bool RunFault) → IsOverText profile known r → IfErr o (λ fault. (p : Profile) (k : Option (List ℕ)) → IsOverText p k r → IsShowCause k fault) → IfErr o (IsShowCause known)
cause_of known r (Ok b) session cause = tt
cause_of {profile} known r (Err fault) session cause = cause profile known session
