-- What is shown of a session that is over.
use Rattle.nbd_explain.proofs.Common.{◌≡◌, inl, inr, ℕ, List, [], ◌∷◌, ◌++◌, length, Bool, refl, sym, ◌∙◌, ap, subst, append-nil, Option, Some, None, IfSome, Result, Ok, Err, IfOk, IfErr, IsErrAnd, OnOk, Appends, Keeps, Appends-trans, Profile, Pair, AppendsPrefix, prefix_then, then_prefix, WireFault, Unfinished, SessionFault, IsAcceptedOf, IsRefusalOf, IsComplete, IsCompleteBy, IsOpenEndOf, IsWireFaultOf, no_run_of, open_end_of, HasRunOf, IsOfRun, SessionView, end_by, fault_at_end, pairs_of, bytes_taken, open_end_fault, message_lines, RunFault, OutputFault, of_output, IsCapture, flat_of, IsOver, IsOverText, IsWireAt, LeavesLast, is_accepted, last_line, IsShowCause, IsShown, Leads, LeavesShown, WritesAll, WritesSome, WritesMessages, accepted, refused, took_all}
use Rattle.nbd_session.specs.declared.fault.SessionFault.TheVariants as session
use Rattle.nbd_files.specs.declared.fault.RunFault.TheVariants as faults
use Rattle.nbd_lines.specs.declared.output.OutputFault.TheVariants as output

-- the messages of a session that is over are those of a prefix of the capture
pub leads : {profile : Profile} (capture : List Pair) (r : SessionView) → IsOver profile capture r → IsOfRun r → Leads profile capture (pairs_of r) r.messages
leads capture r over run = record { rest = over.left; client = r.client; server = r.server; parts = over.parts; run = subst (λ q. HasRunOf q (pairs_of r) r.messages r.client r.server) over.profile_is run }

-- what a session shows that ends in this way
abbrev EndsAs : Profile → List Pair → SessionView → Option SessionFault → Type 0
EndsAs profile capture r ended = IsShown profile capture (is_accepted ended) r.messages (last_line ended)

refused_at : {profile : Profile} (capture : List Pair) (r : SessionView) (at : ℕ) (fault : WireFault) → IsOver profile capture r → IsOfRun r → at ≡ bytes_taken r → IsWireFaultOf profile capture r.messages at fault → EndsAs profile capture r (Some (session.Wire at fault))
refused_at {profile} capture r at fault over run e why =
    subst (λ n. EndsAs profile capture r (Some (session.Wire n fault))) (sym e)
    (refused (pairs_of r) r.messages fault (leads capture r over run) (subst (λ n. IsWireFaultOf profile capture r.messages n fault) e why) (no_run_of capture r.messages at fault why))

unfinished_at : {profile : Profile} (capture : List Pair) (r : SessionView) (client server : List ℕ) → IsOver profile capture r → IsOfRun r → r.closed ≡ None → HasRunOf profile (pairs_of r) r.messages client server →
    IsAcceptedOf profile (pairs_of r) r.messages → ((client ≡ []) × (server ≡ []) → ⊥) → EndsAs profile capture r (Some (session.Wire (bytes_taken r) Unfinished))
unfinished_at {profile} capture r client server over run unclosed has all some =
    refused_at capture r (bytes_taken r) Unfinished over run refl
    (inr (refl, ap length (took_all capture r over unclosed), subst (λ ps. IsOpenEndOf profile ps r.messages) (took_all capture r over unclosed) (open_end_of (pairs_of r) r.messages client server has all some)))

open_end : {profile : Profile} (capture : List Pair) (r : SessionView) (client server : List ℕ) → IsOver profile capture r → IsOfRun r → r.closed ≡ None → HasRunOf profile (pairs_of r) r.messages client server → IsAcceptedOf profile (pairs_of r) r.messages →
    EndsAs profile capture r (open_end_fault client server (bytes_taken r))
open_end {profile} capture r [] [] over run unclosed has all = accepted r.messages (subst (λ ps. HasRunOf profile ps r.messages [] []) (took_all capture r over unclosed) has)
open_end capture r (b ∷ client) server over run unclosed has all = unfinished_at capture r (b ∷ client) server over run unclosed has all (λ e. (let q : b ∷ client ≡ [] = e.0 in cc))
open_end capture r [] (b ∷ server) over run unclosed has all = unfinished_at capture r [] (b ∷ server) over run unclosed has all (λ e. (let q : b ∷ server ≡ [] = e.1 in cc))

pub shown : {profile : Profile} (capture : List Pair) (r : SessionView) → IsOver profile capture r → IsOfRun r → IsComplete r → EndsAs profile capture r (fault_at_end r)
shown {profile} capture r over run complete = go r.closed refl over.at complete
  where
    go : (c : Option SessionFault) → r.closed ≡ c → IfSome c (IsWireAt (bytes_taken r)) → IsCompleteBy c r → EndsAs profile capture r (end_by c (open_end_fault r.client r.server (bytes_taken r)))
    go None unclosed at all = open_end capture r r.client r.server over run unclosed (subst (λ q. HasRunOf q (pairs_of r) r.messages r.client r.server) over.profile_is run) (subst (λ q. IsAcceptedOf q (pairs_of r) r.messages) over.profile_is all)
    go (Some (session.Wire at fault)) closed is refusal =
        refused_at capture r at fault over run is (inl (pairs_of r, over.left, over.parts, is, subst (λ q. IsRefusalOf q (pairs_of r) r.messages fault) over.profile_is refusal.1))
    go (Some session.Memory) closed is refusal = absurd is

then_kept : (old mid new : Option (List ℕ)) (bytes : List ℕ) → Appends old mid bytes → Keeps mid new → Appends old new bytes
then_kept None mid new bytes a k = tt
then_kept (Some xs) None new bytes a k = absurd a
then_kept (Some xs) (Some ys) None bytes a k = absurd k
then_kept (Some xs) (Some ys) (Some zs) bytes a k = k ∙ a

module _ {profile : Profile} (known : Option (List ℕ)) (r : SessionView) (session : IsOverText profile known r) (run : IsOfRun r) (complete : IsComplete r) where
  told : EndsAs profile (flat_of session.chunks) r (fault_at_end r)
  told = shown (flat_of session.chunks) r session.over run complete

  prefix_shown : (old new : Option (List ℕ)) → AppendsPrefix old new (message_lines r.messages ++ last_line (fault_at_end r)) → WritesSome profile known old new
  prefix_shown old new a = record {
    chunks = session.chunks;
    is_text = session.is_text;
    yes = is_accepted (fault_at_end r);
    messages = r.messages;
    last = last_line (fault_at_end r);
    is_shown = told;
    appended = a;
  }

  messages_shown : (old new : Option (List ℕ)) → AppendsPrefix old new (message_lines r.messages) → WritesMessages profile known old new
  messages_shown old new a = record {
    chunks = session.chunks;
    is_text = session.is_text;
    yes = is_accepted (fault_at_end r);
    messages = r.messages;
    last = last_line (fault_at_end r);
    is_shown = told;
    appended = a;
  }

  -- the message lines were not all written
  pub stopped : {A : Type 0} (old new : Option (List ℕ)) (fault : OutputFault) (o : Result A RunFault) → AppendsPrefix old new (message_lines r.messages) → IsErrAnd o (λ e. e ≡ of_output fault) → IfErr o (LeavesShown profile known old new)
  stopped old new fault (Ok a) f e = tt
  stopped old new output.Write (Err e) f same = subst (LeavesShown profile known old new) (sym same) (prefix_shown old new (prefix_then old new (message_lines r.messages) (last_line (fault_at_end r)) f))
  stopped old new output.Memory (Err e) f same = subst (LeavesShown profile known old new) (sym same) (inr (messages_shown old new f))

  -- all lines were written
  pub all_shown : (old mid new : Option (List ℕ)) (ended : Option SessionFault) (o : Result Bool RunFault) → ended ≡ fault_at_end r → Appends old mid (message_lines r.messages) →
      IfOk o (λ yes. yes ≡ is_accepted ended) → OnOk o (Appends mid new (last_line ended)) → IfOk o (λ yes. WritesAll profile known yes old new)
  all_shown old mid new ended (Err e) same first answer last = tt
  all_shown old mid new ended (Ok answered) same first answer last = record {
    chunks = session.chunks;
    is_text = session.is_text;
    messages = r.messages;
    last = last_line (fault_at_end r);
    is_shown = subst (λ y. IsShown profile (flat_of session.chunks) y r.messages (last_line (fault_at_end r))) (sym (answer ∙ ap is_accepted same)) told;
    appended = Appends-trans old mid new (message_lines r.messages) (last_line (fault_at_end r)) first (subst (λ e. Appends mid new (last_line e)) same last);
  }

  -- the last line was not written, or not all of it
  pub last_stopped : (old mid new : Option (List ℕ)) (ended : Option SessionFault) (o : Result Bool RunFault) → ended ≡ fault_at_end r → Appends old mid (message_lines r.messages) →
      IfErr o (LeavesLast ended mid new) → IfErr o (LeavesShown profile known old new)
  last_stopped old mid new ended (Ok answered) same first left = tt
  last_stopped old mid new ended (Err faults.Write) same first left =
      prefix_shown old new (then_prefix old mid new (message_lines r.messages) (last_line (fault_at_end r)) first (subst (λ e. AppendsPrefix mid new (last_line e)) same left))
  last_stopped old mid new ended (Err faults.Memory) same first left =
      inr (messages_shown old new (message_lines r.messages, [], sym (append-nil (message_lines r.messages)), then_kept old mid new (message_lines r.messages) first left))
  last_stopped old mid new ended (Err fault) same first left = absurd left

-- what a fault of written lines says of the capture
pub output_cause : {A : Type 0} (known : Option (List ℕ)) (fault : OutputFault) (o : Result A RunFault) → IsCapture known → IsErrAnd o (λ e. e ≡ of_output fault) → IfErr o (IsShowCause known)
output_cause known fault (Ok a) is same = tt
output_cause known output.Write (Err e) is same = subst (IsShowCause known) (sym same) is
output_cause known output.Memory (Err e) is same = subst (IsShowCause known) (sym same) tt
