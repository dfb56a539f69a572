-- A session over a capture's chunks: what it took, and how it stands at its end.
use Rattle.nbd_tool.proofs.Common.{◌≡◌, ℕ, ◌≤◌, List, [], ◌∷◌, ◌++◌, length, refl, sym, ◌∙◌, ap, subst, arith, length-append, append_assoc, append-nil, Option, Some, None, IfSome, Result, Ok, Err, IfOk, IfErr, OnErr, OnOk, inl, result_and, Profile, Entry, WireFault, Side, Pair, side_pairs, Start, Item, pairs, Report, IsRunOf, Chunk, NamesFirstBadLine, Reading, Reads, Open, reads-append, CaptureFault, SessionFault, Wire, EndsIn, Follows, empty_session_of, IsFollowing, IsPushed, Monitor, kept_taken, past_of, IsRefusalOf, IsWireFaultOf, Refuses, AddsPrefix, IsReported, SessionView, bytes_taken, end_by, fault_at_end, fault_of, open_end_fault, pairs_of, IsChecked, IsFaultOf, Answers, IsConclusion, IsReportOf, Verdict, HasReport, checked, told_of, of_capture, IsCapture, IsCaptureCause, flat_of, IsOver, IsOverText, IsWireAt}
use Rattle.nbd_capture.specs.declared.capture.CaptureFault.TheVariants as reader
use Rattle.nbd_session.specs.declared.fault.SessionFault.TheVariants.{Memory}

-- one more chunk
flat-snoc : (chunks : List Chunk) (c : Chunk) → flat_of (chunks ++ c ∷ []) ≡ flat_of chunks ++ side_pairs c.side c.bytes
flat-snoc [] c = append-nil (side_pairs c.side c.bytes)
flat-snoc (d ∷ chunks) c =
    ap (λ r. side_pairs d.side d.bytes ++ r) (flat-snoc chunks c) ∙ sym (append_assoc (side_pairs d.side d.bytes) (flat_of chunks) (side_pairs c.side c.bytes))

sent_both : (s : Side) (a b : List ℕ) → side_pairs s (a ++ b) ≡ side_pairs s a ++ side_pairs s b
sent_both s [] b = refl
sent_both s (x ∷ a) b = ap (λ ps. record { from = s; byte = x } ∷ ps) (sent_both s a b)

-- no more bytes were taken than there are
pub taken_within : {profile : Profile} (capture : List Pair) (r : SessionView) → IsOver profile capture r → bytes_taken r ≤ length capture
taken_within capture r over =
    let whole = ap length over.parts in
    let both = length-append (pairs_of r) over.left in
    omega arith

-- a session that took all and is open
pub over_open : {profile : Profile} (capture : List Pair) (r : SessionView) → r.profile ≡ profile → pairs_of r ≡ capture → r.closed ≡ None → IsOver profile capture r
over_open capture r base took unclosed = record {
  profile_is = base;
  left = [];
  parts = append-nil (pairs_of r) ∙ took;
  all = λ e. refl;
  at = subst (λ c. IfSome c (IsWireAt (bytes_taken r))) (sym unclosed) tt;
  refused = subst (λ c. IfSome c (Refuses r)) (sym unclosed) tt;
}

-- a session before its first byte
pub over_empty : (profile : Profile) (r : SessionView) → r ≡ empty_session_of profile → IsOver profile [] r
over_empty profile r is = over_open [] r (ap (λ (r : SessionView). r.profile) is) (ap pairs_of is) (ap (λ (r : SessionView). r.closed) is)

-- all was taken of an open session's capture
pub took_all : {profile : Profile} (capture : List Pair) (r : SessionView) → IsOver profile capture r → r.closed ≡ None → pairs_of r ≡ capture
took_all capture r over unclosed = sym (append-nil (pairs_of r)) ∙ ap (λ ps. pairs_of r ++ ps) (sym (over.all unclosed)) ∙ over.parts

-- a session that a wire fault closed in these bytes
over_closed : {profile : Profile} (capture : List Pair) (s : Side) (piece : List ℕ) (old new : SessionView) (at : ℕ) (fault : WireFault) → new.profile ≡ profile → pairs_of old ≡ capture → AddsPrefix old new s piece →
    new.closed ≡ Some (Wire at fault) → at ≡ bytes_taken new → Refuses new (Wire at fault) → IsOver profile (capture ++ side_pairs s piece) new
over_closed capture s piece old new at fault base took prefix closed is refuses =
    let added = prefix.1 in
    record {
      profile_is = base;
      left = side_pairs s prefix.0;
      parts = ap (λ ps. ps ++ side_pairs s prefix.0) added.has_pairs
          ∙ append_assoc (pairs_of old) (side_pairs s added.prefix) (side_pairs s prefix.0)
          ∙ ap (λ ps. pairs_of old ++ ps) (sym (sent_both s added.prefix prefix.0) ∙ ap (side_pairs s) added.parts)
          ∙ ap (λ ps. ps ++ side_pairs s piece) took;
      all = λ none. absurd (let q : Some (Wire at fault) ≡ None = sym closed ∙ none in cc);
      at = subst (λ o. IfSome o (IsWireAt (bytes_taken new))) (sym closed) is;
      refused = subst (λ o. IfSome o (Refuses new)) (sym closed) refuses;
    }

-- a session that was closed before these bytes
over_before : {profile : Profile} (capture more : List Pair) (r : SessionView) (fault : SessionFault) → IsOver profile capture r → r.closed ≡ Some fault → IsOver profile (capture ++ more) r
over_before capture more r fault over closed = record {
  profile_is = over.profile_is;
  left = over.left ++ more;
  parts = sym (append_assoc (pairs_of r) over.left more) ∙ ap (λ ps. ps ++ more) over.parts;
  all = λ none. absurd (let q : Some fault ≡ None = sym closed ∙ none in cc);
  at = over.at;
  refused = over.refused;
}

-- one more piece was pushed, and memory did not run out
pub over_pushed : {profile : Profile} (capture : List Pair) (old new : SessionView) (s : Side) (piece : List ℕ) (o : Result (Unit {0}) SessionFault) → IsOver profile capture old → IsPushed old new s piece o →
    (o ≡ Err Memory → ⊥) → IsOver profile (capture ++ side_pairs s piece) new
over_pushed {profile} capture old new s piece o over push some = go old.closed refl
  where
    once : (o : Result (Unit {0}) SessionFault) → old.closed ≡ None → IsPushed old new s piece o → (o ≡ Err Memory → ⊥) → IsOver profile (capture ++ side_pairs s piece) new
    once (Ok u) unclosed p some = over_open (capture ++ side_pairs s piece) new (p.profile ∙ over.profile_is) (p.added ∙ ap (λ ps. ps ++ side_pairs s piece) (took_all capture old over unclosed)) p.unclosed
    once (Err (Wire n fault)) unclosed p some = over_closed capture s piece old new n fault (p.profile ∙ over.profile_is) (took_all capture old over unclosed) p.prefix p.refused p.wire.0 p.wire
    once (Err Memory) unclosed p some = absurd (some refl)

    go : (c : Option SessionFault) → old.closed ≡ c → IsOver profile (capture ++ side_pairs s piece) new
    go None unclosed = once o unclosed push some
    go (Some fault) shut = subst (IsOver profile (capture ++ side_pairs s piece)) (sym (push.closed fault shut).1) (over_before capture (side_pairs s piece) old fault over shut)

-- the same of a monitor
pub following_pushed : {profile : Profile} (capture : List Pair) (old new : Monitor) (s : Side) (piece : List ℕ) (o : Result (Unit {0}) SessionFault) → IsFollowing profile capture old →
    ((r : SessionView) → Follows old r → (next : SessionView) × Follows new next × IsPushed r next s piece o) → (o ≡ Err Memory → ⊥) → IsFollowing profile (capture ++ side_pairs s piece) new
following_pushed capture old new s piece o f push some =
    let next = push f.session f.follows in
    record { session = next.0; follows = next.1; over = over_pushed capture f.session next.0 s piece o f.over next.2 some }

-- a monitor before its first byte
pub following_empty : (profile : Profile) (monitor : Monitor) → Follows monitor (empty_session_of profile) → IsFollowing profile [] monitor
following_empty profile monitor f = record { session = empty_session_of profile; follows = f; over = over_empty profile (empty_session_of profile) refl }

-- what a monitor took is no more than there is
pub following_within : {profile : Profile} (capture : List Pair) (monitor : Monitor) (f : IsFollowing profile capture monitor) → monitor.taken ≤ length capture
following_within capture monitor f =
    let within = taken_within capture f.session f.over in
    let is = kept_taken monitor (past_of f.session) f.follows.kept in
    omega (arith, within, is)

-- the report of a session that is over is that of its capture
pub report_over : {profile : Profile} (capture : List Pair) (r : SessionView) (o : Result Report SessionFault) → IsOver profile capture r → fault_of o ≡ fault_at_end r → IfOk o (IsReported r) → IfOk o (HasReport profile capture)
report_over capture r (Err fault) over same reported = tt
report_over {profile} capture r (Ok told) over same reported = go r.closed refl
  where
    go : (c : Option SessionFault) → r.closed ≡ c → HasReport profile capture told
    go None unclosed = told_of r capture told over.profile_is (took_all capture r over unclosed) reported
    go (Some fault) closed =
        let ends : fault_at_end r ≡ Some fault = ap (λ c. end_by c (open_end_fault r.client r.server (bytes_taken r))) closed in
        absurd (let q : None ≡ Some fault = same ∙ ends in cc)

-- so is its fault
pub fault_over : {A : Type 0} {profile : Profile} (capture : List Pair) (r : SessionView) (o : Result A SessionFault) → IsOver profile capture r → fault_of o ≡ fault_at_end r → IfErr o (EndsIn r) → IfErr o (IsFaultOf profile capture)
fault_over capture r (Ok told) over same ends = tt
fault_over capture r (Err Memory) over same ends = tt
fault_over {profile = profile} capture r (Err (Wire at fault)) over same ends = go r.closed refl over.refused
  where
    go : (c : Option SessionFault) → r.closed ≡ c → IfSome c (Refuses r) → IsFaultOf profile capture (Wire at fault)
    go None unclosed refused = (r.messages, subst (λ ps. IsWireFaultOf profile ps r.messages at fault) (took_all capture r over unclosed) (subst (λ q. IsWireFaultOf q (pairs_of r) r.messages at fault) over.profile_is ends))
    go (Some other) closed refused =
        let now : fault_at_end r ≡ Some other = ap (λ c. end_by c (open_end_fault r.client r.server (bytes_taken r))) closed in
        let is : other ≡ Wire at fault = (let q : Some (Wire at fault) ≡ Some other = same ∙ now in cc) in
        let why = subst (Refuses r) is refused in
        (r.messages, inl (pairs_of r, over.left, over.parts, why.0, subst (λ q. IsRefusalOf q (pairs_of r) r.messages fault) over.profile_is why.1))

-- a fault of the capture's reader is the cause that the run's fault states
pub cause_of : (known : Option (List ℕ)) (fault : CaptureFault) → NamesFirstBadLine known fault → IsCaptureCause known (of_capture fault)
cause_of known (reader.Line n) named = named
cause_of known reader.Read named = tt
cause_of known reader.Memory named = tt

-- a chunk was read and pushed
pub next_pushed : (IsOverAll : List Pair → Type 0) (first old next : Reading) (chunks : List Chunk) (s : Side) (bytes piece : List ℕ) → Reads first old chunks → Reads old next (record { side = s; bytes = bytes } ∷ []) →
    next.state ≡ Open → piece ≡ bytes → IsOverAll (flat_of chunks ++ side_pairs s piece) → (all : List Chunk) × Reads first next all × (next.state ≡ Open) × IsOverAll (flat_of all)
next_pushed IsOverAll first old next chunks s bytes piece before chunk state same over =
    let one : Chunk = record { side = s; bytes = bytes } in
    (chunks ++ one ∷ [], reads-append first old next chunks (one ∷ []) before chunk, state, subst IsOverAll (ap (λ bs. flat_of chunks ++ side_pairs s bs) same ∙ sym (flat-snoc chunks one)) over)

-- the conclusion from a session that is over is the verdict on its capture
pub checked_over : {profile : Profile} (capture : List Pair) (r : SessionView) (order : List Entry) (initial : Start) (finished : Result Report SessionFault) (v : Verdict) → IsOver profile capture r →
    fault_of finished ≡ fault_at_end r → IfOk finished (IsReported r) → IfErr finished (EndsIn r) → IsConclusion profile finished order initial v →
    ((items : List Item) → IsRunOf profile items → IsReportOf items finished → Answers profile (pairs items) order initial v) → IsChecked profile capture order initial v
checked_over {profile} capture r order initial finished v over same reported ends =
    checked profile capture order initial finished v (report_over capture r finished over same reported) (fault_over capture r finished over same ends)

-- a value behind a result that may have a fault
pub joined : {A B E : Type 0} (P : B → Type 0) (o : Result A E) (b : B) (both : Result B E) → both ≡ result_and o (Ok b) → OnOk o (P b) → IfOk both P
joined P (Ok a) b both e holds = subst (λ r. IfOk r P) (sym e) holds
joined P (Err fault) b both e holds = subst (λ r. IfOk r P) (sym e) tt

pub joined_on : {A B E : Type 0} (P : Type 0) (o : Result A E) (b : B) (both : Result B E) → both ≡ result_and o (Ok b) → OnOk o P → OnOk both P
joined_on P (Ok a) b both e holds = subst (λ r. OnOk r P) (sym e) holds
joined_on P (Err fault) b both e holds = subst (λ r. OnOk r P) (sym e) tt

pub joined_err : {A B E : Type 0} (P : E → Type 0) (o : Result A E) (b : B) (both : Result B E) → both ≡ result_and o (Ok b) → IfErr o P → IfErr both P
joined_err P (Ok a) b both e holds = subst (λ r. IfErr r P) (sym e) tt
joined_err P (Err fault) b both e holds = subst (λ r. IfErr r P) (sym e) holds

-- what follows of a result
pub on_ok_of : {A E : Type 0} (P Q : Type 0) (o : Result A E) → OnOk o P → (P → Q) → OnOk o Q
on_ok_of P Q (Ok a) h f = f h
on_ok_of P Q (Err e) h f = tt

-- and of each thing that it is said of
pub of_ok : {A B E : Type 0} (P : B → Type 0) (Q : B → A → Type 0) (o : Result A E) → IfOk o (λ a. (b : B) → P b → Q b a) → (b : B) → P b → IfOk o (Q b)
of_ok P Q (Ok a) h b p = h b p
of_ok P Q (Err e) h b p = tt

pub of_err : {A B E : Type 0} (P : B → Type 0) (Q : B → E → Type 0) (o : Result A E) → IfErr o (λ e. (b : B) → P b → Q b e) → (b : B) → P b → IfErr o (Q b)
of_err P Q (Ok a) h b p = tt
of_err P Q (Err e) h b p = h b p

-- a capture that a session is over is a capture text
pub capture_over : {profile : Profile} (known : Option (List ℕ)) (r : SessionView) → IsOverText profile known r → IsCapture known
capture_over None r session = tt
capture_over (Some text) r session = (session.chunks, session.is_text)
