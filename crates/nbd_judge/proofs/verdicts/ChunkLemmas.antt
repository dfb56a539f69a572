-- Chunks that a session has taken.
use Rattle.nbd_judge.proofs.Common.{◌≡◌, ℕ, ◌+◌, ◌<◌, ◌≤◌, List, [], ◌∷◌, ◌++◌, length, refl, sym, ◌∙◌, ap, subst, arith, take, drop, get_or, length-append, append-nil, append_assoc, Result, Ok, Err, IfOk, IfErr, IsErrAnd, take-append-drop, take_more, Global, Vec, Profile, Entry, Side, Start, Item, pairs, Pair, flat, side_pairs, Report, IsRunOf, length-sent, SessionFault, IsReported, SessionView, pairs_of, Verdict, Wire, HasVerdict, IsChecked, IsFaultOf, records_of, HasReport, Answers, IsConclusion, IsReportOf, IsVerdict}
use Rattle.nbd_session.specs.declared.fault.SessionFault.TheVariants as session

pub joined : (xs ys : List (Side × Vec ℕ Global)) → flat (records_of (xs ++ ys)) ≡ flat (records_of xs) ++ flat (records_of ys)
joined [] ys = refl
joined (x ∷ xs) ys = ap (λ r. side_pairs x.0 x.1.items ++ r) (joined xs ys) ∙ sym (append_assoc (side_pairs x.0 x.1.items) (flat (records_of xs)) (flat (records_of ys)))

-- with one more chunk
pub prefix_more : (cs : List (Side × Vec ℕ Global)) (i : ℕ) (c : Side × Vec ℕ Global) → i < length cs → c ≡ get_or cs i c →
    flat (records_of (take (i + 1) cs)) ≡ flat (records_of (take i cs)) ++ side_pairs c.0 c.1.items
prefix_more cs i c w e =
    ap (λ l. flat (records_of l)) (take_more cs i c w ∙ ap (λ d. take i cs ++ d ∷ []) (sym e))
    ∙ joined (take i cs) (c ∷ []) ∙ ap (λ ps. flat (records_of (take i cs)) ++ ps) (append-nil (side_pairs c.0 c.1.items))

-- no prefix is longer than the whole
pub prefix_within : (cs : List (Side × Vec ℕ Global)) (i : ℕ) → length (flat (records_of (take i cs))) ≤ length (flat (records_of cs))
prefix_within cs i =
    let whole = ap (λ l. length (flat (records_of l))) (take-append-drop i cs) in
    let parts = ap length (joined (take i cs) (drop i cs)) in
    let sum = length-append (flat (records_of (take i cs))) (flat (records_of (drop i cs))) in
    omega arith

-- what a finished session states is told of its bytes
pub told_of : {profile : Profile} (r : SessionView) (capture : List Pair) (told : Report) → r.profile ≡ profile → pairs_of r ≡ capture → IsReported r told → HasReport profile capture told
told_of r capture told p same reported = record {
  items = reported.items;
  is_run = subst (λ q. IsRunOf q reported.items) p reported.is_run;
  has_pairs = reported.has_pairs ∙ same;
  same_report = λ others run has. reported.same_report others (subst (λ q. IsRunOf q others) (sym p) run) (has ∙ sym same);
}

-- the conclusion from what a session over a capture finished with is the verdict on that capture
pub checked : (profile : Profile) (capture : List Pair) (order : List Entry) (initial : Start) (finished : Result Report SessionFault) (v : Verdict)
    → IfOk finished (HasReport profile capture) → IfErr finished (IsFaultOf profile capture) → IsConclusion profile finished order initial v
    → ((items : List Item) → IsRunOf profile items → IsReportOf items finished → Answers profile (pairs items) order initial v) → IsChecked profile capture order initial v
checked profile capture order initial (Err session.Memory) v told within is answers = absurd is
checked profile capture order initial (Err (session.Wire at fault)) v told within is answers = subst (IsChecked profile capture order initial) (sym is) within
checked profile capture order initial (Ok r) v told within is answers = go v is (answers told.items told.is_run (told.same_report told.items told.is_run told.has_pairs))
  where
    verdict : (v : Verdict) → IsVerdict profile r order initial v → Answers profile (pairs told.items) order initial v → HasVerdict profile capture order initial v
    verdict v is says = record {
      items = told.items;
      is_run = told.is_run;
      has_pairs = told.has_pairs;
      is_verdict = λ others run has. subst (λ (q : Report). IsVerdict profile q order initial v) (sym (told.same_report others run has)) is;
      answers = subst (λ (ps : List Pair). Answers profile ps order initial v) told.has_pairs says;
    }

    go : (v : Verdict) → IsVerdict profile r order initial v → Answers profile (pairs told.items) order initial v → IsChecked profile capture order initial v
    go (Wire at fault) is says = absurd is
    go v is says = verdict v is says

-- the bytes of one more chunk
pub grown_by : (cs : List (Side × Vec ℕ Global)) (i : ℕ) (c : Side × Vec ℕ Global) → i < length cs → c ≡ get_or cs i c →
    length (flat (records_of (take (i + 1) cs))) ≡ length (flat (records_of (take i cs))) + length c.1.items
grown_by cs i c w e =
    let more = ap length (prefix_more cs i c w e) in
    let grown = length-append (flat (records_of (take i cs))) (side_pairs c.0 c.1.items) in
    let len = length-sent c.0 c.1.items in
    omega arith

-- the next piece fits, where the whole does
pub piece_fits : (cs : List (Side × Vec ℕ Global)) (i : ℕ) (c : Side × Vec ℕ Global) → i < length cs → c ≡ get_or cs i c →
    length (flat (records_of (take i cs))) + length c.1.items ≤ length (flat (records_of cs))
piece_fits cs i c w e =
    let grown = grown_by cs i c w e in
    let within = prefix_within cs (i + 1) in
    omega arith

pub finish_told : {profile : Profile} (r : SessionView) (capture : List Pair) (o : Result Report SessionFault) → r.profile ≡ profile → pairs_of r ≡ capture → IfOk o (IsReported r) → IfOk o (HasReport profile capture)
finish_told r capture (Ok told) p same h = told_of r capture told p same h
finish_told r capture (Err fault) p same h = h

pub conclusion_checked : {E : Type 0} (profile : Profile) (capture : List Pair) (order : List Entry) (initial : Start) (finished : Result Report SessionFault) (o : Result Verdict E)
    → IfOk finished (HasReport profile capture) → IfErr finished (IsFaultOf profile capture) → IfOk o (IsConclusion profile finished order initial)
    → IfOk o (λ v. (items : List Item) → IsRunOf profile items → IsReportOf items finished → Answers profile (pairs items) order initial v)
    → IfOk o (IsChecked profile capture order initial)
conclusion_checked profile capture order initial finished (Ok v) told within is answers = checked profile capture order initial finished v told within is answers
conclusion_checked profile capture order initial finished (Err e) told within is answers = tt

pub handed_on : {T : Type 0} (o : Result T SessionFault) (fault : SessionFault) (P : SessionFault → Type 0) → IsErrAnd o (λ e. e ≡ fault) → P fault → IfErr o P
handed_on (Ok x) fault P h p = tt
handed_on (Err e) fault P h p = subst P (sym h) p
