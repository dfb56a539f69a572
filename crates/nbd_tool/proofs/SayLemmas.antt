-- What a line that begins with `yes` says.
use Rattle.nbd_tool.proofs.Common.{◌≡◌, ℕ, List, [], ◌∷◌, ◌++◌, refl, sym, ◌∙◌, ap, append_assoc, append-nil, codes, arith, Option, Some, None, ◌⊎◌, inl, inr, Bool, Result, Ok, Err, IfErr, IfOk, IsTrue, OnOk, ◌↔◌, append_cancel_left, Appends, Keeps, Chunk, IsCaptureText, IsOrderText, AppendsPrefix, Entry, Profile, IsExplainedOf, Start, Verdict, Yes, Order, Content, Status, answers_exactly, AnswersExactly, IsVerdictOn, SaysYes, Tells, flat_of, RunFault, Memory, Write, IsYes, line}
use Rattle.nbd_wire.specs.declared.verdict.Verdict.TheVariants.{Wire, Image}
use Rattle.nbd_judge.specs.Captures as judge

abbrev IsExplainedOn : Profile → (text order_text : List ℕ) → Start → Type 0
IsExplainedOn profile text order_text initial = (chunks : List Chunk) × (entries : List Entry) × IsCaptureText text chunks × IsOrderText order_text entries × IsExplainedOf profile (flat_of chunks) entries initial

abbrev first : List ℕ → ℕ
first [] = 0
first (byte ∷ bytes) = byte

-- `n` is no `y`
n_is_no_y : (text rest : List ℕ) → first text ≡ 110 → text ≡ codes "yes" ++ rest → ⊥
n_is_no_y text rest n e = let q : 110 ≡ 121 = sym n ∙ ap first e in omega (arith, q)

-- a verdict whose line begins with yes explains
explains : (profile : Profile) (text order_text : List ℕ) (initial : Start) (v : Verdict) (rest : List ℕ) → line v ≡ codes "yes" ++ rest → IsVerdictOn profile (Some text) (Some order_text) (Some initial) v → IsExplainedOn profile text order_text initial
explains profile text order_text initial (Yes a b c) rest e v = (v.0, v.1, v.2, v.3, v.4.answers.explained)
explains profile text order_text initial (Wire at fault) rest e v = absurd (n_is_no_y (line (Wire at fault)) rest refl e)
explains profile text order_text initial (Image image size) rest e v = absurd (n_is_no_y (line (Image image size)) rest refl e)
explains profile text order_text initial (Order entry fault) rest e v = absurd (n_is_no_y (line (Order entry fault)) rest refl e)
explains profile text order_text initial (Content request offset) rest e v = absurd (n_is_no_y (line (Content request offset)) rest refl e)
explains profile text order_text initial (Status request offset) rest e v = absurd (n_is_no_y (line (Status request offset)) rest refl e)

-- a prefix of a verdict's line was written
pub says_prefix : (profile : Profile) (capture order : Option (List ℕ)) (initial : Option Start) (old new : Option (List ℕ)) (v : Verdict) → IsVerdictOn profile capture order initial v → AppendsPrefix old new (line v) → SaysYes profile capture order initial old new
says_prefix profile (Some text) (Some order_text) (Some initial) (Some old) (Some new) v is f = λ written at begins.
    (let same : written ≡ f.0 = append_cancel_left old written f.0 (sym at ∙ f.3) in
    explains profile text order_text initial v (begins.0 ++ f.1) (f.2 ∙ ap (λ l. l ++ f.1) (sym same ∙ begins.1) ∙ append_assoc (codes "yes") begins.0 f.1) is)
says_prefix profile (Some text) (Some order_text) (Some initial) (Some old) None v is f = tt
says_prefix profile (Some text) (Some order_text) (Some initial) None new v is f = tt
says_prefix profile (Some text) (Some order_text) None old new v is f = tt
says_prefix profile (Some text) None initial old new v is f = tt
says_prefix profile None order initial old new v is f = tt

whole : (old new : Option (List ℕ)) (bytes : List ℕ) → Appends old new bytes → AppendsPrefix old new bytes
whole old new bytes a = (bytes, [], sym (append-nil bytes), a)

-- a verdict's line was written
pub says_line : (profile : Profile) (capture order : Option (List ℕ)) (initial : Option Start) (old new : Option (List ℕ)) (v : Verdict) → IsVerdictOn profile capture order initial v → Appends old new (line v) → SaysYes profile capture order initial old new
says_line profile capture order initial old new v is a = says_prefix profile capture order initial old new v is (whole old new (line v) a)

none_added : (old written : List ℕ) → old ≡ old ++ written → written ≡ []
none_added old written e = append_cancel_left old written [] (sym e ∙ sym (append-nil old))

nothing_begins : {A : Type 0} (rest : List ℕ) → [] ≡ codes "yes" ++ rest → A
nothing_begins rest e = let q : 0 ≡ 121 = ap first e in absurd (omega (arith, q))

-- nothing was written
says_kept : (profile : Profile) (capture order : Option (List ℕ)) (initial : Option Start) (old new : Option (List ℕ)) → Keeps old new → SaysYes profile capture order initial old new
says_kept profile (Some text) (Some order_text) (Some initial) (Some old) (Some new) kept = λ written at begins.
    (let e : [] ≡ codes "yes" ++ begins.0 = sym (none_added old written (sym kept ∙ at)) ∙ begins.1 in nothing_begins begins.0 e)
says_kept profile (Some text) (Some order_text) (Some initial) (Some old) None kept = tt
says_kept profile (Some text) (Some order_text) (Some initial) None new kept = tt
says_kept profile (Some text) (Some order_text) None old new kept = tt
says_kept profile (Some text) None initial old new kept = tt
says_kept profile None order initial old new kept = tt

pub says_nothing : (profile : Profile) (capture order : Option (List ℕ)) (initial : Option Start) (old : Option (List ℕ)) → SaysYes profile capture order initial old old
says_nothing profile capture order initial None = says_kept profile capture order initial None None tt
says_nothing profile capture order initial (Some old) = says_kept profile capture order initial (Some old) (Some old) refl

-- a verdict's line was written, or was to be written
pub says_written : (profile : Profile) (capture order : Option (List ℕ)) (initial : Option Start) (old new : Option (List ℕ)) (v : Verdict) (o : Result Bool RunFault) → IsVerdictOn profile capture order initial v →
    OnOk o (Appends old new (line v)) → IfErr o (λ fault. (fault ≡ Write) × AppendsPrefix old new (line v) ⊎ (fault ≡ Memory) × Keeps old new) → SaysYes profile capture order initial old new
says_written profile capture order initial old new v (Ok answered) is written left = says_line profile capture order initial old new v is written
says_written profile capture order initial old new v (Err fault) is written (inl e) = says_prefix profile capture order initial old new v is e.1
says_written profile capture order initial old new v (Err fault) is written (inr e) = says_kept profile capture order initial old new e.1

-- the two names of a yes
yes_of : (v : Verdict) → IsYes v ↔ judge.SaysYes v
yes_of (Yes a b c) = ((λ y. tt), λ y. tt)
yes_of (Wire at fault) = ((λ y. absurd y), λ y. absurd y)
yes_of (Image image size) = ((λ y. absurd y), λ y. absurd y)
yes_of (Order entry fault) = ((λ y. absurd y), λ y. absurd y)
yes_of (Content request offset) = ((λ y. absurd y), λ y. absurd y)
yes_of (Status request offset) = ((λ y. absurd y), λ y. absurd y)

answered : (profile : Profile) (capture order : Option (List ℕ)) (initial : Option Start) (says : Bool) (v : Verdict) → IsVerdictOn profile capture order initial v → IsTrue says ↔ IsYes v → AnswersExactly profile capture order initial says
answered profile (Some text) (Some order_text) (Some initial) says v is same =
    (let exact : judge.SaysYes v ↔ IsExplainedOf profile (flat_of is.0) is.1 initial = answers_exactly {E = RunFault} profile (flat_of is.0) is.1 initial (Ok v) is.4 in
    (is.0, is.1, is.2, is.3, ((λ t. exact.0 ((yes_of v).0 (same.0 t))), λ x. same.1 ((yes_of v).1 (exact.1 x)))))
answered profile None order initial says v is same = tt
answered profile (Some text) None initial says v is same = tt
answered profile (Some text) (Some order_text) None says v is same = tt

-- what was answered with a line is so exactly
pub answers_so : (P : Option Start → Type 0) (profile : Profile) (capture order : Option (List ℕ)) (old new : Option (List ℕ)) (o : Result Bool RunFault) → IfOk o (λ yes. (initial : Option Start) → P initial → Tells profile capture order initial yes old new)
    → IfOk o (λ yes. (initial : Option Start) → P initial → AnswersExactly profile capture order initial yes)
answers_so P profile capture order old new (Ok says) tells = λ initial is. (let told : Tells profile capture order initial says old new = tells initial is in answered profile capture order initial says told.verdict told.is_verdict told.answer)
answers_so P profile capture order old new (Err fault) tells = tt
