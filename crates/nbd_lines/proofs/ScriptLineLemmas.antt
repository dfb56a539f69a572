-- The forms of a script's line, taken apart, and the faults of one line as faults of the whole text.
use Rattle.nbd_lines.proofs.Common.{◌≡◌, ℕ, ◌+◌, ◌⊎◌, inl, inr, List, [], ◌∷◌, ◌++◌, refl, sym, ap, ◌∙◌, subst, Result, IfErr, arith, get_or, length, slice_index, ◌<◌, ◌≤◌, Bool, true, nat_eq, IsTrue, pointwise, IsErr, MatchResult, codes, eq-eqb, Message, FitsItsHead, hash, line_feed, IsUnbroken, Progress, stopped, IsFunctional, no_reading, ScriptFault, Line, Memory, IsScriptFault, IsMessageLine, IsFirstBadScriptLine, IsScript, IsScriptLine, blank, comment, ok, IsLineFault}
use Rattle.nbd_lines.proofs.MessageLineLemmas.{one_message}
use Rattle.std.specs.Cmp.Lexicographic.{same_text}

-- a line that stands for no message
abbrev pub IsSilent : List ℕ → Type 0
IsSilent line = (line ≡ []) ⊎ ((anything : List ℕ) × (line ≡ hash ∷ anything)) ⊎ (line ≡ codes "ok")

-- a line that stands for a message
pub record Tells (line : List ℕ) (said : List Message) : Type 0 where
  pub told : Message
  pub is_line : IsMessageLine line told
  pub fits : FitsItsHead told
  pub all : said ≡ told ∷ []

pub forms : (line : List ℕ) (said : List Message) → IsScriptLine line said → (IsSilent line × (said ≡ [])) ⊎ Tells line said
forms line said h = grind arith

apart : (n : ℕ) → (n ≡ 0) ⊎ (n ≡ 35) ⊎ (n ≡ 111) → (n ≡ 67) ⊎ (n ≡ 83) → ⊥
apart n a b = omega arith

pub silent_tells : (line : List ℕ) (m : Message) → IsSilent line → IsMessageLine line m → ⊥
silent_tells line m s h = grind (arith, apart)

pub is_silent : (line : List ℕ) → IsScriptLine line [] → IsSilent line
is_silent line f = grind (arith, forms)

-- a line of a script stands for one list of messages
pub one_saying : IsFunctional IsScriptLine
one_saying line a b fa fb =
    elim (forms line a fa) [
      | inl silent ↦
          elim (forms line b fb) [
            | inl other ↦ silent.1 ∙ sym other.1
            | inr tells ↦ absurd (silent_tells line tells.told silent.0 tells.is_line)
          ]
      | inr tells ↦
          elim (forms line b fb) [
            | inl other ↦ absurd (silent_tells line tells.told other.0 tells.is_line)
            | inr second ↦ tells.all ∙ ap (λ m. m ∷ []) (one_message line tells.told second.told tells.is_line second.is_line) ∙ sym second.all
          ]
    ]

-- a line that is not silent and is no message's line is malformed
pub formless_line : (line : List ℕ) → (IsScriptLine line [] → ⊥) → ((m : Message) → IsMessageLine line m → FitsItsHead m → ⊥) → (said : List Message) → IsScriptLine line said → ⊥
formless_line line loud none said f = grind (arith, forms)

pub stopped_script : (text rest bytes behind : List ℕ) (messages : List Message) (number : ℕ) (fault : ScriptFault)
    → Progress IsScriptLine text rest messages number → IsUnbroken bytes → rest ≡ bytes ++ line_feed ∷ behind
    → IsLineFault bytes (number + 1) fault → IsScriptFault text fault
stopped_script text rest bytes behind messages number (Line n) past u whole h =
    subst (λ m. IsFirstBadScriptLine text m) (sym h.0) (stopped IsScriptLine text rest bytes behind messages number past u whole h.1)
stopped_script text rest bytes behind messages number Memory past u whole h = tt

-- where the text has a reading, the only fault is out of memory
pub only_memory : {T : Type 0} (text : List ℕ) (r : Result T ScriptFault) (P : List Message → T → Type 0) → IsErr r → IfErr r (IsScriptFault text)
    → (messages : List Message) → IsScript text messages → MatchResult r (P messages) (λ e. e ≡ Memory)
only_memory text r P failed h messages read = grind (arith, no_reading)

-- an empty line is silent, and one that begins with `#`
pub silent_nil : (line : List ℕ) → length line < 1 → (IsTrue true → IsScriptLine line []) × (IsScriptLine line [] → IsTrue true)
silent_nil [] e = (λ _. blank, λ _. refl)
silent_nil (b ∷ bs) e = absurd (omega arith)

pub silent_hash : (line : List ℕ) → 1 ≤ length line → slice_index line 0 ≡ hash
    → (IsTrue (nat_eq (slice_index line 0) hash) → IsScriptLine line []) × (IsScriptLine line [] → IsTrue (nat_eq (slice_index line 0) hash))
silent_hash [] e h = absurd (omega arith)
silent_hash (b ∷ bs) e h = (λ _. subst (λ x. IsScriptLine (x ∷ bs) []) (sym h) (comment bs), λ _. eq-eqb b hash h)

-- any other line is silent where it is `ok`
pub silent_ok : (line : List ℕ) (r : Bool) → 1 ≤ length line → (slice_index line 0 ≡ hash → ⊥) → r ≡ pointwise nat_eq line (codes "ok") → (IsTrue r → IsScriptLine line []) × (IsScriptLine line [] → IsTrue r)
silent_ok [] r e n h = absurd (omega arith)
silent_ok (b ∷ bs) r e n h = (
  λ t. let same : b ∷ bs ≡ codes "ok" = same_text (b ∷ bs) (codes "ok") (sym t ∙ h) in subst (λ l. IsScriptLine l []) (sym same) ok,
  λ f. elim (is_silent (b ∷ bs) f) [
    | inl none ↦ absurd (cc none)
    | inr other ↦ elim other [
      | inl remark ↦ absurd (n (ap (λ l. get_or l 0 0) remark.1))
      | inr o ↦ h ∙ ap (λ l. pointwise nat_eq l (codes "ok")) o
    ]
  ],
)
