-- Tests that decide by computing whether a byte is wrong.
use Rattle.nbd_laws.proofs.Common.{arith, and_parts, ◌≡◌, ℕ, ◌==◌, ◌&&◌, ◌||◌, not, List, [], ◌∷◌, sym, ◌∙◌, ap, subst, Option, Some, None, Bool, true, false, IsTrue, eqb-true, eq-eqb, zero, suc, ◌++◌, take, slice_get, append_assoc, append-nil, inl, inr, eqb-false, Entry, Part, in_part, Differs, GivesByte, Effect, IsWrong, IsWrongIn, IsWrongOf, byte_before, byte_or_start, last_touch, serves, is_in}
use Rattle.nbd_laws.proofs.worked.DecidingLemmas.{all_at, all_in, in_range, then_too}
use Rattle.nbd_wire.specs.declared.commands.TheConstants as commands

-- the read gives the known byte
abbrev pub agrees : (byte read : Option ℕ) → Bool
agrees None read = true
agrees (Some b) (Some c) = c == b
agrees (Some b) None = false

pub true_agrees : (byte read : Option ℕ) (b : ℕ) → IsTrue (agrees byte read) → byte ≡ Some b → (read ≡ Some b → ⊥) → ⊥
true_agrees byte read b h e ne = grind (arith, eqb-true)

-- what is told is the known byte, if both are there
abbrev pub tells_true : (byte told : Option ℕ) → Bool
tells_true (Some b) (Some c) = c == b
tells_true (Some b) None = true
tells_true None told = true

abbrev pub reads_right : Option Part → (byte : ℕ → Option ℕ) → Option Effect → Bool
reads_right p byte (Some e) =
    (not ((e.command == commands.READ) && e.succeeded) || all_in e.offset e.length (λ x. not (in_part p x) || agrees (byte x) (e.read x)))
    && (not ((e.command == commands.BLOCK_STATUS) && e.succeeded) || all_in e.offset e.length (λ x. not (in_part p x) || tells_true (byte x) (e.read x)))
reads_right p byte None = true

-- the export's byte at x after these entries
abbrev pub byte_after : (ℕ → Option Effect) → (ℕ → Option ℕ) → List Entry → ℕ → Option ℕ
byte_after requests initial before x = byte_or_start (last_touch requests x before) initial x

-- each entry after these passes the test
abbrev pub all_right : (requests : ℕ → Option Effect) (initial : ℕ → Option ℕ) (before order : List Entry) → Bool
all_right requests initial before [] = true
all_right requests initial before (e ∷ order) =
    reads_right e.part (byte_after requests initial before) (requests e.request) && all_right requests initial (before ++ e ∷ []) order

pub right : (p : Option Part) (byte : ℕ → Option ℕ) (o : Option Effect) (e : Effect) (x : ℕ) → IsTrue (reads_right p byte o) → o ≡ Some e → IsWrongIn p e byte x → ⊥
right p byte None e x h q w = absurd (cc)
right p byte (Some d) e x h q w = let s : d ≡ e = cc in let w' : IsWrongIn p d byte x = subst (λ y. IsWrongIn p y byte x) (sym s) w in go w'.0 w'.1 (and_parts (is_in d.offset d.length x) (in_part p x) w'.2) w'.3
  where
    go : GivesByte d x → d.succeeded ≡ true → IsTrue (is_in d.offset d.length x) × IsTrue (in_part p x) → Differs byte d.read x → ⊥
    go (inl c) well at w =
        let all = then_too ((d.command == commands.READ) && d.succeeded) _ (and_parts _ _ h).0 (ap (λ b. b && d.succeeded) (eq-eqb d.command commands.READ c) ∙ well) in
        let r = in_range d.offset d.length x at.0 in
        let here = then_too (in_part p x) (agrees (byte x) (d.read x)) (all_at d.offset d.length (λ x. not (in_part p x) || agrees (byte x) (d.read x)) all x r.0 r.1) at.1 in
        true_agrees (byte x) (d.read x) w.0 here w.1 w.2
    go (inr c) well at w =
        let all = then_too ((d.command == commands.BLOCK_STATUS) && d.succeeded) _ (and_parts _ _ h).1 (ap (λ b. b && d.succeeded) (eq-eqb d.command commands.BLOCK_STATUS c.0) ∙ well) in
        let r = in_range d.offset d.length x at.0 in
        let here = then_too (in_part p x) (tells_true (byte x) (d.read x)) (all_at d.offset d.length (λ x. not (in_part p x) || tells_true (byte x) (d.read x)) all x r.0 r.1) at.1 in
        (grind (arith, eqb-true))

none_wrong_after : (requests : ℕ → Option Effect) (initial : ℕ → Option ℕ) (before order : List Entry) → IsTrue (all_right requests initial before order) → (i x : ℕ) (entry : Entry) →
    slice_get order i ≡ Some entry → IsWrongOf requests entry (byte_after requests initial (before ++ take i order)) x → ⊥
none_wrong_after requests initial before [] h i x entry at w = absurd (cc)
none_wrong_after requests initial before (e ∷ order) h zero x entry at w =
    let a = and_parts (reads_right e.part (byte_after requests initial before) (requests e.request)) _ h in
    let s : e ≡ entry = cc in
    let w' : IsWrongOf requests e (byte_after requests initial before) x =
    subst (λ l. IsWrongOf requests e (byte_after requests initial l) x) (append-nil before) (subst (λ y. IsWrongOf requests y (byte_after requests initial (before ++ [])) x) (sym s) w) in
    right e.part (byte_after requests initial before) (requests e.request) w'.0 x a.0 w'.1 w'.2
none_wrong_after requests initial before (e ∷ order) h (suc i) x entry at w =
    let a = and_parts (reads_right e.part (byte_after requests initial before) (requests e.request)) _ h in
    none_wrong_after requests initial (before ++ e ∷ []) order a.1 i x entry at
    (subst (λ l. IsWrongOf requests entry (byte_after requests initial l) x) (sym (append_assoc before (e ∷ []) (take i order))) w)

-- where each entry of the order passes the test, no byte is wrong
pub none_wrong : (requests : ℕ → Option Effect) (order : List Entry) (initial : ℕ → Option ℕ) → IsTrue (all_right requests initial [] order) → (i x : ℕ) → IsWrong requests order initial i x → ⊥
none_wrong requests order initial h i x w = none_wrong_after requests initial [] order h i x w.0 w.1 w.2

-- the read gives another byte than the known one
abbrev pub differ : (byte read : Option ℕ) → Bool
differ None read = false
differ (Some b) (Some c) = not (c == b)
differ (Some b) None = true

abbrev pub is_wrong_in : Option Part → (byte : ℕ → Option ℕ) → ℕ → Option Effect → Bool
is_wrong_in p byte x (Some e) = (e.command == commands.READ) && (e.succeeded && (serves p e x && differ (byte x) (e.read x)))
is_wrong_in p byte x None = false

abbrev pub is_wrong_at : (requests : ℕ → Option Effect) (byte : ℕ → Option ℕ) → ℕ → Option Entry → Bool
is_wrong_at requests byte x (Some entry) = is_wrong_in entry.part byte x (requests entry.request)
is_wrong_at requests byte x None = false

-- a byte that passes this test is wrong
pub wrong : (requests : ℕ → Option Effect) (order : List Entry) (initial : ℕ → Option ℕ) (i x : ℕ) → IsTrue (is_wrong_at requests (byte_before requests order initial i) x (slice_get order i)) → IsWrong requests order initial i x
wrong requests order initial i x h = grind (arith, and_parts, eqb-true, eqb-false)
