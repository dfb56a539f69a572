-- Changes that no reply has finished, request by request.
use Rattle.nbd_order.proofs.Common.{◌≡◌, ℕ, List, ◌∷◌, sym, ap, ◌∙◌, Option, Some, None, arith, subst, drop, take, inl, inr}
use Rattle.std.specs.Prelude.{◌+◌, ◌<◌, ◌≤◌, ◌||◌, suc, true, false, length, slice_get, if◌then◌else◌, Result, Ok, Err, IfOk}
use Rattle.std.proofs.{Math.Seq.drop-cons, lemmas.Option.{get_or_from_slice_get, slice_get_cases, slice_get_within}}
use Rattle.nbd_wire.specs.{declared.{entry.Entry.Entry, profile.Profile.Profile}, Prelude.{effects, last_touch, FitsImage, Start, start_byte, Exporting, Asked, Report, asked_at}}
use Rattle.nbd_export.specs.{declared.extents.Extents.Extents, Extents.{byte_of, size_of}, Held.{held, held_from}, Ranges.{AreSameBelow, overlay, unknown}}
use Rattle.nbd_export.proofs.HeldLemmas.{held_from-same}
use Rattle.nbd_laws.specs.Soundness.{IsSoundReport}
use Rattle.nbd_judge.specs.Beginnings.{size_of as export_size}
use Rattle.nbd_judge.proofs.contents.StartLemmas.{left_same, report_of_conclusion}
use Rattle.nbd_order.specs.{declared.leaving.Left.{Left, TheVariants.{Contents, NoExport, Refused}}, Leaving.{IsLeft, IsLeftOn, are_open_at, forgotten, is_open, is_open_at, left}}

pub drop_next : {A : Type 0} (xs : List A) (i : ℕ) (a : A) → slice_get xs i ≡ Some a → drop i xs ≡ a ∷ drop (i + 1) xs
drop_next xs i a at = (let l = slice_get_within xs i a at in grind (arith, drop-cons xs i a, get_or_from_slice_get xs i a a at))

-- request i is left to be looked at
module _ (asked : List Asked) (i : ℕ) (a : Asked) (at : slice_get asked i ≡ Some a) (x : ℕ) (old new : ℕ → Option ℕ) where
  next : forgotten (drop i asked) old x ≡ (if is_open_at x a || are_open_at (drop (i + 1) asked) x then None else old x)
  next = ap (λ l. forgotten l old x) (drop_next asked i a at)

  -- it is open
  pub step_open : is_open a ≡ true → new x ≡ overlay a.offset a.length unknown old x → forgotten (drop (i + 1) asked) new x ≡ forgotten (drop i asked) old x
  step_open so same = (let e = next in grind arith)

  -- it is not
  pub step_closed : is_open a ≡ false → new x ≡ old x → forgotten (drop (i + 1) asked) new x ≡ forgotten (drop i asked) old x
  step_closed closed same = (let e = next in grind arith)

pub at_next : (asked : List Asked) (i : ℕ) → asked_at (i + 1) asked ≡ slice_get asked i
at_next asked i = let e : i + 1 ≡ suc i = omega arith in ap (λ n. asked_at n asked) e

-- each of so many requests is there
pub none_missing : {P : Type 0} (asked : List Asked) (i n : ℕ) → i < n → n ≡ length asked → None ≡ asked_at (i + 1) asked → P
none_missing asked i n l count none = elim (slice_get_cases asked i).1 [
  | inl some ↦ absurd (cc (at_next asked i, some.2))
  | inr past ↦ absurd (let m : length asked ≤ i = past.0 in omega (arith, l, count, m))
]

-- what is held, where the bytes behind the order were forgotten where a change is open
pub left_held : (asked : List Asked) (e : Extents) (mid behind : ℕ → Option ℕ) (m size : ℕ) → size_of e ≡ m → m ≡ size → AreSameBelow m (byte_of e) (forgotten asked mid) → AreSameBelow size mid behind
    → held e ≡ held_from (forgotten asked behind) 0 size
left_held asked e mid behind m size a b same bytes =
    ap (held_from (byte_of e) 0) (a ∙ b)
    ∙ held_from-same (byte_of e) (forgotten asked behind) 0 size
    (λ x lo hi. let l : x < size = omega arith in
    same x (subst (λ (n : ℕ). x < n) (sym b) l) ∙ ap (λ byte. if are_open_at asked x then None else byte) (bytes x l))

-- what is left depends on the bytes at first only below the export's size
pub left_of_start : {E : Type 0} (profile : Profile) (r : Report) → IsSoundReport r → (order : List Entry) (initial : Start) (f : ℕ → Option ℕ) (n : ℕ) (export : Exporting) → r.export ≡ Some export → export.size ≡ n
    → FitsImage r.export initial → AreSameBelow n f (start_byte initial) → (o : Result Left E) → IfOk o (IsLeftOn profile r order n f) → IfOk o (IsLeft profile r order initial)
left_of_start profile r sound order initial f n export is sized fits same (Err e) h = tt
left_of_start profile r sound order initial f n export is sized fits same (Ok NoExport) h = absurd h
left_of_start {E} profile r sound order initial f n export is sized fits same (Ok (Refused v)) h =
    let below : export_size r.export ≡ n = ap export_size is ∙ sized in
    (report_of_conclusion {E = E} profile r sound order f initial fits (λ x l. same x (subst (λ (k : ℕ). x < k) below l)) (Ok v) h.0, h.1)
left_of_start {E} profile r sound order initial f n export is sized fits same (Ok (Contents contents)) h =
    let below : export_size r.export ≡ n = ap export_size is ∙ sized in (
      (h.0.0, report_of_conclusion {E = E} profile r sound order f initial fits (λ x l. same x (subst (λ (k : ℕ). x < k) below l)) (Ok h.0.0) h.0.1, h.0.2),
      (
        export,
        is,
        h.1 ∙ held_from-same (left r order f) (left r order (start_byte initial)) 0 n
            (λ x lo hi. ap (λ byte. if are_open_at r.asked x then None else byte) (left_same (last_touch (effects r) x (take (length order) order)) f (start_byte initial) x (same x (omega arith))))
            ∙ ap (held_from (left r order (start_byte initial)) 0) (sym sized),
      ),
    )
