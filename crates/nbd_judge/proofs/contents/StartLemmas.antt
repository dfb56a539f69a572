-- A verdict depends on the bytes at first only below the export's size.
use Rattle.nbd_judge.proofs.Common.{◌≡◌, ℕ, ◌+◌, ◌<◌, ◌≤◌, List, refl, sym, ◌∙◌, ap, arith, Option, Some, None, Result, Ok, Err, IfOk, take, subst, inl, inr, ◌⊎◌, and_parts, Profile, Entry, Part, in_part, is_in, Effect, IsWrong, IsWrongIn, effect, effects, last_touch, byte_or_start, byte_before, FitsImage, Start, start_byte, Asked, Report, asked_at, Exporting, AreSameBelow, IsSoundReport, size_and_flags, Verdict, given_length, initial_of, size_of, HasWrongFrom, IsJudged, IsVerdict, FirstWrongFrom, option_map}
use Rattle.nbd_judge.proofs.{contents.CompareLemmas.{from_in, wrong_of}, orders.FirstLemmas.first_of, verdicts.SoundLemmas.servable}
use Rattle.nbd_wire.specs.declared.commands.TheConstants as commands
use Rattle.nbd_wire.specs.Prelude.{Held}
use Rattle.nbd_export.specs.Starts as contents
use Rattle.nbd_export.specs.declared.start.Start as contents_start
use Rattle.nbd_export.specs.declared.start.Start.TheVariants as contents_starts
use Rattle.nbd_wire.specs.declared.verdict.Verdict.TheVariants as verdict
use Rattle.std.specs.Prelude.{[], ◌∷◌, zero, suc, map, slice_get, unwrap_or}
use Rattle.std.proofs.lemmas.List.{length-map}
use Rattle.nbd_export.specs.Extents.{byte_of, size_of as extent_size}
use Rattle.nbd_export.proofs.HeldLemmas.{length-held_from, slice_get-held_from}

request_of : (o : Option Asked) (e : Effect) → (option_map effect) o ≡ Some e → (a : Asked) × (o ≡ Some a) × (effect a ≡ e)
request_of None e h = absurd (cc)
request_of (Some a) e h = (a, refl, cc)

pub left_same : (l : Option Effect) (f g : ℕ → Option ℕ) (x : ℕ) → f x ≡ g x → byte_or_start l f x ≡ byte_or_start l g x
left_same l f g x e = grind arith

-- a wrong byte stays one where what was known there still is
there_too : (p : Option Part) (e : Effect) (byte other : ℕ → Option ℕ) (x : ℕ) → IsWrongIn p e byte x → ((b : ℕ) → byte x ≡ Some b → other x ≡ Some b) → IsWrongIn p e other x
there_too p e byte other x w more = (w.0, w.1, w.2, (w.3.0, more w.3.0 w.3.1, w.3.2))

-- a byte that was known at first is known as the same
known_more : (l : Option Effect) (f g : ℕ → Option ℕ) (x b : ℕ) → (f x ≡ Some b → g x ≡ Some b) → byte_or_start l f x ≡ Some b → byte_or_start l g x ≡ Some b
known_more l f g x b more e = grind arith

module _ (r : Report) (sound : IsSoundReport r) (order : List Entry) (f g : ℕ → Option ℕ) where
  -- where more is known below the export's size, what was wrong is wrong
  pub wrong_more : ((x b : ℕ) → x < size_of r.export → f x ≡ Some b → g x ≡ Some b) → (i x : ℕ) → IsWrong (effects r) order f i x → IsWrong (effects r) order g i x
  wrong_more more i x v =
      let entry = v.0 in
      let w = v.2 in
      let a = request_of (asked_at entry.request r.asked) w.0 w.1 in
      let served = servable r sound entry.request a.0 a.1 in
      let t = wrong_of entry.part w.0 (byte_before (effects r) order f i) x w.2 in
      let reads : (a.0.command ≡ commands.READ) ⊎ (a.0.command ≡ commands.BLOCK_STATUS) = elim t.0 [ inl c ↦ inl (ap (λ (e : Effect). e.command) a.2 ∙ c) | inr c ↦ inr (ap (λ (e : Effect). e.command) a.2 ∙ c) ] in
      let well = ap (λ (e : Effect). e.succeeded) a.2 ∙ t.1 in
      let end : a.0.offset + a.0.length ≤ size_of r.export = served.read_inside reads well in
      let lies = from_in w.0.offset w.0.length x (and_parts (is_in w.0.offset w.0.length x) (in_part entry.part x) t.2).0 in
      let hi : x < w.0.offset + w.0.length = lies.1 in
      let offset : a.0.offset ≡ w.0.offset = ap (λ (e : Effect). e.offset) a.2 in
      let len : a.0.length ≡ w.0.length = ap (λ (e : Effect). e.length) a.2 in
      let inside : x < size_of r.export = omega arith in (
        entry,
        v.1,
        (
          w.0,
          w.1,
          there_too entry.part w.0 (byte_before (effects r) order f i) (byte_before (effects r) order g i) x w.2
              (λ b. known_more (last_touch (effects r) x (take i order)) f g x b (more x b inside)),
        ),
      )

module _ (r : Report) (sound : IsSoundReport r) (order : List Entry) (f g : ℕ → Option ℕ) (same : AreSameBelow (size_of r.export) f g) where
  wrong_same : (i x : ℕ) → IsWrong (effects r) order f i x → IsWrong (effects r) order g i x
  wrong_same = wrong_more r sound order f g (λ x b inside e. sym (same x inside) ∙ e)

  has_wrong_same : (i : ℕ) → HasWrongFrom r order f i → HasWrongFrom r order g i
  has_wrong_same i h = (h.0, wrong_same i h.0 h.1)

first_same : (r : Report) → IsSoundReport r → (order : List Entry) (f g : ℕ → Option ℕ) → AreSameBelow (size_of r.export) f g → (k x : ℕ) → FirstWrongFrom r order f k x → FirstWrongFrom r order g k x
first_same r sound order f g same k x h = (
  h.0,
  h.1,
  h.2,
  h.3,
  first_of {P = HasWrongFrom r order f} {Q = HasWrongFrom r order g} h.0 (has_wrong_same r sound order f g same) (has_wrong_same r sound order g f (λ y l. sym (same y l))) h.4,
  first_of {P = IsWrong (effects r) order f h.0} {Q = IsWrong (effects r) order g h.0} x (wrong_same r sound order f g same h.0) (wrong_same r sound order g f (λ y l. sym (same y l)) h.0) h.5,
)

pub judged_same : (profile : Profile) (r : Report) → IsSoundReport r → (order : List Entry) (f g : ℕ → Option ℕ) → AreSameBelow (size_of r.export) f g → (v : Verdict) → IsJudged profile r order f v → IsJudged profile r order g v
judged_same profile r sound order f g same (verdict.Yes a b c) h =
    (h.0, (λ i x w. h.1 i x (wrong_same r sound order g f (λ y l. sym (same y l)) i x w)), h.2, h.3, h.4)
judged_same profile r sound order f g same (verdict.Content k x) h = (h.0, (first_same r sound order f g same k x h.1.0, h.1.1))
judged_same profile r sound order f g same (verdict.Status k x) h = (h.0, (first_same r sound order f g same k x h.1.0, h.1.1))
judged_same profile r sound order f g same v h = h

-- a judgement is the verdict, where the start fits
fitting : (profile : Profile) (r : Report) (order : List Entry) (start : Start) → FitsImage r.export start → (v : Verdict) → IsJudged profile r order (start_byte start) v → IsVerdict profile r order start v
fitting profile r order start fits (verdict.Wire at fault) h = h
fitting profile r order start fits (verdict.Image i s) h = absurd h
fitting profile r order start fits v h = (fits, h)

pub report_of_conclusion : {E : Type 0} (profile : Profile) (r : Report) → IsSoundReport r → (order : List Entry) (f : ℕ → Option ℕ) (start : Start) → FitsImage r.export start → AreSameBelow (size_of r.export) f (start_byte start)
    → (o : Result Verdict E) → IfOk o (IsJudged profile r order f) → IfOk o (IsVerdict profile r order start)
report_of_conclusion profile r sound order f start fits same (Ok v) h = fitting profile r order start fits v (judged_same profile r sound order f (start_byte start) same v h)
report_of_conclusion profile r sound order f start fits same (Err e) h = h

-- the export of a transcript that states its size
pub exporting_of : (o : Option Exporting) (size flags : ℕ) → Some (size, flags) ≡ size_and_flags o → (e : Exporting) × (o ≡ Some e) × (e.size ≡ size)
exporting_of None size flags h = absurd (let q : Some (size, flags) ≡ None = h in (cc))
exporting_of (Some e) size flags h = (e, refl, (let q : Some (size, flags) ≡ Some (e.size, e.flags) = h in let p : (size, flags) ≡ (e.size, e.flags) = cc in sym (ap (λ (s : ℕ × ℕ). s.0) p)))

pub no_export : (o : Option Exporting) → None ≡ size_and_flags o → o ≡ None
no_export None h = refl
no_export (Some e) h = absurd (let q : None ≡ Some (e.size, e.flags) = h in (cc))

pub image_fits : (o : Option Exporting) (size : ℕ) (start : Start) → size_of o ≡ size → ((n : ℕ) → given_length start ≡ Some n → n ≡ size) → FitsImage o start
image_fits (Some export) size (Held bytes) e h = h _ refl ∙ sym e
image_fits o size start e h = tt

-- a start whose size is that of the export, where it has one, fits it
pub start_fits : (size : ℕ) (start : contents_start.Start) → ((n : ℕ) → given_length (initial_of start) ≡ Some n → n ≡ size) → contents.FitsSize size start
start_fits size contents_starts.Unknown h = tt
start_fits size contents_starts.Zeroes h = tt
start_fits size (contents_starts.Image image) h = sym (length-map image.value.items Some) ∙ h _ refl
start_fits size (contents_starts.Contents given) h = sym (length-held_from (byte_of given.value) 0 (extent_size given.value)) ∙ h _ refl

-- a byte of an image is known
pub known_byte : (bytes : List ℕ) (x : ℕ) → slice_get bytes x ≡ unwrap_or (slice_get (map Some bytes) x) None
known_byte [] x = refl
known_byte (b ∷ bytes) zero = refl
known_byte (b ∷ bytes) (suc x) = known_byte bytes x

-- the byte at first of the program's start is that of the definitions'
pub same_start : (size : ℕ) (start : contents_start.Start) → contents.FitsSize size start → AreSameBelow size (contents.start_byte start) (start_byte (initial_of start))
same_start size contents_starts.Unknown fits x l = refl
same_start size contents_starts.Zeroes fits x l = refl
same_start size (contents_starts.Image image) fits x l = known_byte image.value.items x
same_start size (contents_starts.Contents given) fits x l =
    let at : x ≡ 0 + x = omega arith in
    ap (byte_of given.value) at ∙ ap (λ o. unwrap_or o None) (sym (slice_get-held_from (byte_of given.value) 0 (extent_size given.value) x (subst (λ n. x < n) (sym fits) l)))
