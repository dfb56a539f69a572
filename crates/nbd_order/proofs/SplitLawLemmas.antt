-- A session in two parts is judged as the two are, one after the other.
use Rattle.nbd_order.proofs.Common.{◌≡◌, ℕ, zero, suc, ◌+◌, ◌<◌, ◌≤◌, List, [], ◌∷◌, length, refl, sym, ap, subst, ◌∙◌, Option, Some, None, arith, take, slice_get, cases_lt, inl, inr, if◌then◌else◌, slice_get_within, Profile, Entry, Item, FitsImage, Start, start_byte, Effect, IsWrong, byte_before, byte_or_start, effects, last_touch, later, touch_of, Exporting, Report, due_in, inside_in, report, Passes, ExplainedPasses, PassingIsExplained, size_of}
use Rattle.nbd_order.proofs.{ChainLemmas.{left_behind, take_whole}, SplitLemmas.{AreParts, are_parts}, SplitOrderLemmas.{AreLow, AreNamed, Each, in_parts, in_whole, low_of_fine, named_of_fine, parted}, TouchLemmas.{later_later, later_none}}
use Rattle.std.specs.{Prelude.{◌++◌, ◌-◌, unwrap_or}, Option.option_map}
use Rattle.std.proofs.{Math.Seq.take-append-add, lemmas.{List.{take-append-le, take-map}, Option.slice_get-map}}
use Rattle.nbd_wire.specs.Prelude.{IsWrongIn, IsWrongOf, IsExplainedOf, pairs}
use Rattle.nbd_export.proofs.HeldLemmas.{length-held_from, slice_get-held_from}
use Rattle.nbd_laws.proofs.service.{EntryLemmas.HasNoFault, IndexLemmas.{by_entries, by_index}}
use Rattle.nbd_laws.specs.Soundness.{ReportsAreSound}
use Rattle.nbd_judge.proofs.contents.{CompareLemmas.wrong_there, StartLemmas.{left_same, wrong_more}}
use Rattle.nbd_order.specs.{Leaving.{are_open_at, left}, Splits.{IsCut, IsExplainedInParts, SplitsAreExplained, SplitsLeaveTheSame, StandsAgain, behind, start_behind}}

touch_append : (requests : ℕ → Option Effect) (x : ℕ) (es fs : List Entry) → last_touch requests x (es ++ fs) ≡ later (last_touch requests x fs) (last_touch requests x es)
touch_append requests x [] fs = later_none (last_touch requests x fs)
touch_append requests x (e ∷ es) fs =
    ap (λ l. later l (touch_of e.part (requests e.request) x)) (touch_append requests x es fs)
    ∙ later_later (last_touch requests x fs) (last_touch requests x es) (touch_of e.part (requests e.request) x)

touch_low : (n : ℕ) (whole first : ℕ → Option Effect) → ((k : ℕ) → 0 < k → k ≤ n → whole k ≡ first k) → (x : ℕ) (es : List Entry) → AreLow n es → last_touch whole x es ≡ last_touch first x es
touch_low n whole first same x [] low = refl
touch_low n whole first same x (e ∷ es) low =
    ap (λ l. later l (touch_of e.part (whole e.request) x)) (touch_low n whole first same x es low.1)
    ∙ ap (λ o. later (last_touch first x es) (touch_of e.part o x)) (same e.request low.0.0 low.0.1)

touch_high : (n : ℕ) (whole second : ℕ → Option Effect) → ((k : ℕ) → 0 < k → whole (n + k) ≡ second k) → (x : ℕ) (es : List Entry) → AreNamed es → last_touch whole x (behind n es) ≡ last_touch second x es
touch_high n whole second same x [] named = refl
touch_high n whole second same x (e ∷ es) named =
    ap (λ l. later l (touch_of e.part (whole (n + e.request)) x)) (touch_high n whole second same x es named.1)
    ∙ ap (λ o. later (last_touch second x es) (touch_of e.part o x)) (same e.request named.0)

each_take : (P : ℕ → Type 0) (i : ℕ) (es : List Entry) → Each P es → Each P (take i es)
each_take P zero es each = tt
each_take P (suc i) [] each = tt
each_take P (suc i) (e ∷ es) each = (each.0, each_take P i es each.1)

each_at : (P : ℕ → Type 0) (i : ℕ) (es : List Entry) (e : Entry) → Each P es → slice_get es i ≡ Some e → P e.request
each_at P i [] e each at = absurd (cc)
each_at P zero (d ∷ es) e each at = (let q : d ≡ e = cc in subst (λ (y : Entry). P y.request) q each.0)
each_at P (suc i) (d ∷ es) e each at = each_at P i es e each.1 at

-- entries by their places in the two parts
at_left : (es fs : List Entry) (i : ℕ) → i < length es → slice_get (es ++ fs) i ≡ slice_get es i
at_left [] fs i l = absurd (omega (arith, l))
at_left (e ∷ es) fs zero l = refl
at_left (e ∷ es) fs (suc i) l = at_left es fs i (omega (arith, l))

at_right : (es fs : List Entry) (i : ℕ) → slice_get (es ++ fs) (length es + i) ≡ slice_get fs i
at_right [] fs i = ap (slice_get fs) (let q : 0 + i ≡ i = omega arith in q)
at_right (e ∷ es) fs i = ap (slice_get (e ∷ (es ++ fs))) (let q : suc (length es) + i ≡ suc (length es + i) = omega arith in q) ∙ at_right es fs i

at_moved : (n : ℕ) (es : List Entry) (i : ℕ) → slice_get (behind n es) i ≡ option_map (λ (e : Entry). record { request = n + e.request; part = e.part }) (slice_get es i)
at_moved n es i = slice_get-map (λ (e : Entry). record { request = n + e.request; part = e.part }) es i

from_moved : (n : ℕ) (es : List Entry) (i : ℕ) (f : Entry) → slice_get (behind n es) i ≡ Some f → (e : Entry) × (slice_get es i ≡ Some e) × (record { request = n + e.request; part = e.part } ≡ f)
from_moved n es i f at = go (slice_get es i) refl
  where
    go : (o : Option Entry) → slice_get es i ≡ o → (e : Entry) × (slice_get es i ≡ Some e) × (record { request = n + e.request; part = e.part } ≡ f)
    go (Some e) q = (e, q, cc (at_moved n es i))
    go None q = absurd (cc (at_moved n es i))

-- a wrong byte by other requests and bytes that are the same there
wrong_by : (requests others : ℕ → Option Effect) (entry : Entry) (byte other : ℕ → Option ℕ) (x : ℕ) → others entry.request ≡ requests entry.request → other x ≡ byte x → IsWrongOf requests entry byte x → IsWrongOf others entry other x
wrong_by requests others entry byte other x same there w = (w.0, same ∙ w.1, wrong_there entry.part w.0 byte other x w.2 there)

abbrev later_of : Option Effect → Option Effect → Option Effect
later_of = later

module _ (profile : Profile) (n : ℕ) (r r1 r2 : Report) (export : Exporting) (are : AreParts profile n r r1 r2 export) (earlier later : List Entry) (low : AreLow n earlier) (named : AreNamed later) (initial : ℕ → Option ℕ) where
  abbrev order : List Entry
  order = earlier ++ behind n later

  -- what the first part leaves, where nothing in it is open
  left_first : (x : ℕ) → left r1 earlier initial x ≡ byte_or_start (last_touch (effects r1) x earlier) initial x
  left_first x = ap (λ b. if b then None else byte_before (effects r1) earlier initial (length earlier) x) (are.none_open x) ∙ ap (λ l. byte_or_start (last_touch (effects r1) x l) initial x) (take_whole earlier)

  byte_first : (i x : ℕ) → i ≤ length earlier → byte_before (effects r) order initial i x ≡ byte_before (effects r1) earlier initial i x
  byte_first i x l = ap (λ t. byte_or_start (last_touch (effects r) x t) initial x) (take-append-le i earlier (behind n later) l) ∙ ap (λ t. byte_or_start t initial x) (touch_low n (effects r) (effects r1) are.effects_low x (take i earlier) (each_take _ i earlier low))

  byte_behind_first : (x : ℕ) (taken : List Entry) → AreNamed taken → byte_or_start (last_touch (effects r) x (earlier ++ behind n taken)) initial x ≡ byte_or_start (last_touch (effects r2) x taken) (left r1 earlier initial) x
  byte_behind_first x taken are_named =
      ap (λ t. byte_or_start t initial x) (touch_append (effects r) x earlier (behind n taken)
      ∙ ap (λ t. later_of t (last_touch (effects r) x earlier)) (touch_high n (effects r) (effects r2) are.effects_high x taken are_named)
      ∙ ap (λ t. later_of (last_touch (effects r2) x taken) t) (touch_low n (effects r) (effects r1) are.effects_low x earlier low))
      ∙ sym (left_behind (last_touch (effects r2) x taken) (last_touch (effects r1) x earlier) initial x)
      ∙ left_same (last_touch (effects r2) x taken) (λ y. byte_or_start (last_touch (effects r1) x earlier) initial y) (left r1 earlier initial) x (sym (left_first x))

  byte_second : (i x : ℕ) → byte_before (effects r) order initial (length earlier + i) x ≡ byte_before (effects r2) later (left r1 earlier initial) i x
  byte_second i x =
      ap (λ t. byte_or_start (last_touch (effects r) x t) initial x) (take-append-add earlier (behind n later) i ∙ ap (λ t. earlier ++ t) (take-map (λ (e : Entry). record { request = n + e.request; part = e.part }) i later))
      ∙ byte_behind_first x (take i later) (each_take _ i later named)

  pub wrong_first : (i x : ℕ) → IsWrong (effects r1) earlier initial i x → IsWrong (effects r) order initial i x
  wrong_first i x w =
      let l : i < length earlier = slice_get_within earlier i w.0 w.1 in
      let k = each_at _ i earlier w.0 low w.1 in
      (w.0, at_left earlier (behind n later) i l ∙ w.1, wrong_by (effects r1) (effects r) w.0 (byte_before (effects r1) earlier initial i) (byte_before (effects r) order initial i) x (are.effects_low w.0.request k.0 k.1) (byte_first i x (omega (arith, l))) w.2)

  pub wrong_second : (i x : ℕ) → IsWrong (effects r2) later (left r1 earlier initial) i x → IsWrong (effects r) order initial (length earlier + i) x
  wrong_second i x w = (
    record { request = n + w.0.request; part = w.0.part },
    at_right earlier (behind n later) i ∙ at_moved n later i ∙ ap (option_map (λ (e : Entry). record { request = n + e.request; part = e.part })) w.1,
    (
      w.2.0,
      are.effects_high w.0.request (each_at _ i later w.0 named w.1) ∙ w.2.1,
      wrong_there w.0.part w.2.0 (byte_before (effects r2) later (left r1 earlier initial) i) (byte_before (effects r) order initial (length earlier + i)) x w.2.2 (byte_second i x),
    ),
  )

  pub wrong_parts : ((i x : ℕ) → IsWrong (effects r1) earlier initial i x → ⊥) → ((i x : ℕ) → IsWrong (effects r2) later (left r1 earlier initial) i x → ⊥) → (i x : ℕ) → IsWrong (effects r) order initial i x → ⊥
  wrong_parts first second i x w = elim (cases_lt i (length earlier)) [
    | inl l ↦ (let at : slice_get earlier i ≡ Some w.0 = sym (at_left earlier (behind n later) i l) ∙ w.1 in
        let k = each_at _ i earlier w.0 low at in
        first i x (w.0, at, wrong_by (effects r) (effects r1) w.0 (byte_before (effects r) order initial i) (byte_before (effects r1) earlier initial i) x (sym (are.effects_low w.0.request k.0 k.1)) (sym (byte_first i x (omega (arith, l)))) w.2))
    | inr l ↦ (let j = i - length earlier in
        let same : i ≡ length earlier + j = omega (arith, l) in
        let at = from_moved n later j w.0 (sym (at_right earlier (behind n later) j) ∙ ap (slice_get order) (sym same) ∙ w.1) in
        let p = each_at _ j later at.0 named at.1 in
        let part : at.0.part ≡ w.0.part = ap (λ (y : Entry). y.part) at.2 in
        let number : n + at.0.request ≡ w.0.request = ap (λ (y : Entry). y.request) at.2 in
        let here = wrong_there w.0.part w.2.0 (byte_before (effects r) order initial i) (byte_before (effects r2) later (left r1 earlier initial) j) x w.2.2 (sym (ap (λ k. byte_before (effects r) order initial k x) same ∙ byte_second j x)) in
        second j x (at.0, at.1, (w.2.0, sym (are.effects_high at.0.request p) ∙ ap (effects r) number ∙ w.2.1, subst (λ q. IsWrongIn q w.2.0 (byte_before (effects r2) later (left r1 earlier initial) j) x) (sym part) here)))
  ]

  pub left_parts : (start : ℕ → Option ℕ) (x : ℕ) → start x ≡ left r1 earlier initial x → left r order initial x ≡ left r2 later start x
  left_parts start x same =
      ap (λ b. if b then None else byte_before (effects r) order initial (length order) x) (are.open_same x)
      ∙ ap (λ o. if are_open_at r2.asked x then None else o)
      (ap (λ t. byte_or_start (last_touch (effects r) x t) initial x) (take_whole order) ∙ byte_behind_first x later named
      ∙ left_same (last_touch (effects r2) x later) (left r1 earlier initial) start x (sym same) ∙ ap (λ t. byte_or_start (last_touch (effects r2) x t) start x) (sym (take_whole later)))

-- what the first part leaves, as a start
start_is : (r : Report) (order : List Entry) (initial : Start) (export : Exporting) → r.export ≡ Some export → (x : ℕ) → x < export.size → start_byte (start_behind r order initial) x ≡ left r order (start_byte initial) x
start_is r order initial export is x l =
    let size : size_of r.export ≡ export.size = ap size_of is in
    ap (λ o. unwrap_or o None) (slice_get-held_from (left r order (start_byte initial)) 0 (size_of r.export) x (omega (arith, l, size))) ∙ ap (left r order (start_byte initial)) (let q : 0 + x ≡ x = omega arith in q)

start_fits : (r : Report) (order : List Entry) (initial : Start) (other : Option Exporting) (export : Exporting) → r.export ≡ Some export → other ≡ Some export → FitsImage other (start_behind r order initial)
start_fits r order initial other export is same = subst (λ o. FitsImage o (start_behind r order initial)) (sym same) (length-held_from (left r order (start_byte initial)) 0 (size_of r.export) ∙ ap size_of is)

module _ (sound : ReportsAreSound) (passing : PassingIsExplained) (only : ExplainedPasses) (profile : Profile) (first rest negotiation again : List Item) (export : Exporting) (order : List Entry) (initial : Start)
    (cut : IsCut profile first rest export) (stands : StandsAgain profile first rest negotiation again) where
  abbrev whole : Report
  whole = report (first ++ rest)

  abbrev one : Report
  one = report first

  abbrev two : Report
  two = report (negotiation ++ again)

  abbrev n : ℕ
  n = length one.asked

  abbrev NoFault : Report → List Entry → Type 0
  NoFault r o = HasNoFault (length r.asked) (due_in profile r) (inside_in r) o

  are : AreParts profile n whole one two export
  are = are_parts profile first rest negotiation again export sound cut stands

  second_sound : (earlier later : List Entry) (i x : ℕ) → IsWrong (effects two) later (start_byte (start_behind one earlier initial)) i x → IsWrong (effects two) later (left one earlier (start_byte initial)) i x
  second_sound earlier later = wrong_more two (sound profile (negotiation ++ again) stands.is_run) later (start_byte (start_behind one earlier initial)) (left one earlier (start_byte initial))
      (λ y b inside e. sym (start_is one earlier initial export are.first_export y (subst (λ s. y < s) (ap size_of are.second_export) inside)) ∙ e)

  second_back : (earlier later : List Entry) (i x : ℕ) → IsWrong (effects two) later (left one earlier (start_byte initial)) i x → IsWrong (effects two) later (start_byte (start_behind one earlier initial)) i x
  second_back earlier later = wrong_more two (sound profile (negotiation ++ again) stands.is_run) later (left one earlier (start_byte initial)) (start_byte (start_behind one earlier initial))
      (λ y b inside e. start_is one earlier initial export are.first_export y (subst (λ s. y < s) (ap size_of are.second_export) inside) ∙ e)

  to : IsExplainedOf profile (pairs (first ++ rest)) order initial → IsExplainedInParts profile first (negotiation ++ again) order initial
  to explained =
      let p : Passes profile whole order initial = only profile (first ++ rest) order initial cut.goes_on explained in
      let h : HasNoFault (n + length two.asked) (due_in profile whole) (inside_in whole) order = subst (λ c. HasNoFault c (due_in profile whole) (inside_in whole) order) are.count (by_entries (due_in profile whole) (length whole.asked) (inside_in whole) order p.faultless) in
      let t = parted n (length two.asked) (due_in profile whole) (due_in profile one) (due_in profile two) (inside_in whole) (inside_in one) (inside_in two) are.due_low are.due_high are.in_low are.in_high are.met (n + length two.asked) [] order h.fine h.in_time in
      let s = in_parts n (length two.asked) (due_in profile whole) (due_in profile one) (due_in profile two) (inside_in whole) (inside_in one) (inside_in two) are.due_low are.due_high are.in_low are.in_high are.met order t.0 t.1 t.2 t.3 t.4 h in
      let reads : (i x : ℕ) → IsWrong (effects whole) (t.0 ++ behind n t.1) (start_byte initial) i x → ⊥ = subst (λ o. (i x : ℕ) → IsWrong (effects whole) o (start_byte initial) i x → ⊥) t.2 p.reads in
      record {
        earlier = t.0;
        later = t.1;
        parts = t.2;
        first_is = passing profile first t.0 initial cut.is_run record {
          faultless = by_index (due_in profile one) n (inside_in one) t.0 s.0;
          fits_image = subst (λ o. FitsImage o initial) (are.whole_export ∙ sym are.first_export) p.fits_image;
          reads = λ i x w. reads i x (wrong_first profile n whole one two export are t.0 t.1 t.3 t.4 (start_byte initial) i x w);
        };
        second_is = passing profile (negotiation ++ again) t.1 (start_behind one t.0 initial) stands.is_run record {
          faultless = by_index (due_in profile two) (length two.asked) (inside_in two) t.1 s.1;
          fits_image = start_fits one t.0 initial two.export export are.first_export are.second_export;
          reads = λ i x w. reads (length t.0 + i) x (wrong_second profile n whole one two export are t.0 t.1 t.3 t.4 (start_byte initial) i x (second_sound t.0 t.1 i x w));
        };
      }

  from : IsExplainedInParts profile first (negotiation ++ again) order initial → IsExplainedOf profile (pairs (first ++ rest)) order initial
  from h =
      let p : Passes profile one h.earlier initial = only profile first h.earlier initial cut.is_run h.first_is in
      let q : Passes profile two h.later (start_behind one h.earlier initial) = only profile (negotiation ++ again) h.later (start_behind one h.earlier initial) stands.is_run h.second_is in
      let f : NoFault one h.earlier = by_entries (due_in profile one) n (inside_in one) h.earlier p.faultless in
      let g : NoFault two h.later = by_entries (due_in profile two) (length two.asked) (inside_in two) h.later q.faultless in
      let low = low_of_fine n (inside_in one) h.earlier f.fine in
      let named = named_of_fine (length two.asked) (inside_in two) h.later g.fine in
      let w = in_whole n (length two.asked) (due_in profile whole) (due_in profile one) (due_in profile two) (inside_in whole) (inside_in one) (inside_in two) are.due_low are.due_high are.in_low are.in_high are.met h.earlier h.later f g in
      subst (λ o. IsExplainedOf profile (pairs (first ++ rest)) o initial) (sym h.parts)
      (passing profile (first ++ rest) (h.earlier ++ behind n h.later) initial cut.goes_on record {
        faultless = by_index (due_in profile whole) (length whole.asked) (inside_in whole) (h.earlier ++ behind n h.later) (subst (λ c. HasNoFault c (due_in profile whole) (inside_in whole) (h.earlier ++ behind n h.later)) (sym are.count) w);
        fits_image = subst (λ o. FitsImage o initial) (are.first_export ∙ sym are.whole_export) p.fits_image;
        reads = wrong_parts profile n whole one two export are h.earlier h.later low named (start_byte initial) p.reads (λ i x v. q.reads i x (second_back h.earlier h.later i x v));
      })

pub splits_are_explained : ReportsAreSound → PassingIsExplained → ExplainedPasses → SplitsAreExplained
splits_are_explained sound passing only profile first rest negotiation again export order initial cut stands = (
  to sound passing only profile first rest negotiation again export order initial cut stands,
  from sound passing only profile first rest negotiation again export order initial cut stands,
)

pub splits_leave_the_same : ReportsAreSound → ExplainedPasses → SplitsLeaveTheSame
splits_leave_the_same sound only profile first rest negotiation again export order initial cut stands h x l =
    let one = report first in
    let two = report (negotiation ++ again) in
    let are = are_parts profile first rest negotiation again export sound cut stands in
    let p : Passes profile one h.earlier initial = only profile first h.earlier initial cut.is_run h.first_is in
    let q : Passes profile two h.later (start_behind one h.earlier initial) = only profile (negotiation ++ again) h.later (start_behind one h.earlier initial) stands.is_run h.second_is in
    let low = low_of_fine (length one.asked) (inside_in one) h.earlier (by_entries (due_in profile one) (length one.asked) (inside_in one) h.earlier p.faultless).fine in
    let named = named_of_fine (length two.asked) (inside_in two) h.later (by_entries (due_in profile two) (length two.asked) (inside_in two) h.later q.faultless).fine in
    ap (λ o. left (report (first ++ rest)) o (start_byte initial) x) h.parts
    ∙ left_parts profile (length one.asked) (report (first ++ rest)) one two export are h.earlier h.later low named (start_byte initial) (start_byte (start_behind one h.earlier initial)) x (start_is one h.earlier initial export are.first_export x l)
