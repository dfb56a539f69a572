-- A session in two parts: what its report has of those of the parts.
use Rattle.nbd_order.proofs.Common.{◌≡◌, ℕ, zero, suc, ◌+◌, ◌<◌, ◌≤◌, ◌&&◌, ◌||◌, List, [], ◌∷◌, length, refl, sym, ap, subst, ◌∙◌, Bool, true, false, not, Option, Some, None, arith, nat_le, if◌then◌else◌, Profile, Base, Item, Effect, effect, effects, Exporting, Asked, Report, asked_at, due_by_chunk, due_in, due_of, first_shown, inside_in, lesser_of, is_change, is_in, option_map}
use Rattle.nbd_order.proofs.{SplitCoreLemmas.{AllDone, Behind, due_append, due_completed, due_unserved, end_append, end_unserved, items_behind, operation_before, operation_behind, plus}, TimedLemmas.ended_at_end}
use Rattle.std.specs.Prelude.{◌++◌}
use Rattle.std.proofs.Common.{append-nil, length-append}
use Rattle.nbd_wire.specs.Prelude.{Operation, Pending, is_chunked, is_finished, outcome, asked_list, asked_of, known_count, Obeys, ends_at, inside_operation, Core, Transmission, export_in, operation, start_of, is_answered}
unfoldable use Rattle.nbd_wire.specs.protocol.Reports.{report}
use Rattle.nbd_laws.proofs.{requests.ReportLemmas.{asked-report, entry_within, length-report, stated, told_if}, runs.{PartLemmas.obeys_back, ProfileLemmas.{at_base, profile_end}, RunLemmas.core_end-ends_at}, service.{DueLemmas.{due_from, or_later}, InsideLemmas.core_end, MomentLemmas.{due-report, inside-report}}}
use Rattle.nbd_laws.specs.{Profiles.with_profile, Soundness.{IsAfter, ReportsAreSound}}
use Rattle.nbd_order.specs.{Leaving.are_open_at, Splits.{IsCut, StandsAgain, core_of}}

-- what the reports of a session and of its parts have of each other, where the first part has n requests
pub record AreParts (profile : Profile) (n : ℕ) (r r1 r2 : Report) (export : Exporting) : Type 0 where
  pub whole_export : r.export ≡ Some export
  pub first_export : r1.export ≡ Some export
  pub second_export : r2.export ≡ Some export
  pub count : length r.asked ≡ n + length r2.asked
  pub effects_low : (k : ℕ) → 0 < k → k ≤ n → effects r k ≡ effects r1 k
  pub effects_high : (k : ℕ) → 0 < k → effects r (n + k) ≡ effects r2 k
  pub in_low : (k : ℕ) → 0 < k → k ≤ n → inside_in r k ≡ inside_in r1 k
  pub in_high : (k : ℕ) → 0 < k → inside_in r (n + k) ≡ inside_in r2 k
  pub due_low : (k x : ℕ) → 0 < k → k ≤ n → due_in profile r k x ≡ due_in profile r1 k x
  pub due_high : (k x : ℕ) → 0 < k → due_in profile r (n + k) x ≡ plus n (due_in profile r2 k x)
  pub met : (k x : ℕ) → 0 < k → k ≤ n → (m : ℕ) × (due_in profile r1 k x ≡ Some m) × (m ≤ n)
  pub none_open : (x : ℕ) → are_open_at r1.asked x ≡ false
  pub open_same : (x : ℕ) → are_open_at r.asked x ≡ are_open_at r2.asked x

-- where items have led, but for the profile
base_of : (profile : Profile) (items : List Item) → with_profile Base (core_end (start_of profile).core items) ≡ core_of items
base_of profile items = ap (with_profile Base) (core_end-ends_at (start_of profile).core [] items) ∙ at_base profile items

-- the effect of a request does not hang on when it was answered
abbrev effect_op : Option Exporting → Option Operation → Option Effect
effect_op export (Some e) = Some (effect (asked_of export None [] None e))
effect_op export None = None

effect_told : (core : Core) (κ : ℕ → Option ℕ) (k : ℕ) (o : Option Operation) → (option_map effect) (told_if core κ k o) ≡ effect_op (export_in core.phase) o
effect_told core κ k (Some e) = refl
effect_told core κ k None = refl

effect_report : (items : List Item) (k : ℕ) → effects (report items) k ≡ effect_op (export_in (core_of items).phase) (operation k (core_of items).entries)
effect_report items k = ap (option_map effect) (asked-report items k) ∙ effect_told (core_of items) (known_count items) k (operation k (core_of items).entries)

inside_report : (items : List Item) (k : ℕ) → inside_in (report items) k ≡ inside_operation (export_in (core_of items).phase) (operation k (core_of items).entries)
inside_report items k = ap (λ f. f k) (inside-report items)

export_report : (items : List Item) → (report items).export ≡ export_in (core_of items).phase
unfolding report
export_report items = refl

-- a change of these requests is open at x
abbrev ops_open : List Operation → ℕ → Bool
ops_open [] x = false
ops_open (e ∷ es) x = ((is_change e.command && not (is_answered (outcome e))) && is_in e.offset e.length x) || ops_open es x

open_listed : (i : ℕ) (core : Core) (κ : ℕ → Option ℕ) (es : List Operation) (x : ℕ) → are_open_at (asked_list i core κ es) x ≡ ops_open es x
open_listed i core κ [] x = refl
open_listed i core κ (e ∷ es) x = ap (λ b. ((is_change e.command && not (is_answered (outcome e))) && is_in e.offset e.length x) || b) (open_listed (suc i) core κ es x)

open_report : (items : List Item) (x : ℕ) → are_open_at (report items).asked x ≡ ops_open (core_of items).entries x
unfolding report
open_report items x = open_listed 0 (core_of items) (known_count items) (core_of items).entries x

not_open : (e : Operation) (x : ℕ) → is_finished e ≡ true → ((is_change e.command && not (is_answered (outcome e))) && is_in e.offset e.length x) ≡ false
not_open e x done = grind arith

open_behind : (done es : List Operation) (x : ℕ) → AllDone done → ops_open (done ++ es) x ≡ ops_open es x
open_behind [] es x d = refl
open_behind (e ∷ done) es x d = ap (λ b. b || ops_open (done ++ es) x) (not_open e x d.0) ∙ open_behind done es x d.1

-- each request is finished, where each is by its number
all_done : (es : List Operation) → ((k : ℕ) (e : Operation) → operation k es ≡ Some e → is_finished e ≡ true) → AllDone es
all_done [] h = tt
all_done (e ∷ es) h = (h 1 e refl, all_done es (λ k. later es h k))
  where
    later : (es : List Operation) → ((k : ℕ) (f : Operation) → operation k (e ∷ es) ≡ Some f → is_finished f ≡ true) → (k : ℕ) (f : Operation) → operation k es ≡ Some f → is_finished f ≡ true
    later es h (suc k) f q = h (suc (suc k)) f q
    later [] h zero f q = absurd (cc)
    later (d ∷ es) h zero f q = absurd (cc)

is_finished_of : (e : Operation) → (outcome e ≡ Pending → ⊥) → is_finished e ≡ true
is_finished_of e h = grind arith

none_of : (o : Option ℕ) → ((m : ℕ) → o ≡ Some m → ⊥) → o ≡ None
none_of None h = refl
none_of (Some m) h = absurd (h m refl)

lesser_some : (o : Option ℕ) (v : ℕ) → (m : ℕ) × (lesser_of o (Some v) ≡ Some m) × (m ≤ v)
lesser_some None v = (v, refl, omega arith)
lesser_some (Some u) v = (if nat_le u v then u else v, refl, grind arith)

-- of a request that has ended all was due
due_ended : (profile : Profile) (within : ℕ → Bool) (a : Asked) (count v x : ℕ) → a.ended_at ≡ Some v → IsAfter a.known_at count v → (m : ℕ) × (due_of profile within (Some a) x ≡ Some m) × (m ≤ v)
due_ended profile within a count v x ended is_after = go (is_chunked profile a.command)
  where
    go : (b : Bool) → (m : ℕ) × ((if b then due_by_chunk within a x else a.known_at) ≡ Some m) × (m ≤ v)
    go false = is_after.0
    go true = (let l = lesser_some (if within x then first_shown a.shown x else None) v in (l.0, ap (lesser_of (if within x then first_shown a.shown x else None)) ended ∙ l.1, l.2))

module _ (profile : Profile) (first rest negotiation again : List Item) (export : Exporting) (sound : ReportsAreSound) (cut : IsCut profile first rest export) (stands : StandsAgain profile first rest negotiation again) where
  abbrev fresh : Core
  fresh = (start_of profile).core

  abbrev done : List Operation
  done = (core_of first).entries

  abbrev count_of : ℕ
  count_of = length (report first).asked

  counted : count_of ≡ length done
  counted = length-report first

  finished : (k : ℕ) (e : Operation) → operation k done ≡ Some e → is_finished e ≡ true
  finished k e at = is_finished_of e (cut.answered k (stated (core_of first) (known_count first) k e) (asked-report first k ∙ ap (told_if (core_of first) (known_count first) k) at))

  all : AllDone done
  all = all_done done finished

  at_first : with_profile Base (core_end fresh first) ≡ core_of first
  at_first = base_of profile first

  at_negotiation : with_profile Base (core_end fresh negotiation) ≡ core_of negotiation
  at_negotiation = base_of profile negotiation

  phase_first : (core_end fresh first).phase ≡ Transmission export
  phase_first = ap (λ (c : Core). c.phase) at_first ∙ cut.in_transmission

  none_yet : (core_end fresh negotiation).entries ≡ []
  none_yet = ap (λ (c : Core). c.entries) at_negotiation ∙ stands.leads.no_request

  same_profile : (items : List Item) → (core_end fresh items).profile ≡ profile
  same_profile items = ap (λ (c : Core). c.profile) (core_end-ends_at fresh [] items) ∙ profile_end profile items

  begun : Behind done (core_end fresh first) (core_end fresh negotiation)
  begun = record {
    profile = same_profile first ∙ sym (same_profile negotiation);
    phase = cc (at_first, at_negotiation, stands.leads.phase);
    structured = cc (at_first, at_negotiation, stands.leads.structured);
    contexts = cc (at_first, at_negotiation, stands.leads.contexts);
    sizes = cc (at_first, at_negotiation, stands.leads.sizes);
    entries = cc (at_first, none_yet, append-nil done);
  }

  obeyed : Obeys (record { core = core_end fresh first; served = (ends_at (start_of profile) first).served }) rest
  obeyed = subst (λ c. Obeys (record { core = c; served = (ends_at (start_of profile) first).served }) rest) (sym (core_end-ends_at fresh [] first)) (obeys_back (start_of profile) first rest cut.goes_on.obeys)

  ended_so : Behind done (core_end (core_end fresh first) rest) (core_end (core_end fresh negotiation) rest) × ((core_end (core_end fresh first) rest).phase ≡ Transmission export)
      × ((k x : ℕ) → 0 < k → due_from (core_end fresh first) rest (length done + k) x ≡ plus (length done) (due_from (core_end fresh negotiation) rest k x))
  ended_so = items_behind done all export rest (core_end fresh first) (core_end fresh negotiation) (ends_at (start_of profile) first).served phase_first begun obeyed

  whole_is : core_end fresh (first ++ rest) ≡ core_end (core_end fresh first) rest
  whole_is = end_append fresh first rest

  second_is : core_end fresh (negotiation ++ again) ≡ core_end (core_end fresh negotiation) rest
  second_is =
      end_append fresh negotiation again ∙ end_unserved (core_end fresh negotiation) again
      ∙ ap (core_end (core_end fresh negotiation)) stands.same ∙ sym (end_unserved (core_end fresh negotiation) rest)

  -- the whole and the second part, where they end
  at_end : Behind done (core_end fresh (first ++ rest)) (core_end fresh (negotiation ++ again))
  at_end = subst (λ c. Behind done c (core_end fresh (negotiation ++ again))) (sym whole_is) (subst (λ d. Behind done (core_end (core_end fresh first) rest) d) (sym second_is) ended_so.0)

  abbrev whole : Core
  whole = core_of (first ++ rest)

  abbrev second : Core
  second = core_of (negotiation ++ again)

  at_whole : with_profile Base (core_end fresh (first ++ rest)) ≡ whole
  at_whole = base_of profile (first ++ rest)

  at_second : with_profile Base (core_end fresh (negotiation ++ again)) ≡ second
  at_second = base_of profile (negotiation ++ again)

  entries_are : whole.entries ≡ done ++ second.entries
  entries_are = cc (at_whole, at_second, at_end.entries)

  phase_whole : whole.phase ≡ Transmission export
  phase_whole = cc (at_whole, whole_is, ended_so.1)

  phase_second : second.phase ≡ Transmission export
  phase_second = cc (at_second, at_whole, at_end.phase, phase_whole)

  due_parts : (k x : ℕ) → due_in profile (report (first ++ rest)) k x ≡ or_later (due_in profile (report first) k x) (due_from (core_end fresh first) rest k x)
  due_parts k x = sym (due-report profile (first ++ rest) cut.goes_on k x) ∙ due_append fresh first rest k x ∙ ap (λ o. or_later o (due_from (core_end fresh first) rest k x)) (due-report profile first cut.is_run k x)

  met_first : (k x : ℕ) → 0 < k → k ≤ count_of → (m : ℕ) × (due_in profile (report first) k x ≡ Some m) × (m ≤ count_of)
  met_first k x p l =
      let e = entry_within k done p (let c : count_of ≡ length done = counted in omega (arith, l, c)) in
      let v = ended_at_end first cut.is_run k e.0 e.1 (finished k e.0 e.1) in
      let at : asked_at k (report first).asked ≡ Some (stated (core_of first) (known_count first) k e.0) = asked-report first k ∙ ap (told_if (core_of first) (known_count first) k) e.1 in
      let s = (sound profile first cut.is_run).each export k (stated (core_of first) (known_count first) k e.0) (export_report first ∙ ap export_in cut.in_transmission) at in
      let is_after = s.ended v.0 v.1 in
      let d = due_ended profile (inside_in (report first) k) (stated (core_of first) (known_count first) k e.0) count_of v.0 x v.1 is_after in
      let bound : d.0 ≤ v.0 = d.2 in
      let most : v.0 ≤ count_of = is_after.1 in
      (d.0, ap (λ o. due_of profile (inside_in (report first) k) o x) at ∙ d.1, omega (arith, bound, most))

  pub are_parts : AreParts profile count_of (report (first ++ rest)) (report first) (report (negotiation ++ again)) export
  are_parts = record {
    whole_export = export_report (first ++ rest) ∙ ap export_in phase_whole;
    first_export = export_report first ∙ ap export_in cut.in_transmission;
    second_export = export_report (negotiation ++ again) ∙ ap export_in phase_second;
    count = length-report (first ++ rest) ∙ ap length entries_are ∙ length-append done second.entries ∙ ap (λ n. n + length second.entries) (sym counted) ∙ ap (λ n. count_of + n) (sym (length-report (negotiation ++ again)));
    effects_low = λ k p l. cc (effect_report (first ++ rest) k, effect_report first k, phase_whole, cut.in_transmission, lower k p l);
    effects_high = λ k p. cc (effect_report (first ++ rest) (count_of + k), effect_report (negotiation ++ again) k, phase_whole, phase_second, higher k p);
    in_low = λ k p l. cc (inside_report (first ++ rest) k, inside_report first k, phase_whole, cut.in_transmission, lower k p l);
    in_high = λ k p. cc (inside_report (first ++ rest) (count_of + k), inside_report (negotiation ++ again) k, phase_whole, phase_second, higher k p);
    due_low = λ k x p l. (let d = met_first k x p l in due_parts k x ∙ ap (λ o. or_later o (due_from (core_end fresh first) rest k x)) d.1 ∙ sym d.1);
    due_high = λ k x p.
        due_parts (count_of + k) x ∙ ap (λ o. or_later o (due_from (core_end fresh first) rest (count_of + k) x)) (not_due_first k x p)
        ∙ ap (λ n. due_from (core_end fresh first) rest (n + k) x) counted
        ∙ ended_so.2 k x p
        ∙ ap (λ n. plus n (due_from (core_end fresh negotiation) rest k x)) (sym counted)
        ∙ ap (plus count_of) (due_second k x);
    met = met_first;
    none_open = λ x. open_report first x ∙ ap (λ es. ops_open es x) (sym (append-nil done)) ∙ open_behind done [] x all;
    open_same = λ x. open_report (first ++ rest) x ∙ ap (λ es. ops_open es x) entries_are ∙ open_behind done second.entries x all ∙ sym (open_report (negotiation ++ again) x);
  }
    where
      lower : (k : ℕ) → 0 < k → k ≤ count_of → operation k whole.entries ≡ operation k done
      lower k p l = ap (operation k) entries_are ∙ operation_before k done second.entries p (let c : count_of ≡ length done = counted in omega (arith, l, c))

      higher : (k : ℕ) → 0 < k → operation (count_of + k) whole.entries ≡ operation k second.entries
      higher k p = ap (λ n. operation (n + k) whole.entries) counted ∙ ap (operation (length done + k)) entries_are ∙ operation_behind k done second.entries p

      not_due_first : (k x : ℕ) → 0 < k → due_in profile (report first) (count_of + k) x ≡ None
      not_due_first k x p = none_of (due_in profile (report first) (count_of + k) x) (λ m e.
          let w = due_completed fresh first (count_of + k) x m (due-report profile first cut.is_run (count_of + k) x ∙ e) in
          let l : count_of + k ≤ length (core_end fresh first).entries = w.1 in
          let same : length (core_end fresh first).entries ≡ length done = ap (λ (c : Core). length c.entries) at_first in
          let c : count_of ≡ length done = counted in
          absurd (omega (arith, l, same, c, p)))

      due_second : (k x : ℕ) → due_from (core_end fresh negotiation) rest k x ≡ due_in profile (report (negotiation ++ again)) k x
      due_second k x =
          due_unserved (core_end fresh negotiation) rest k x ∙ ap (λ u. due_from (core_end fresh negotiation) u k x) (sym stands.same) ∙ sym (due_unserved (core_end fresh negotiation) again k x)
          ∙ ap (λ o. or_later o (due_from (core_end fresh negotiation) again k x)) (sym (none_of (due_from fresh negotiation k x) (λ m e.
          let w = due_completed fresh negotiation k x m e in
          let l : k ≤ length (core_end fresh negotiation).entries = w.1 in
          let none : length (core_end fresh negotiation).entries ≡ 0 = ap length none_yet in
          let z : 0 < k = w.0 in
          absurd (omega (arith, l, none, z)))))
          ∙ sym (due_append fresh negotiation again k x) ∙ due-report profile (negotiation ++ again) stands.is_run k x
