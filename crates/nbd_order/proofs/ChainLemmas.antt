-- Starts that know less, and sessions one after another.
use Rattle.nbd_order.proofs.{Common.{arith, take_all, ◌≡◌, ◌&&◌, ◌||◌, ℕ, List, [], ◌∷◌, refl, sym, ap, ◌∙◌, Bool, true, false, Option, Some, None, take, if◌then◌else◌, Entry, Part, is_in, start_byte, Effect, byte_before, byte_or_start, effects, last_touch, later, touch_of, Asked, Report, report, IsFaultless, Passes, ExplainedPasses, PassingIsExplained}, TouchLemmas.{later_later, later_none}}
use Rattle.std.specs.Prelude.{◌++◌, length}
use Rattle.nbd_wire.specs.Prelude.{IsWrongOf, IsExplainedOf, pairs}
use Rattle.nbd_laws.specs.Soundness.{ReportsAreSound}
use Rattle.nbd_judge.proofs.contents.{CompareLemmas.wrong_there, StartLemmas.{left_same, wrong_more}}
use Rattle.nbd_order.specs.{Chains.{ChainsAreOneHistory, ExplainedFromLess, HasNoneWrongInChain, LeavesLess, Link, byte_in_chain, last_served, left_by_chain, served_by_chain, served_of, trim_of, trims}, Leaving.{are_open_at, is_open, is_open_at, left}}

pub explained_from_less : ReportsAreSound → PassingIsExplained → ExplainedPasses → ExplainedFromLess
explained_from_less sound passing only profile items order less more is_run fits knows explained =
    let p : Passes profile (report items) order more = only profile items order more is_run explained in
    passing profile items order less is_run record {
      faultless = p.faultless;
      fits_image = fits;
      reads = λ i x w. p.reads i x (wrong_more (report items) (sound profile items is_run) order (start_byte less) (start_byte more) (λ y b inside e. knows y b inside e) i x w);
    }

-- what was known at first, where nothing made it unknown
less_left : (p : Bool) (l : Option Effect) (f g : ℕ → Option ℕ) (x b : ℕ) → (f x ≡ Some b → g x ≡ Some b) → (if p then None else byte_or_start l f x) ≡ Some b → (if p then None else byte_or_start l g x) ≡ Some b
less_left p l f g x b more e = grind arith

pub leaves_less : LeavesLess
leaves_less r order n less more knows x b inside = less_left (are_open_at r.asked x) (last_touch (effects r) x (take (length order) order)) less more x b (knows x b inside)

abbrev Served : Type 0
Served = List (Option Part × Option Effect)

-- of two lists the last is looked up in the second one first
last_append : (x : ℕ) (served more : Served) → last_served x (served ++ more) ≡ later (last_served x more) (last_served x served)
last_append x [] more = later_none (last_served x more)
last_append x (one ∷ served) more =
    ap (λ l. later l (touch_of one.0 one.1 x)) (last_append x served more)
    ∙ later_later (last_served x more) (last_served x served) (touch_of one.0 one.1 x)

-- what was left by two lists, one after the other
pub left_behind : (a b : Option Effect) (initial : ℕ → Option ℕ) (x : ℕ) → byte_or_start a (λ y. byte_or_start b initial y) x ≡ byte_or_start (later a b) initial x
left_behind a b initial x = grind arith

-- the entries of an order touch x as what it serves does
last_of_order : (requests : ℕ → Option Effect) (x : ℕ) (order : List Entry) → last_touch requests x order ≡ last_served x (served_of requests order)
last_of_order requests x [] = refl
last_of_order requests x (entry ∷ order) = ap (λ l. later l (touch_of entry.part (requests entry.request) x)) (last_of_order requests x order)

pub take_whole : (order : List Entry) → take (length order) order ≡ order
take_whole order = take_all (length order) order (omega arith)

-- one more TRIM, if there is one
last_trim : (a : Asked) (asked : List Asked) (x : ℕ) (o : Bool) → last_served x (if o then (None, Some (trim_of a)) ∷ trims asked else trims asked) ≡ (if o && is_in a.offset a.length x then later (last_served x (trims asked)) (Some (trim_of a)) else last_served x (trims asked))
last_trim a asked x false = refl
last_trim a asked x true = touched (is_in a.offset a.length x) (last_served x (trims asked)) (trim_of a)
  where
    touched : (i : Bool) (l : Option Effect) (t : Effect) → later l (if i && true then Some t else None) ≡ (if i then later l (Some t) else l)
    touched true l t = refl
    touched false l t = sym (later_none l)

-- TRIMs of what is open forget it
trims_forget : (asked : List Asked) (f : ℕ → Option ℕ) (x : ℕ) → byte_or_start (last_served x (trims asked)) f x ≡ (if are_open_at asked x then None else f x)
trims_forget [] f x = refl
trims_forget (a ∷ asked) f x =
    ap (λ l. byte_or_start l f x) (last_trim a asked x (is_open a))
    ∙ one_more (is_open_at x a) (last_served x (trims asked)) (are_open_at asked x) (trims_forget asked (λ y. None) x) (trims_forget asked f x)
  where
    one_more : (b : Bool) (l : Option Effect) (c : Bool) → byte_or_start l (λ y. None) x ≡ (if c then None else None) → byte_or_start l f x ≡ (if c then None else f x)
        → byte_or_start (if b then later l (Some (trim_of a)) else l) f x ≡ (if b || c then None else f x)
    one_more true (Some e) true none same = none
    one_more true (Some e) false none same = none
    one_more true None c none same = refl
    one_more false l c none same = same

-- what a session leaves is what the last of all that it serves does, with its TRIMs
left_served : (r : Report) (order : List Entry) (initial : ℕ → Option ℕ) (x : ℕ) → left r order initial x ≡ byte_or_start (last_served x (served_of (effects r) order ++ trims r.asked)) initial x
left_served r order initial x =
    ap (λ l. if are_open_at r.asked x then None else byte_or_start l initial x) (ap (last_touch (effects r) x) (take_whole order) ∙ last_of_order (effects r) x order)
    ∙ sym (trims_forget r.asked (λ y. byte_or_start (last_served x (served_of (effects r) order)) initial y) x)
    ∙ left_behind (last_served x (trims r.asked)) (last_served x (served_of (effects r) order)) initial x
    ∙ ap (λ l. byte_or_start l initial x) (sym (last_append x (served_of (effects r) order) (trims r.asked)))

-- a chain leaves what the last of all that it serves does
chain_served : (links : List Link) (initial : ℕ → Option ℕ) (x : ℕ) → left_by_chain links initial x ≡ byte_or_start (last_served x (served_by_chain links)) initial x
chain_served [] initial x = refl
chain_served (link ∷ links) initial x =
    let served = served_of (effects link.report) link.order ++ trims link.report.asked in
    chain_served links (left link.report link.order initial) x
    ∙ left_same (last_served x (served_by_chain links)) (left link.report link.order initial) (λ y. byte_or_start (last_served x served) initial y) x (left_served link.report link.order initial x)
    ∙ left_behind (last_served x (served_by_chain links)) (last_served x served) initial x
    ∙ ap (λ l. byte_or_start l initial x) (sym (last_append x served (served_by_chain links)))

-- the byte at an entry, from what the chain left
in_chain : (links : List Link) (r : Report) (order : List Entry) (initial : ℕ → Option ℕ) (i x : ℕ) → byte_before (effects r) order (left_by_chain links initial) i x ≡ byte_in_chain links r order initial i x
in_chain links r order initial i x =
    let served = served_of (effects r) (take i order) in
    ap (λ l. byte_or_start l (left_by_chain links initial) x) (last_of_order (effects r) x (take i order))
    ∙ left_same (last_served x served) (left_by_chain links initial) (λ y. byte_or_start (last_served x (served_by_chain links)) initial y) x (chain_served links initial x)
    ∙ left_behind (last_served x served) (last_served x (served_by_chain links)) initial x
    ∙ ap (λ l. byte_or_start l initial x) (sym (last_append x (served_by_chain links) served))

wrong_as : (requests : ℕ → Option Effect) (entry : Entry) (byte other : ℕ → Option ℕ) (x : ℕ) → other x ≡ byte x → IsWrongOf requests entry byte x → IsWrongOf requests entry other x
wrong_as requests entry byte other x same w = (w.0, w.1, wrong_there entry.part w.0 byte other x w.2 same)

pub chains_are_one_history : ReportsAreSound → PassingIsExplained → ExplainedPasses → ChainsAreOneHistory
chains_are_one_history sound passing only profile items order links initial start is_run fits same = (to, from)
  where
    to : IsExplainedOf profile (pairs items) order start → IsFaultless profile (report items) order × HasNoneWrongInChain links (report items) order initial
    to explained =
        let p : Passes profile (report items) order start = only profile items order start is_run explained in (
          p.faultless,
          λ i x entry at w.
              p.reads i x
              (wrong_more (report items) (sound profile items is_run) order (left_by_chain links initial) (start_byte start) (λ y b inside e. same y inside ∙ e) i x
              (entry, at, wrong_as (effects (report items)) entry (byte_in_chain links (report items) order initial i) (byte_before (effects (report items)) order (left_by_chain links initial) i) x (in_chain links (report items) order initial i x) w)),
        )

    from : IsFaultless profile (report items) order × HasNoneWrongInChain links (report items) order initial → IsExplainedOf profile (pairs items) order start
    from h = passing profile items order start is_run record {
      faultless = h.0;
      fits_image = fits;
      reads = λ i x w.
          let v = wrong_more (report items) (sound profile items is_run) order (start_byte start) (left_by_chain links initial) (λ y b inside e. sym (same y inside) ∙ e) i x w in
          h.1 i x v.0 v.1 (wrong_as (effects (report items)) v.0 (byte_before (effects (report items)) order (left_by_chain links initial) i) (byte_in_chain links (report items) order initial i) x (sym (in_chain links (report items) order initial i x)) v.2);
    }
