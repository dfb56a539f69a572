-- What is sure is left by each order that explains the session.
use Rattle.nbd_order.proofs.Common.{◌≡◌, ℕ, zero, suc, ◌<◌, ◌≤◌, inl, inr, List, [], ◌∷◌, refl, sym, ◌∙◌, ap, Option, Some, None, Bool, true, false, not, ◌==◌, ◌&&◌, ◌||◌, if◌then◌else◌, arith, get_or, length, drop, slice_get, take, and_from, and_parts, cases_Bool, cases_eq, cases_lt, eqb-true, or_cases, take_all, Asked, Piece, Report, Profile, Entry, Part, Exporting, Effect, IsWrong, ExplainedPasses, IsFaultless, report, asked_at, byte_before, byte_or_start, due_in, due_of, effect, effect_byte, effects, has_range, in_part, inside_in, is_change, is_in, is_success, last_touch, later, piece_offset, piece_size, start_byte, touch_of, option_map}
use Rattle.nbd_order.proofs.{ServiceLemmas.change_ranged, SettleLemmas.sound_asked, SureLemmas.{HasAt, last_has}, TimedLemmas.{IsTimed, timed}, ToldLemmas.{any_counted, count_more}, TouchLemmas.{ServesAt, is_served_from, served_at}}
use Rattle.std.specs.{Prelude.{◌-◌, count_by}, List.list_any}
use Rattle.std.proofs.lemmas.{Option.slice_get-get_or, Bool.{le-leb, lt-ltb, leb-true, or_parts}}
use Rattle.nbd_laws.proofs.requests.SoundnessLemmas.{reports_are_sound}
use Rattle.nbd_laws.specs.Soundness.{IsSoundReport}
use Rattle.nbd_wire.specs.declared.commands.TheConstants as commands
use Rattle.nbd_wire.specs.Prelude.{Outcome, is_chunked, holds, is_answered}
use Rattle.nbd_order.specs.{Leaving.{are_open_at, is_open_at, left}, Sure.{byte_behind_last, byte_got, byte_left, byte_seen, changes, changes_behind, gets, has_completed, is_last_alone, is_read, last_number, leaves_unknown, may_leave_unknown, number_before, sure}, Chains.{SureIsLeft, SureOfLessIsLeft}}
use Rattle.nbd_judge.proofs.{contents.{CompareLemmas.{from_in, in_from}, RangeLemmas.drop_get}, orders.TableLemmas.{ended, request_within, started}}

-- Lists of requests.

any_false : (p : Asked → Bool) (asked : List Asked) → list_any p asked ≡ false → (k : ℕ) (b : Asked) → asked_at k asked ≡ Some b → p b ≡ false
any_false p asked e zero b at = absurd (cc)
any_false p asked e (suc k) b at = go asked e k at
  where
    go : (asked : List Asked) → list_any p asked ≡ false → (k : ℕ) → slice_get asked k ≡ Some b → p b ≡ false
    go [] e k at = absurd (cc)
    go (a ∷ asked) e zero at = (let same : a ≡ b = cc in ap p (sym same) ∙ (or_parts (p a) (list_any p asked) e).0)
    go (a ∷ asked) e (suc k) at = go asked (or_parts (p a) (list_any p asked) e).1 k at

last_none : (p : Asked → Bool) (asked : List Asked) → last_number p asked ≡ None → list_any p asked ≡ false
last_none p [] e = refl
last_none p (a ∷ asked) e = (let w = neither (p a) (last_number p asked) e in ap (λ b. b || list_any p asked) w.0 ∙ last_none p asked w.1)
  where
    neither : (b : Bool) (o : Option ℕ) → number_before b o ≡ None → (b ≡ false) × (o ≡ None)
    neither b o e = grind arith

open_any : (x : ℕ) (asked : List Asked) → are_open_at asked x ≡ list_any (is_open_at x) asked
open_any x [] = refl
open_any x (a ∷ asked) = ap (λ b. is_open_at x a || b) (open_any x asked)

closed_none : (x : ℕ) (asked : List Asked) → list_any (changes x) asked ≡ false → are_open_at asked x ≡ false
closed_none x [] h = refl
closed_none x (a ∷ asked) h = (let w = or_parts (changes x a) (list_any (changes x) asked) h in grind (arith, w.0, closed_none x asked w.1))

closed_at : (x : ℕ) (asked : List Asked) → are_open_at asked x ≡ false → (k : ℕ) (b : Asked) → asked_at k asked ≡ Some b → changes x b ≡ true → is_answered b.outcome ≡ true
closed_at x asked e k b at ch = (let shut = any_false (is_open_at x) asked (sym (open_any x asked) ∙ e) k b at in grind (arith, shut))

two_have : (p : Asked → Bool) (c : Asked) (asked : List Asked) → count_by p (c ∷ asked) ≤ 1 → p c ≡ true → (k : ℕ) (b : Asked) → asked_at k asked ≡ Some b → p b ≡ true → ⊥
two_have p c asked few first k b at has =
    let none : list_any p asked ≡ false = grind (arith, any_counted p asked, count_more p c asked) in
    absurd (cc (any_false p asked none k b at))

-- two that have the property, where no more than one has it
alone : (p : Asked → Bool) (asked : List Asked) → count_by p asked ≤ 1 → (j k : ℕ) (a b : Asked) → asked_at j asked ≡ Some a → p a ≡ true → asked_at k asked ≡ Some b → p b ≡ true → j ≡ k
alone p asked few zero k a b atj pj atk pk = absurd (cc)
alone p asked few (suc j) zero a b atj pj atk pk = absurd (cc)
alone p [] few (suc j) (suc k) a b atj pj atk pk = absurd (cc)
alone p (c ∷ asked) few (suc zero) (suc zero) a b atj pj atk pk = refl
alone p (c ∷ asked) few (suc zero) (suc (suc k)) a b atj pj atk pk = absurd (two_have p c asked few (cc) (suc k) b atk pk)
alone p (c ∷ asked) few (suc (suc j)) (suc zero) a b atj pj atk pk = absurd (two_have p c asked few (cc) (suc j) a atj pj)
alone p (c ∷ asked) few (suc (suc j)) (suc (suc k)) a b atj pj atk pk = ap suc (alone p asked (let m = count_more p c asked in omega (arith, m)) (suc j) (suc k) a b atj pj atk pk)

-- Requests and the entries that serve them at x.

not_read : (c : ℕ) → is_change c ≡ true → (c == commands.READ) ≡ false
not_read c e = grind (arith, eqb-true)

-- a change of which the byte is known that it leaves
known_left : (x : ℕ) (a : Asked) → (a.command ≡ commands.WRITE → length a.payload ≡ a.length) → changes x a ≡ true → leaves_unknown a ≡ false → (b : ℕ) × (effect_byte (effect a) x ≡ Some b)
known_left x a carried ch known = elim (cases_Bool (a.command == commands.WRITE)) [
  | inl write ↦
      let lies : is_in a.offset a.length x ≡ true = grind arith in
      let r = from_in a.offset a.length x lies in
      let long = carried (eqb-true a.command commands.WRITE write) in
      let at = slice_get-get_or a.payload (x - a.offset) 0 (omega (arith, r, long)) in
      (get_or a.payload (x - a.offset) 0, grind (arith, at))
  | inr other ↦ (0, grind arith)
]

-- the last entry that touches x
pub record LastTouch (requests : ℕ → Option Effect) (x : ℕ) (es : List Entry) (f : Effect) : Type 0 where
  pub place : ℕ
  pub entry : Entry
  pub at : slice_get es place ≡ Some entry
  pub touch : touch_of entry.part (requests entry.request) x ≡ Some f
  pub last : (i : ℕ) (d : Entry) → slice_get (drop (suc place) es) i ≡ Some d → touch_of d.part (requests d.request) x ≡ None

module _ (requests : ℕ → Option Effect) (x : ℕ) where
  no_touch : (es : List Entry) → last_touch requests x es ≡ None → (i : ℕ) (d : Entry) → slice_get es i ≡ Some d → touch_of d.part (requests d.request) x ≡ None
  no_touch [] e i d at = absurd (cc)
  no_touch (c ∷ es) e i d at = (let w = neither (last_touch requests x es) (touch_of c.part (requests c.request) x) e in go i w.1 at (no_touch es w.0))
    where
      neither : (o t : Option Effect) → later o t ≡ None → (o ≡ None) × (t ≡ None)
      neither o t e = grind arith

      go : (i : ℕ) → touch_of c.part (requests c.request) x ≡ None → slice_get (c ∷ es) i ≡ Some d → ((i : ℕ) (d : Entry) → slice_get es i ≡ Some d → touch_of d.part (requests d.request) x ≡ None) → touch_of d.part (requests d.request) x ≡ None
      go zero none at rest = (let same : c ≡ d = cc in ap (λ (y : Entry). touch_of y.part (requests y.request) x) (sym same) ∙ none)
      go (suc i) none at rest = rest i d at

  last_is : (es : List Entry) (f : Effect) → last_touch requests x es ≡ Some f → LastTouch requests x es f
  last_is [] f e = absurd (cc)
  last_is (c ∷ es) f e = go (last_touch requests x es) refl (last_is es) e
    where
      go : (o : Option Effect) → last_touch requests x es ≡ o → ((f : Effect) → last_touch requests x es ≡ Some f → LastTouch requests x es f) → later o (touch_of c.part (requests c.request) x) ≡ Some f → LastTouch requests x (c ∷ es) f
      go (Some g) q rest e =
          let t = rest g q in
          record { place = suc t.place; entry = t.entry; at = t.at; touch = t.touch ∙ e; last = t.last }
      go None q rest e = record { place = 0; entry = c; at = refl; touch = e; last = no_touch es q }

  -- entries behind the last that touches x make no difference
  touch_taken : (es : List Entry) (j : ℕ) → ((i : ℕ) (d : Entry) → j ≤ i → slice_get es i ≡ Some d → touch_of d.part (requests d.request) x ≡ None) → last_touch requests x (take j es) ≡ last_touch requests x es
  touch_taken [] zero none = refl
  touch_taken [] (suc j) none = refl
  touch_taken (c ∷ es) zero none = sym (ap (λ t. later (last_touch requests x es) t) (none 0 c (omega arith) refl) ∙ ap (λ t. later t None) (sym (touch_taken es zero (λ i d l at. none (suc i) d (omega arith) at))))
  touch_taken (c ∷ es) (suc j) none = ap (λ t. later t (touch_of c.part (requests c.request) x)) (touch_taken es j (λ i d l at. none (suc i) d (omega arith) at))

-- what touches x is a change at x, and the entry serves x
touch_parts : (p : Option Part) (o : Option Asked) (x : ℕ) (f : Effect) → touch_of p ((option_map effect) o) x ≡ Some f → (a : Asked) × (o ≡ Some a) × (effect a ≡ f) × (changes x a ≡ true) × (in_part p x ≡ true)
touch_parts p None x f e = absurd (cc)
touch_parts p (Some a) x f e = (a, refl, grind arith, grind arith, grind arith)

touch_from : (p : Option Part) (o : Option Asked) (x : ℕ) (a : Asked) → o ≡ Some a → changes x a ≡ true → in_part p x ≡ true → touch_of p ((option_map effect) o) x ≡ Some (effect a)
touch_from p o x a at ch part = grind arith

not_chunked : (p : Profile) (c : ℕ) → (c == commands.READ) ≡ false → is_chunked p c ≡ false
not_chunked p c e = grind arith

-- one of the pieces holds x
holding : (x : ℕ) (pieces : List Piece) → list_any (λ (p : Piece). holds p x) pieces ≡ true → (i : ℕ) × (p : Piece) × (slice_get pieces i ≡ Some p) × (holds p x ≡ true)
holding x [] e = absurd (cc)
holding x (p ∷ pieces) e = elim (or_cases (holds p x) (list_any (λ (q : Piece). holds q x) pieces) e) [
  | inl h ↦ (zero, p, refl, h)
  | inr h ↦ (let w = holding x pieces h in (suc w.0, w.1, w.2, w.3))
]

answered : (o : Outcome) → is_success o ≡ true → is_answered o ≡ true
answered o e = grind arith

-- a byte that is sure, where there are changes
given : (o v : Bool) (byte : Option ℕ) (b : ℕ) → (if o then None else (if v then None else byte)) ≡ Some b → (o ≡ false) × (v ≡ false) × (byte ≡ Some b)
given o v byte b e = (grind arith, grind arith, grind arith)

-- a byte that a READ shows
seen : (asked : List Asked) (x : ℕ) (o : Option ℕ) (b : ℕ) → byte_seen asked x o ≡ Some b → (m : ℕ) × (o ≡ Some m) × (list_any (changes_behind m x) asked ≡ false) × (byte_got (asked_at m asked) x ≡ Some b)
seen asked x None b e = absurd (cc)
seen asked x (Some m) b e = (m, refl, grind arith, grind arith)

module _ (profile : Profile) (r : Report) (sound : IsSoundReport r) (times : (k : ℕ) (a : Asked) → asked_at k r.asked ≡ Some a → is_answered a.outcome ≡ true → IsTimed a)
    (order : List Entry) (faultless : IsFaultless profile r order) (export : Exporting) (is : r.export ≡ Some export) (x : ℕ) (below : x < export.size) where
  inside_request : (k : ℕ) (a : Asked) → asked_at k r.asked ≡ Some a → not (a.command == commands.BLOCK_STATUS) ≡ true → has_range a.command ≡ true → is_in a.offset a.length x ≡ true → inside_in r k x ≡ true
  inside_request k a at other ranged lies = (let l = lt-ltb x export.size below in grind (arith, is, at, l))

  served : (k n : ℕ) (a : Asked) → asked_at k r.asked ≡ Some a → due_in profile r k x ≡ Some n → inside_in r k x ≡ true → ServesAt order k x
  served k n a at due inside = (let w = request_within k r.asked a at in served_at order k x ((faultless.served k x (w.0, w.1, (n, due))).covered inside))

  -- what is served of a request does not stand behind an entry of one that arrived behind the moment when it was due
  in_time : (i j : ℕ) (d e : Entry) (k n : ℕ) → slice_get order i ≡ Some d → i ≤ j → slice_get order j ≡ Some e → e.request ≡ k → in_part e.part x ≡ true → due_in profile r k x ≡ Some n → d.request ≤ n
  in_time i j d e k n ati l atj named part due =
      elim (cases_lt n d.request) [
        | inl late ↦ absurd (faultless.none_late i (d, k, x, n, ati, is_served_from order k x i j e l atj named part, due, late))
        | inr fine ↦ fine
      ]

  due_change : (k n : ℕ) (a : Asked) → asked_at k r.asked ≡ Some a → changes x a ≡ true → a.known_at ≡ Some n → due_in profile r k x ≡ Some n
  due_change k n a at ch known =
      let v = and_parts (is_change a.command) (is_in a.offset a.length x) ch in
      let whole = not_chunked profile a.command (not_read a.command v.0) in
      cc

  served_change : (k n : ℕ) (a : Asked) → asked_at k r.asked ≡ Some a → changes x a ≡ true → a.known_at ≡ Some n → ServesAt order k x
  served_change k n a at ch known =
      let v = and_parts (is_change a.command) (is_in a.offset a.length x) ch in
      let w = change_ranged a.command v.0 in
      served k n a at (due_change k n a at ch known) (inside_request k a at w.1 w.0 v.1)

  -- when a READ was due that is finished
  due_read : (k : ℕ) (a : Asked) → asked_at k r.asked ≡ Some a → IsTimed a → (n : ℕ) × (due_in profile r k x ≡ Some n)
  due_read k a at t =
      let due : (n : ℕ) × (due_of profile (inside_in r k) (Some a) x ≡ Some n) = elim (cases_Bool (is_chunked profile a.command)) [
        | inl chunked ↦ ended profile r order k a at t.ended.0 x chunked t.ended.1
        | inr whole ↦ started profile r order k a at t.known.0 x whole t.known.1
      ] in
      (due.0, ap (λ o. due_of profile (inside_in r k) o x) at ∙ due.1)

  module _ (initial : ℕ → Option ℕ) (right : (i y : ℕ) → IsWrong (effects r) order initial i y → ⊥) where
    left_is : are_open_at r.asked x ≡ false → left r order initial x ≡ byte_or_start (last_touch (effects r) x order) initial x
    left_is closed =
        ap (λ b. if b then None else byte_before (effects r) order initial (length order) x) closed
        ∙ ap (λ l. byte_or_start (last_touch (effects r) x l) initial x) (take_all (length order) order (omega arith))

    -- no change
    unchanged : (b : ℕ) → last_number (changes x) r.asked ≡ None → initial x ≡ Some b → left r order initial x ≡ Some b
    unchanged b none e = left_is (closed_none x r.asked without) ∙ go (last_touch (effects r) x order) refl
      where
        without : list_any (changes x) r.asked ≡ false
        without = last_none (changes x) r.asked none

        go : (o : Option Effect) → last_touch (effects r) x order ≡ o → byte_or_start o initial x ≡ Some b
        go None q = e
        go (Some f) q =
            let t = last_is (effects r) x order f q in
            let w = touch_parts t.entry.part (asked_at t.entry.request r.asked) x f t.touch in
            absurd (cc (any_false (changes x) r.asked without t.entry.request w.0 w.1))

    module _ (n : ℕ) (is_last_one : last_number (changes x) r.asked ≡ Some n) (closed : are_open_at r.asked x ≡ false) (known : may_leave_unknown r.asked n x ≡ false) where
      found : HasAt (changes x) r.asked n
      found = last_has (changes x) r.asked n is_last_one

      time : (k : ℕ) (a : Asked) → asked_at k r.asked ≡ Some a → changes x a ≡ true → IsTimed a
      time k a at ch = times k a at (closed_at x r.asked closed k a at ch)

      its_entry : ServesAt order n x
      its_entry = (let t = time n found.0 found.1 found.2 in served_change n t.known.0 found.0 found.1 found.2 t.known.1)

      its_touch : touch_of its_entry.1.part (effects r its_entry.1.request) x ≡ Some (effect found.0)
      its_touch = ap (λ k. touch_of its_entry.1.part (effects r k) x) its_entry.3 ∙ touch_from its_entry.1.part (asked_at n r.asked) x found.0 found.1 found.2 its_entry.4

      -- the change that is served last
      module _ (f : Effect) (touched : last_touch (effects r) x order ≡ Some f) where
        t : LastTouch (effects r) x order f
        t = last_is (effects r) x order f touched

        after : (i : ℕ) (d : Entry) → t.place < i → slice_get order i ≡ Some d → touch_of d.part (effects r d.request) x ≡ None
        after i d l at = t.last (i - suc t.place) d (drop_get order (suc t.place) (i - suc t.place) ∙ ap (slice_get order) (omega (arith, l)) ∙ at)

        its : (a : Asked) × (asked_at t.entry.request r.asked ≡ Some a) × (effect a ≡ f) × (changes x a ≡ true) × (in_part t.entry.part x ≡ true)
        its = touch_parts t.entry.part (asked_at t.entry.request r.asked) x f t.touch

        abbrev a : Asked
        a = its.0

        not_before : its_entry.0 ≤ t.place
        not_before = elim (cases_lt t.place its_entry.0) [
          | inl l ↦ absurd (cc (after its_entry.0 its_entry.1 l its_entry.2, its_touch))
          | inr l ↦ l
        ]

        its_time : IsTimed a
        its_time = time t.entry.request a its.1 its.3

        its_due : due_in profile r t.entry.request x ≡ Some its_time.known.0
        its_due = due_change t.entry.request its_time.known.0 a its.1 its.3 its_time.known.1

        -- what entry i serves, which stands no later, arrived before its first reply
        arrived : (i : ℕ) (d : Entry) (k : ℕ) → slice_get order i ≡ Some d → d.request ≡ k → i ≤ t.place → changes_behind k x a ≡ true
        arrived i d k at named l =
            let w : d.request ≤ its_time.known.0 = in_time i t.place d t.entry t.entry.request its_time.known.0 at l t.at refl its.4 its_due in
            and_from (changes x a) (has_completed k a.known_at) its.3 (ap (has_completed k) its_time.known.1 ∙ le-leb k its_time.known.0 (omega (arith, w, named)))

        behind : changes_behind n x a ≡ true
        behind = arrived its_entry.0 its_entry.1 n its_entry.2 its_entry.3 not_before

        byte : (b : ℕ) × (effect_byte (effect a) x ≡ Some b)
        byte =
            let none = any_false (λ (y : Asked). changes_behind n x y && leaves_unknown y) r.asked known t.entry.request a its.1 in
            known_left x a (sound_asked r sound t.entry.request a its.1).1.carried its.3 (ap (λ b. b && leaves_unknown a) (sym behind) ∙ none)

        left_it : left r order initial x ≡ effect_byte (effect a) x
        left_it = left_is closed ∙ ap (λ o. byte_or_start o initial x) touched ∙ ap (λ e. effect_byte e x) (sym its.2)

        -- request n alone may be the last
        by_itself : (b : ℕ) → is_last_alone r.asked n x ≡ true → byte_left (asked_at n r.asked) x ≡ Some b → left r order initial x ≡ Some b
        by_itself b few e =
            let own = time n found.0 found.1 found.2 in
            let lo = ((sound_asked r sound n found.0 found.1).1.known own.known.0 own.known.1).0 in
            let first : changes_behind n x found.0 ≡ true = and_from (changes x found.0) (has_completed n found.0.known_at) found.2 (ap (has_completed n) own.known.1 ∙ le-leb n own.known.0 lo) in
            let same : t.entry.request ≡ n = alone (changes_behind n x) r.asked (leb-true (count_by (changes_behind n x) r.asked) 1 few) t.entry.request n a found.0 its.1 behind found.1 first in
            left_it ∙ ap (λ o. byte_left o x) (sym its.1 ∙ ap (λ k. asked_at k r.asked) same) ∙ e

        -- a READ that arrived behind all first replies
        module _ (b m : ℕ) (is_last_read : last_number (gets x) r.asked ≡ Some m) (later_than_all : list_any (changes_behind m x) r.asked ≡ false) (got : byte_got (asked_at m r.asked) x ≡ Some b) where
          reading : HasAt (gets x) r.asked m
          reading = last_has (gets x) r.asked m is_last_read

          reads : (is_read reading.0 ≡ true) × (list_any (λ (p : Piece). holds p x) reading.0.pieces ≡ true)
          reads = and_parts (is_read reading.0) (list_any (λ (p : Piece). holds p x) reading.0.pieces) reading.2

          succeeds : ((reading.0.command == commands.READ) ≡ true) × (is_success reading.0.outcome ≡ true)
          succeeds = and_parts (reading.0.command == commands.READ) (is_success reading.0.outcome) reads.0

          command : reading.0.command ≡ commands.READ
          command = eqb-true reading.0.command commands.READ succeeds.0

          lies : is_in reading.0.offset reading.0.length x ≡ true
          lies =
              let h = holding x reading.0.pieces reads.1 in
              let w = (sound_asked r sound m reading.0 reading.1).1.laid.inside h.0 h.1 h.2 in
              let v = from_in (piece_offset h.1) (piece_size h.1) x h.3 in
              in_from reading.0.offset reading.0.length x (omega (arith, w.0, v.0)) (omega (arith, w.1, v.1))

          read_entry : ServesAt order m x
          read_entry =
              let due = due_read m reading.0 reading.1 (times m reading.0 reading.1 (answered reading.0.outcome succeeds.1)) in
              served m due.0 reading.0 reading.1 due.1
              (inside_request m reading.0 reading.1 (ap (λ c. not (c == commands.BLOCK_STATUS)) command) (ap has_range command) lies)

          -- it is served behind the last change
          read_behind : t.place < read_entry.0
          read_behind = elim (cases_lt t.place read_entry.0) [
            | inl l ↦ l
            | inr l ↦ absurd (cc (arrived read_entry.0 read_entry.1 m read_entry.2 read_entry.3 l, any_false (changes_behind m x) r.asked later_than_all t.entry.request a its.1))
          ]

          before_it : byte_before (effects r) order initial read_entry.0 x ≡ Some byte.0
          before_it =
              ap (λ o. byte_or_start o initial x) (touch_taken (effects r) x order read_entry.0 (λ i d l at. (let w = read_behind in after i d (omega (arith, w, l)) at)) ∙ touched)
              ∙ ap (λ e. effect_byte e x) (sym its.2) ∙ byte.1

          by_read : left r order initial x ≡ Some b
          by_read = elim (cases_eq byte.0 b) [
            | inl e ↦ left_it ∙ byte.1 ∙ ap Some e
            | inr other ↦ absurd (right read_entry.0 x (
              read_entry.1,
              read_entry.2,
              (
                effect reading.0,
                ap (effects r) read_entry.3 ∙ ap (option_map effect) reading.1,
                (
                  inl command,
                  succeeds.1,
                  and_from (is_in reading.0.offset reading.0.length x) (in_part read_entry.1.part x) lies read_entry.4,
                  (byte.0, before_it, λ e. other (cc (e, got, reading.1))),
                ),
              ),
            ))
          ]

      changed : (b : ℕ) → (if is_last_alone r.asked n x then byte_left (asked_at n r.asked) x else byte_seen r.asked x (last_number (gets x) r.asked)) ≡ Some b → left r order initial x ≡ Some b
      changed b e = go (last_touch (effects r) x order) refl
        where
          go : (o : Option Effect) → last_touch (effects r) x order ≡ o → left r order initial x ≡ Some b
          go None k = absurd (cc (no_touch (effects r) x order k its_entry.0 its_entry.1 its_entry.2, its_touch))
          go (Some f) k = elim (cases_Bool (is_last_alone r.asked n x)) [
            | inl few ↦ by_itself f k b few (grind arith)
            | inr more ↦ (let s = seen r.asked x (last_number (gets x) r.asked) b (grind arith) in by_read f k b s.0 s.1 s.2 s.3)
          ]

    sure_left : (b : ℕ) → sure r initial x ≡ Some b → left r order initial x ≡ Some b
    sure_left b e = go (last_number (changes x) r.asked) refl e
      where
        go : (o : Option ℕ) → last_number (changes x) r.asked ≡ o → byte_behind_last r.asked initial x o ≡ Some b → left r order initial x ≡ Some b
        go None q e = unchanged b q e
        go (Some n) q e = (let w = given (are_open_at r.asked x) (may_leave_unknown r.asked n x) _ b e in changed n q w.0 w.1 b w.2)

pub sure_is_left : ExplainedPasses → SureIsLeft
sure_is_left only profile items order initial export x b run explained is below e =
    let passes = only profile items order initial run explained in
    sure_left profile (report items) (reports_are_sound profile items run) (timed items run) order passes.faultless export is x below (start_byte initial) passes.reads b e

-- where less was known at first, less is sure
sure_of_less : (asked : List Asked) (less more : ℕ → Option ℕ) (x b : ℕ) (last : Option ℕ) → (less x ≡ Some b → more x ≡ Some b) → byte_behind_last asked less x last ≡ Some b → byte_behind_last asked more x last ≡ Some b
sure_of_less asked less more x b last knows e = grind arith

pub sure_of_less_is_left : ExplainedPasses → SureOfLessIsLeft
sure_of_less_is_left only profile items order less more export run explained is knows x b below e =
    sure_is_left only profile items order more export x b run explained is below
    (sure_of_less (report items).asked (start_byte less) (start_byte more) x b (last_number (changes x) (report items).asked) (knows x b below) e)
