-- The tests of a request at one offset.
use Rattle.nbd_order.proofs.Common.{◌≡◌, ℕ, ◌<◌, refl, inl, inr, ◌∙◌, ap, Option, Some, None, Bool, true, false, not, ◌&&◌, ◌||◌, ◌==◌, nat_le, nat_lt, arith, if◌then◌else◌, IsTrue, is_some, and_parts, eqb-true, ltb-true, or_cases, Profile, Base, Wide, effect, option_map, is_success, GivesByte, Exporting, has_range, byte_at, is_in, Asked, Report, asked_at, due_by_chunk, due_of, first_shown, inside_asked, lesser_of, size_of, due_at, gives_byte, reads_at, IsBefore, IsReadAt}
use Rattle.nbd_judge.proofs.orders.TableLemmas.{some_of}
use Rattle.nbd_wire.specs.declared.commands.TheConstants as commands

-- what gives a byte has a range, and may have something inside
given : (a : Asked) (x : ℕ) → gives_byte a x ≡ true → GivesByte (effect a) x × ((a.proper || not (a.command == commands.BLOCK_STATUS)) ≡ true) × (has_range a.command ≡ true)
given a x h = elim (or_cases (a.command == commands.READ) ((a.command == commands.BLOCK_STATUS) && (a.proper && is_some (byte_at a.pieces x))) h) [
  | inl q ↦ (inl (eqb-true a.command commands.READ q), grind (arith, eqb-true), grind arith)
  | inr q ↦ (inr (grind (arith, eqb-true), grind arith), grind arith, grind (arith, eqb-true))
]

-- x lies inside a request with a range
pub lies_inside : (export : Option Exporting) (a : Asked) (x : ℕ) → (a.proper || not (a.command == commands.BLOCK_STATUS)) ≡ true → has_range a.command ≡ true → is_in a.offset a.length x ≡ true → nat_lt x (size_of export) ≡ true
    → IsTrue (inside_asked export (Some a) x)
lies_inside None a x n c i l = absurd (let q : x < 0 = ltb-true x 0 l in omega arith)
lies_inside (Some e) a x n c i l = grind arith

pub read_at : (profile : Profile) (r : Report) (k x : ℕ) (a : Asked) → asked_at k r.asked ≡ Some a → reads_at profile r.export a x ≡ true → IsReadAt profile r x k
read_at profile r k x a at h =
    let one = and_parts (gives_byte a x) _ h in
    let two = and_parts (is_success a.outcome) _ one.1 in
    let three = and_parts (is_some (due_at profile r.export a x)) _ two.1 in
    let four = and_parts (is_in a.offset a.length x) (nat_lt x (size_of r.export)) three.1 in
    let gives = given a x one.0 in
    let due = some_of (due_at profile r.export a x) three.0 in
    record {
      gave = record {
        read = effect a;
        is_request = ap (option_map effect) at;
        is_read = gives.0;
        succeeded = two.0;
        inside = ap (λ o. inside_asked r.export o x) at ∙ lies_inside r.export a x gives.1 gives.2 four.0 four.1;
      };
      is_due = (due.0, ap (λ o. due_of profile (inside_asked r.export o) o x) at ∙ due.1);
    }

-- a number that is there, and below k
abbrev pub IsBelow : Option ℕ → (k : ℕ) → Type 0
IsBelow o k = (n : ℕ) × (o ≡ Some n) × (n < k)

-- the lesser of two is below what the second one is below
lesser_below : (o p : Option ℕ) (k : ℕ) → IsBelow p k → IsBelow (lesser_of o p) k
lesser_below o None k h = absurd (cc)
lesser_below None (Some m) k h = h
lesser_below (Some n) (Some m) k h = (if nat_le n m then n else m, refl, (let e : m ≡ h.0 = cc in grind (arith, h.2)))

-- a request of which the first message of its reply started, and the last had come, before k was complete was due before
ended_below : (profile : Profile) (within : ℕ → Bool) (a : Asked) (x k : ℕ) → IsBelow a.known_at k → IsBelow a.ended_at k → IsBelow (due_of profile within (Some a) x) k
ended_below Base within a x k known ended = known
ended_below Wide within a x k known ended = go (a.command == commands.READ)
  where
    go : (b : Bool) → IsBelow (if b then due_by_chunk within a x else a.known_at) k
    go true = lesser_below (if within x then first_shown a.shown x else None) a.ended_at k ended
    go false = known

pub ended_before : (profile : Profile) (r : Report) (j k x : ℕ) (a : Asked) → asked_at j r.asked ≡ Some a → IsBelow a.known_at k → IsBelow a.ended_at k
    → IsBefore profile r x j k
ended_before profile r j k x a at known ended =
    let h = ended_below profile (inside_asked r.export (Some a)) a x k known ended in
    (h.0, ap (λ o. due_of profile (inside_asked r.export o) o x) at ∙ h.1, h.2)
