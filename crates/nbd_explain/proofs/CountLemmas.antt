-- How many bytes of a list or of a range are known.
use Rattle.nbd_explain.proofs.Common.{◌≡◌, ℕ, ◌+◌, ◌-◌, ◌<◌, ◌≤◌, zero, suc, refl, sym, ◌∙◌, ap, arith, Option, Some, None, Bool, true, false, List, if◌then◌else◌, is_some, length, ◌⊎◌}
use Rattle.std.specs.Prelude.{[], ◌∷◌, cond, count_by, is_none}
use Rattle.std.proofs.{Common.{⊎_elim}, lemmas.List.Sums.{sum_by-append, sum_by-cons}}
use Rattle.nbd_export.specs.{declared.kind.Kind.{Kind, TheVariants.{Bytes, Unknown, Zeroes}}, RangeKinds.IsOfKind}
unfoldable use Rattle.nbd_export.specs.Held.{held_from}
use Rattle.nbd_export.proofs.HeldLemmas.{held_from-append}

abbrev one_if_known : Option ℕ → ℕ
one_if_known o = cond (is_some o) 1 0

abbrev one_if_unknown : Option ℕ → ℕ
one_if_unknown o = cond (is_none o) 1 0

-- each byte is known or not
pub both_counts : (bytes : List (Option ℕ)) → count_by is_some bytes + count_by is_none bytes ≡ length bytes
both_counts [] = refl
both_counts (None ∷ bytes) =
    let rest = both_counts bytes in
    let here = sum_by-cons one_if_known None bytes in
    let other = sum_by-cons one_if_unknown None bytes in
    omega (arith, rest, here, other)
both_counts (Some b ∷ bytes) =
    let rest = both_counts bytes in
    let here = sum_by-cons one_if_known (Some b) bytes in
    let other = sum_by-cons one_if_unknown (Some b) bytes in
    omega (arith, rest, here, other)

-- of a range of which all bytes are known or none
in_range : (f : ℕ → Option ℕ) (b : Bool) (offset n : ℕ) → ((x : ℕ) → offset ≤ x → x < offset + n → is_some (f x) ≡ b) → count_by is_some (held_from f offset n) ≡ (if b then n else 0)
unfolding held_from
in_range f true offset zero h = refl
in_range f false offset zero h = refl
in_range f true offset (suc n) h =
    let rest = in_range f true (offset + 1) n (λ x lo hi. h x (omega arith) (omega arith)) in
    let first : one_if_known (f offset) ≡ 1 = ap (λ b. cond b 1 0) (h offset (omega arith) (omega arith)) in
    sum_by-cons one_if_known (f offset) (held_from f (offset + 1) n) ∙ (omega (arith, rest, first))
in_range f false offset (suc n) h =
    let rest = in_range f false (offset + 1) n (λ x lo hi. h x (omega arith) (omega arith)) in
    let first : one_if_known (f offset) ≡ 0 = ap (λ b. cond b 1 0) (h offset (omega arith) (omega arith)) in
    sum_by-cons one_if_known (f offset) (held_from f (offset + 1) n) ∙ (omega (arith, rest, first))

is_known : Kind → Bool
is_known Unknown = false
is_known Zeroes = true
is_known Bytes = true

known_of_kind : (kind : Kind) (o : Option ℕ) → IsOfKind kind o → is_some o ≡ is_known kind
unfolding is_known
known_of_kind Unknown o h = ap is_some h
known_of_kind Zeroes o h = ap is_some h
known_of_kind Bytes o h = h

known_kind : (kind : Kind) → (kind ≡ Zeroes) ⊎ (kind ≡ Bytes) → is_known kind ≡ true
unfolding is_known
known_kind kind is = ⊎_elim (λ e. ap is_known e) (λ e. ap is_known e) is

unknown_kind : (kind : Kind) → kind ≡ Unknown → is_known kind ≡ false
unfolding is_known
unknown_kind kind e = ap is_known e

counted_by_kind : (f : ℕ → Option ℕ) (kind : Kind) (b : Bool) (at end : ℕ) → is_known kind ≡ b → at < end → ((x : ℕ) → at ≤ x → x < end → IsOfKind kind (f x)) → count_by is_some (held_from f at (end - at)) ≡ (if b then end - at else 0)
counted_by_kind f kind b at end is lt h = in_range f b at (end - at) (λ x lo hi. known_of_kind kind (f x) (h x lo (omega arith)) ∙ is)

-- of a range of unknown bytes, and of another one
pub none_counted : (f : ℕ → Option ℕ) (kind : Kind) (at end : ℕ) → kind ≡ Unknown → at < end → ((x : ℕ) → at ≤ x → x < end → IsOfKind kind (f x)) → 0 ≡ count_by is_some (held_from f at (end - at))
none_counted f kind at end is lt h = sym (counted_by_kind f kind false at end (unknown_kind kind is) lt h)

pub all_counted : (f : ℕ → Option ℕ) (kind : Kind) (at end : ℕ) → (kind ≡ Zeroes) ⊎ (kind ≡ Bytes) → at < end → ((x : ℕ) → at ≤ x → x < end → IsOfKind kind (f x)) → end - at ≡ count_by is_some (held_from f at (end - at))
all_counted f kind at end is lt h = sym (counted_by_kind f kind true at end (known_kind kind is) lt h)

-- one more range
pub counted_more : (f : ℕ → Option ℕ) (at end count more : ℕ) → at ≤ end → count ≡ count_by is_some (held_from f 0 at) → more ≡ count_by is_some (held_from f at (end - at)) → count + more ≡ count_by is_some (held_from f 0 end)
counted_more f at end count more le before here =
    let whole : at + (end - at) ≡ end = omega arith in
    let from : at ≡ 0 + at = omega arith in
    ap (λ n. n + more) before
    ∙ ap (λ n. count_by is_some (held_from f 0 at) + n) (here ∙ ap (λ o. count_by is_some (held_from f o (end - at))) from)
    ∙ sym (sum_by-append one_if_known (held_from f 0 at) (held_from f (0 + at) (end - at)))
    ∙ ap (count_by is_some) (sym (held_from-append f 0 at (end - at)) ∙ ap (held_from f 0) whole)

-- none of no bytes
pub counted_none : (f : ℕ → Option ℕ) → 0 ≡ count_by is_some (held_from f 0 0)
unfolding held_from
counted_none f = refl
