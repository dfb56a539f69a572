-- A status chunk's payload: `status_of` gives exactly what has the form.
use Rattle.nbd_wire.proofs.Common.{◌≡◌, ℕ, zero, suc, ◌+◌, ◌*◌, ◌/◌, ◌%◌, ◌<◌, ◌≤◌, ◌^◌, ◌==◌, ◌||◌, List, [], ◌∷◌, ◌++◌, length, drop, not, Option, Some, None, Bool, true, false, nat_le, if◌then◌else◌, refl, sym, ◌∙◌, ap, arith, length-drop, append_assoc, subst, All, option_map, eqb-false, eqb-true, leb-false, leb-true, ne_eqb, All-cons, All-head, All-nil, All-tail, none-some, same_Some, big_bytes, big_number-reads_back, AreBytes, Extent, Status, HasStatusForm, with_extents, extents_in, extents_of, has_empty, number_at, status_of, ReadsAs}
use Rattle.nbd_wire.proofs.{HeadLemmas.{with_known, with_next}, NumberLemmas.{AreBytes-drop, number_at-lt}, ReadLemmas.{Reads-found, Reads-none}}

-- bytes that are too short hold no descriptor, others the first and those behind it
pub extents-none : (bytes : List ℕ) → length bytes < 8 → extents_of false bytes ≡ []
extents-none bytes l = ap (λ n. extents_in 4 n bytes) (let none : length bytes / 8 ≡ 0 = omega (arith, l) in none)

pub extents-first : (bytes : List ℕ) → 8 ≤ length bytes → extents_of false bytes ≡ record { length = number_at 0 4 bytes; flags = number_at 4 4 bytes } ∷ extents_of false (drop 8 bytes)
extents-first bytes l = grind (arith, length-drop)

pub wide-none : (bytes : List ℕ) → length bytes < 16 → extents_of true bytes ≡ []
wide-none bytes l = ap (λ n. extents_in 8 n bytes) (let none : length bytes / 16 ≡ 0 = omega (arith, l) in none)

pub wide-first : (bytes : List ℕ) → 16 ≤ length bytes → extents_of true bytes ≡ record { length = number_at 0 8 bytes; flags = number_at 8 8 bytes } ∷ extents_of true (drop 16 bytes)
wide-first bytes l = grind (arith, length-drop)

abbrev Fit : (width : ℕ) → Extent → Type 0
Fit width x = (0 < x.length) × (x.length < 256 ^ width) × (x.flags < 256 ^ width)

no_bytes : (bytes : List ℕ) → length bytes ≡ 0 → bytes ≡ []
no_bytes [] e = refl
no_bytes (x ∷ bytes) e = absurd (cc)

neither : (a b : Bool) → (a || b) ≡ false → (a ≡ false) × (b ≡ false)
neither a b e = grind arith

module _ (width : ℕ) where
  extents_in-some : (n : ℕ) (bytes : List ℕ) → 0 < n → extents_in width n bytes ≡ [] → ⊥
  extents_in-some n bytes l e = grind arith

  extents_in-length : (n : ℕ) (bytes : List ℕ) → length (extents_in width n bytes) ≡ n
  extents_in-length zero bytes = refl
  extents_in-length (suc n) bytes = ap suc (extents_in-length n (drop (width + width) bytes))

  extents_in-fit : (n : ℕ) (bytes : List ℕ) → AreBytes bytes → has_empty (extents_in width n bytes) ≡ false → All (Fit width) (extents_in width n bytes)
  extents_in-fit zero bytes b e = All-nil (Fit width)
  extents_in-fit (suc n) bytes b e =
      let later : List Extent = extents_in width n (drop (width + width) bytes) in
      let p = neither (number_at 0 width bytes == 0) (has_empty later) e in
      let some : number_at 0 width bytes ≡ 0 → ⊥ = eqb-false (number_at 0 width bytes) 0 p.0 in
      All-cons (Fit width) (record { length = number_at 0 width bytes; flags = number_at width width bytes }) later
      (omega (arith, some), number_at-lt 0 width bytes b, number_at-lt width width bytes b)
      (extents_in-fit n (drop (width + width) bytes) (AreBytes-drop (width + width) bytes b) p.1)

  with_extents-full : (xs : List Extent) → All (Fit width) xs → has_empty xs ≡ false
  with_extents-full [] f = refl
  with_extents-full (x ∷ xs) f =
      let h = All-head (Fit width) x xs f in
      ap (λ b. b || has_empty xs) (ne_eqb x.length 0 (λ e. omega (arith, e, h.0))) ∙ with_extents-full xs (All-tail (Fit width) x xs f)

-- whole descriptors are the bytes that they are read from, and are read back from their bytes
short-bytes : (n : ℕ) (bytes : List ℕ) → AreBytes bytes → length bytes ≡ 8 * n → bytes ≡ with_extents 4 (extents_in 4 n bytes)
short-bytes zero bytes b e = no_bytes bytes (omega (arith, e))
short-bytes (suc n) bytes b e = grind (arith, length-drop, with_next, append_assoc, short-bytes n (drop 8 bytes) (AreBytes-drop 8 bytes b))

wide-bytes : (n : ℕ) (bytes : List ℕ) → AreBytes bytes → length bytes ≡ 16 * n → bytes ≡ with_extents 8 (extents_in 8 n bytes)
wide-bytes zero bytes b e = no_bytes bytes (omega (arith, e))
wide-bytes (suc n) bytes b e =
    let later : drop 16 bytes ≡ with_extents 8 (extents_in 8 n (drop 16 bytes)) = wide-bytes n (drop 16 bytes) (AreBytes-drop 16 bytes b) (length-drop 16 bytes ∙ omega (arith, e)) in
    with_next 0 8 bytes _ b (omega (arith, e)) (with_next 8 8 bytes _ b (omega (arith, e)) later)
    ∙ sym (append_assoc (big_bytes 8 (number_at 0 8 bytes)) (big_bytes 8 (number_at 8 8 bytes)) (with_extents 8 (extents_in 8 n (drop 16 bytes))))

short-only : (xs : List Extent) → All (Fit 4) xs → extents_in 4 (length xs) (with_extents 4 xs) ≡ xs
short-only [] f = refl
short-only (x ∷ xs) f =
    let h = All-head (Fit 4) x xs f in
    let size : number_at 0 4 (big_bytes 4 x.length ++ big_bytes 4 x.flags ++ with_extents 4 xs) ≡ x.length = big_number-reads_back 4 x.length (big_bytes 4 x.flags ++ with_extents 4 xs) h.1 in
    let flags : number_at 4 4 (big_bytes 4 x.length ++ big_bytes 4 x.flags ++ with_extents 4 xs) ≡ x.flags = big_number-reads_back 4 x.flags (with_extents 4 xs) h.2 in
    let later : extents_in 4 (length xs) (with_extents 4 xs) ≡ xs = short-only xs (All-tail (Fit 4) x xs f) in
    (λ i. record { length = size i; flags = flags i } ∷ later i)

wide-only : (xs : List Extent) → All (Fit 8) xs → extents_in 8 (length xs) (with_extents 8 xs) ≡ xs
wide-only [] f = refl
wide-only (x ∷ xs) f =
    let h = All-head (Fit 8) x xs f in
    let size : number_at 0 8 (big_bytes 8 x.length ++ big_bytes 8 x.flags ++ with_extents 8 xs) ≡ x.length = big_number-reads_back 8 x.length (big_bytes 8 x.flags ++ with_extents 8 xs) h.1 in
    let flags : number_at 8 8 (big_bytes 8 x.length ++ big_bytes 8 x.flags ++ with_extents 8 xs) ≡ x.flags = big_number-reads_back 8 x.flags (with_extents 8 xs) h.2 in
    let later : extents_in 8 (length xs) (with_extents 8 xs) ≡ xs = wide-only xs (All-tail (Fit 8) x xs f) in
    (λ i. record { length = size i; flags = flags i } ∷ later i)

short-length : (xs : List Extent) → length (with_extents 4 xs) ≡ 8 * length xs
short-length [] = refl
short-length (x ∷ xs) = let e = short-length xs in omega (arith, e)

wide-length : (xs : List Extent) → length (with_extents 8 xs) ≡ 16 * length xs
wide-length [] = refl
wide-length (x ∷ xs) = let e = wide-length xs in omega (arith, e)

-- where the descriptors begin
abbrev pub behind : (extended : Bool) → ℕ
behind false = 4
behind true = 8

-- what is read of a payload that has the form
abbrev pub seen_in : (extended : Bool) → List ℕ → Status
seen_in extended bytes = record { id = number_at 0 4 bytes; extents = extents_of extended (drop (behind extended) bytes) }

-- the three tests of a payload
abbrev pub IsWhole : (extended : Bool) → List ℕ → Type 0
IsWhole false bytes = (12 ≤ length bytes) × (length (drop 4 bytes) % 8 ≡ 0) × (has_empty (extents_of false (drop 4 bytes)) ≡ false)
IsWhole true bytes = (24 ≤ length bytes) × (length (drop 8 bytes) ≡ 16 * number_at 4 4 bytes) × (has_empty (extents_of true (drop 8 bytes)) ≡ false)

status-found : (extended : Bool) (bytes : List ℕ) → AreBytes bytes → IsWhole extended bytes → HasStatusForm extended (seen_in extended bytes) bytes
unfolding HasStatusForm
status-found extended bytes b w = grind (arith, length-drop, number_at-lt, extents_in-some, extents_in-fit, with_next, short-bytes, extents_in-length, with_known, wide-bytes)

some_of : (xs : List Extent) → (xs ≡ [] → ⊥) → 0 < length xs
some_of [] n = absurd (n refl)
some_of (x ∷ xs) n = omega arith

status-only : (extended : Bool) (status : Status) (bytes : List ℕ) → HasStatusForm extended status bytes → IsWhole extended bytes × (seen_in extended bytes ≡ status)
unfolding HasStatusForm
status-only false status bytes h =
    let xs : List Extent = status.extents in
    let size : length (with_extents 4 xs) ≡ 8 * length xs = short-length xs in
    let count : length (with_extents 4 xs) / 8 ≡ length xs = omega (arith, size) in
    let read : extents_of false (with_extents 4 xs) ≡ xs = ap (λ n. extents_in 4 n (with_extents 4 xs)) count ∙ short-only xs h.2 in
    let some : 0 < length xs = some_of xs h.1 in
    subst (λ l. IsWhole false l × (seen_in false l ≡ status)) (sym h.3) (
      (omega (arith, size, some), omega (arith, size), ap has_empty read ∙ with_extents-full 4 xs h.2),
      (λ i. record { id = big_number-reads_back 4 status.id (with_extents 4 xs) (omega (arith, h.0)) i; extents = read i }),
    )
status-only true status bytes h =
    let xs : List Extent = status.extents in
    let size : length (with_extents 8 xs) ≡ 16 * length xs = wide-length xs in
    let count : length (with_extents 8 xs) / 16 ≡ length xs = omega (arith, size) in
    let read : extents_of true (with_extents 8 xs) ≡ xs = ap (λ n. extents_in 8 n (with_extents 8 xs)) count ∙ wide-only xs h.2 in
    let some : 0 < length xs = some_of xs h.1 in
    let told : number_at 4 4 (big_bytes 4 status.id ++ big_bytes 4 (length xs) ++ with_extents 8 xs) ≡ length xs = big_number-reads_back 4 (length xs) (with_extents 8 xs) (omega (arith, h.3)) in
    subst (λ l. IsWhole true l × (seen_in true l ≡ status)) (sym h.4) (
      (omega (arith, size, some), omega (arith, size, told), ap has_empty read ∙ with_extents-full 8 xs h.2),
      (λ i. record { id = big_number-reads_back 4 status.id (big_bytes 4 (length xs) ++ with_extents 8 xs) (omega (arith, h.0)) i; extents = read i }),
    )

-- what is read of a whole payload, and of another one
pub data Told (extended : Bool) (bytes : List ℕ) : Type 0 where
  whole : IsWhole extended bytes → status_of extended bytes ≡ Some (seen_in extended bytes) → Told extended bytes
  broken : (IsWhole extended bytes → ⊥) → status_of extended bytes ≡ None → Told extended bytes

abbrev answer : (extended long even empty : Bool) → List ℕ → Option Status
answer extended long even empty bytes = if not long || not even || empty then None else Some (seen_in extended bytes)

short-told : (bytes : List ℕ) → Told false bytes
unfolding status_of
short-told bytes = grind (arith, nat_le, leb-false, eqb-false, leb-true, eqb-true)

wide-told : (bytes : List ℕ) → Told true bytes
unfolding status_of
wide-told bytes = grind (arith, nat_le, leb-false, eqb-false, leb-true, eqb-true)

pub status-told : (extended : Bool) (bytes : List ℕ) → Told extended bytes
status-told false bytes = short-told bytes
status-told true bytes = wide-told bytes

-- the payload has the form of this status
abbrev pub Says : (extended : Bool) → List ℕ → Status → Type 0
Says extended bytes status = HasStatusForm extended status bytes

module _ (extended : Bool) where
  -- an answer that gives the status that is read
  pub status-reads : {R : Type 0} (seen : R → Status) (answer : Option R) (bytes : List ℕ) → AreBytes bytes → option_map seen answer ≡ status_of extended bytes → ReadsAs seen answer (Says extended bytes)
  status-reads seen answer bytes b e = go answer e (status-told extended bytes)
    where
      go : (answer : Option _) → option_map seen answer ≡ status_of extended bytes → Told extended bytes → ReadsAs seen answer (Says extended bytes)
      go None e (broken n is) = Reads-none (Says extended bytes) (λ other f. n (status-only extended other bytes f).0)
      go None e (whole w is) = absurd (none-some (seen_in extended bytes) (e ∙ is))
      go (Some r) e (broken n is) = absurd (none-some (seen r) (sym is ∙ sym e))
      go (Some r) e (whole w is) =
          Reads-found (Says extended bytes) (seen r) (seen_in extended bytes) (same_Some (seen r) (seen_in extended bytes) (e ∙ is)) (status-found extended bytes b w) (λ other f. (status-only extended other bytes f).1)

  pub status-none : (bytes : List ℕ) → (IsWhole extended bytes → ⊥) → status_of extended bytes ≡ None
  status-none bytes n = grind (arith, status-told)

  pub status-some : (bytes : List ℕ) → IsWhole extended bytes → status_of extended bytes ≡ Some (seen_in extended bytes)
  status-some bytes w = grind (arith, status-told)
