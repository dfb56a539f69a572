-- What is known of a byte, by the kind of its range and the byte in its page, and ranges that were seen to be zeroes.
use Rattle.nbd_export.proofs.Common.{◌≡◌, ℕ, zero, suc, List, ◌+◌, ◌-◌, ◌<◌, ◌≤◌, ◌⊎◌, inl, inr, length, slice_index, refl, sym, ◌∙◌, ap, Option, Some, None, IsSome, Result, Ok, Err, OnErr, OnOk, arith, ⊎_elim, if◌then◌else◌, nat_le, nat_lt, and_from, and_left, and_right, cases_lt, le-leb, lt-leb, le-ltb, lt-ltb, slice_get-get_or, Extents, Kind, Unknown, Zeroes, Bytes, Kinds, Pages, byte_of, byte_by_kind, first_of_two, kind_at, kind_before, kind_from, kind_of, IsOfKind, stored_byte, AreSameBelow, DiffersIn, bytes_from, overlay, zeroes, HasZeroesAlone}

-- a byte in a range of this kind
pub byte_of-kind : (e : Extents) (x : ℕ) (kind : Kind) → kind_of e.kinds x ≡ Some kind → byte_of e x ≡ byte_by_kind (Some kind) (stored_byte e.pages x)
unfolding byte_of
byte_of-kind e x kind is = ap (λ o. byte_by_kind o (stored_byte e.pages x)) is

-- a byte of the same kind and with the same stored byte
pub byte_of-same : (p q : Extents) (x : ℕ) → kind_of q.kinds x ≡ kind_of p.kinds x → stored_byte q.pages x ≡ stored_byte p.pages x → byte_of q x ≡ byte_of p x
unfolding byte_of
byte_of-same p q x k s = ap (λ o. byte_by_kind o (stored_byte q.pages x)) k ∙ ap (byte_by_kind (kind_of p.kinds x)) s

-- inside a range the new bytes, before it and after it the old ones
pub changed_inside : (offset len x : ℕ) (new old : ℕ → Option ℕ) → offset ≤ x → x < offset + len → overlay offset len new old x ≡ new x
changed_inside offset len x new old lo hi = ap (λ b. if b then new x else old x) (and_from (nat_le offset x) (nat_lt x (offset + len)) (le-leb offset x lo) (lt-ltb x (offset + len) hi))

pub changed_before : (offset len x : ℕ) (new old : ℕ → Option ℕ) → x < offset → overlay offset len new old x ≡ old x
changed_before offset len x new old l = ap (λ b. if b then new x else old x) (and_left (nat_le offset x) (nat_lt x (offset + len)) (lt-leb offset x l))

changed_behind : (offset len x : ℕ) (new old : ℕ → Option ℕ) → offset + len ≤ x → overlay offset len new old x ≡ old x
changed_behind offset len x new old l = ap (λ b. if b then new x else old x) (and_right (nat_le offset x) (nat_lt x (offset + len)) (le-ltb x (offset + len) l))

-- the bytes around a range that was made of one kind
module _ (p q : Extents) (offset len size : ℕ) (kind : Kind) (new : ℕ → Option ℕ)
    (inside : (x : ℕ) → offset ≤ x → x < offset + len → kind_of q.kinds x ≡ Some kind)
    (before : (x : ℕ) → x < offset → kind_of q.kinds x ≡ kind_of p.kinds x)
    (behind : (x : ℕ) → offset + len ≤ x → x < size → kind_of q.kinds x ≡ kind_of p.kinds x)
    (stored_before : (x : ℕ) → x < offset → stored_byte q.pages x ≡ stored_byte p.pages x)
    (stored_behind : (x : ℕ) → offset + len ≤ x → stored_byte q.pages x ≡ stored_byte p.pages x)
    (bytes : (x : ℕ) → offset ≤ x → x < offset + len → byte_by_kind (Some kind) (stored_byte q.pages x) ≡ new x) where
  pub range_made : AreSameBelow size (byte_of q) (overlay offset len new (byte_of p))
  range_made x l = ⊎_elim
      (λ (m : x < offset). byte_of-same p q x (before x m) (stored_before x m) ∙ sym (changed_before offset len x new (byte_of p) m))
      (λ (m : offset ≤ x). ⊎_elim
      (λ (n : x < offset + len). byte_of-kind q x kind (inside x m n) ∙ bytes x m n ∙ sym (changed_inside offset len x new (byte_of p) m n))
      (λ (n : offset + len ≤ x). byte_of-same p q x (behind x n l) (stored_behind x n) ∙ sym (changed_behind offset len x new (byte_of p) n))
      (cases_lt x (offset + len)))
      (cases_lt x offset)

-- a byte that was written, laid from the range's offset on
pub written_byte : (offset x : ℕ) (bytes : List ℕ) (stored : ℕ → ℕ) → ((i : ℕ) → i < length bytes → stored (offset + i) ≡ slice_index bytes i) → offset ≤ x → x < offset + length bytes → Some (stored x) ≡ bytes_from offset bytes x
written_byte offset x bytes stored h lo hi =
    ap Some (ap stored (let is : x ≡ offset + (x - offset) = omega arith in is) ∙ h (x - offset) (omega arith))
    ∙ sym (slice_get-get_or bytes (x - offset) 0 (omega arith))

-- what was noted as seen changes no byte
pub byte_of-noted : (p q : Extents) → q.kinds ≡ p.kinds → q.pages ≡ p.pages → byte_of q ≡ byte_of p
unfolding byte_of
byte_of-noted p q k s =
    ap (λ (kinds : Kinds). λ x. byte_by_kind (kind_of kinds x) (stored_byte q.pages x)) k
    ∙ ap (λ (pages : Pages). λ x. byte_by_kind (kind_of p.kinds x) (stored_byte pages x)) s

-- where zeroes were seen no byte differs from them
pub seen_same : (e : Extents) (offset len : ℕ) → offset + len ≤ e.kinds.size → ((x : ℕ) → offset ≤ x → x < offset + len → kind_of e.seen x ≡ Some Zeroes) → (n : ℕ) → DiffersIn (byte_of e) offset len zeroes n → ⊥
unfolding byte_of
seen_same e offset len fits seen n d = d.2.2 (ap Some (sym (e.zeroes n d.2.0 (let hi = d.1 in omega arith) (seen n d.0 d.1) d.2.1)))

-- a number that cannot be other than 0
no_other : (b : ℕ) → ((Some 0 ≡ Some b → ⊥) → ⊥) → b ≡ 0
no_other zero h = refl
no_other (suc n) h = absurd (h (λ e. cc))

-- a range is noted, or all is as before
noted_or_not : {T E : Type 0} (r : Result T E) (old new : Kinds) (first end size x : ℕ)
    → OnOk r ((y : ℕ) → y < first → kind_of new y ≡ kind_of old y)
    → OnOk r ((y : ℕ) → end ≤ y → y < size → kind_of new y ≡ kind_of old y)
    → OnErr r ((y : ℕ) → kind_of new y ≡ kind_of old y)
    → x < size → ((first ≤ x) × (x < end)) ⊎ (kind_of new x ≡ kind_of old x)
noted_or_not (Ok v) old new first end size x before behind refused l = ⊎_elim
    (λ (m : x < first). inr (before x m))
    (λ (m : first ≤ x). ⊎_elim
    (λ (n : x < end). inl (m, n))
    (λ (n : end ≤ x). inr (behind x n l))
    (cases_lt x end))
    (cases_lt x first)
noted_or_not (Err e) old new first end size x before behind refused l = inr (refused x)

-- a range without a byte other than 0 can be noted as seen
pub zeroes_noted : {T E : Type 0} (r : Result T E) (e : Extents) (new : Kinds) (offset len : ℕ)
    → OnOk r ((y : ℕ) → y < offset → kind_of new y ≡ kind_of e.seen y)
    → OnOk r ((y : ℕ) → offset + len ≤ y → y < e.seen.size → kind_of new y ≡ kind_of e.seen y)
    → OnErr r ((y : ℕ) → kind_of new y ≡ kind_of e.seen y)
    → ((n : ℕ) → DiffersIn (byte_of e) offset len zeroes n → ⊥) → HasZeroesAlone new e.kinds e.pages
unfolding byte_of
zeroes_noted r e new offset len before behind refused none x b l seen known = ⊎_elim
    (λ (m : (offset ≤ x) × (x < offset + len)). no_other b (λ other. none x (m.0, m.1, (b, known, other))))
    (λ (m : kind_of new x ≡ kind_of e.seen x). e.zeroes x b l (sym m ∙ seen) known)
    (noted_or_not r e.seen new offset (offset + len) e.seen.size x before behind refused (let s = e.sizes in omega (arith, s)))

-- a byte in a range of this kind is of it
pub is_of_kind : (e : Extents) (x : ℕ) (kind : Kind) → kind_of e.kinds x ≡ Some kind → IsOfKind kind (byte_of e x)
unfolding byte_of
is_of_kind e x Unknown is = byte_of-kind e x Unknown is
is_of_kind e x Zeroes is = byte_of-kind e x Zeroes is
is_of_kind e x Bytes is = rw is refl

-- the range behind another one is of another kind
pub other_kind : (kinds : Kinds) (first end : ℕ) (kind : Kind) → first < end → IsSome (kind_from kinds.starts end)
    → ((x : ℕ) → first ≤ x → x < end → kind_of kinds x ≡ Some kind) → kind_of kinds end ≡ Some kind → ⊥
unfolding kind_at kind_before
other_kind kinds first zero kind lt begun inside same = absurd (omega arith)
other_kind kinds first (suc end) kind lt begun inside same = go (kind_from kinds.starts (suc end)) refl begun
  where
    go : (o : Option Kind) → kind_from kinds.starts (suc end) ≡ o → IsSome o → ⊥
    go None e some = cc some
    go (Some k) e some =
        let here : kind_of kinds (suc end) ≡ Some k = ap (λ o. first_of_two o (kind_at (kind_from kinds.starts) end)) e in
        let own : Some k ≡ Some kind = sym here ∙ same in
        kinds.apart (suc end) kind (e ∙ own) (inside end (omega arith) (omega arith))

-- the known bytes that were read, and the next ones behind them
pub known_more : (f : ℕ → Option ℕ) (offset done : ℕ) (old new more : List ℕ)
    → ((i : ℕ) → i < done → f (offset + i) ≡ Some (slice_index old i))
    → ((i : ℕ) → i < done → slice_index new i ≡ slice_index old i)
    → ((i : ℕ) → i < length more → slice_index new (done + i) ≡ slice_index more i)
    → ((i : ℕ) → i < length more → f (offset + done + i) ≡ Some (slice_index more i))
    → (i : ℕ) → i < done + length more → f (offset + i) ≡ Some (slice_index new i)
known_more f offset done old new more known before inside next i l = ⊎_elim
    (λ (m : i < done). known i m ∙ ap Some (sym (before i m)))
    (λ (m : done ≤ i).
    let is : offset + i ≡ offset + done + (i - done) = omega arith in
    let at : done + (i - done) ≡ i = omega arith in
    let lt : i - done < length more = omega arith in
    ap f is ∙ next (i - done) lt ∙ ap Some (sym (inside (i - done) lt) ∙ ap (slice_index new) at))
    (cases_lt i done)
