-- The least offset where bytes differ, piece by piece.
use Rattle.nbd_export.proofs.Common.{◌≡◌, ℕ, List, ◌+◌, ◌-◌, ◌<◌, ◌≤◌, sym, ◌∙◌, subst, ap, Option, Some, None, arith, slice_get, length, ⊎_elim, get_or, take, drop, cases_lt, get_or-drop, get_or-take, length-drop, length-take, slice_get-get_or, DiffersIn, IsLeast, bytes_from}

-- a property that none has below an offset, and none of the next n has
pub none_further : (P : ℕ → Type 0) (at n : ℕ) → ((x : ℕ) → x < at → P x → ⊥) → ((j : ℕ) → j < n → P (at + j) → ⊥) → (x : ℕ) → x < at + n → P x → ⊥
none_further P at n below here x l p = ⊎_elim
    (λ (m : x < at). below x m p)
    (λ (m : at ≤ x). here (x - at) (omega arith) (let is : x ≡ at + (x - at) = omega arith in subst P is p))
    (cases_lt x at)

-- two known bytes that differ
pub differs_from : (f g : ℕ → Option ℕ) (offset len x u v : ℕ) → f x ≡ Some u → g x ≡ Some v → (u ≡ v → ⊥) → offset ≤ x → x < offset + len → DiffersIn f offset len g x
differs_from f g offset len x u v a b ne lo hi = (lo, hi, (u, a, λ e. ne (let s : Some u ≡ Some v = sym e ∙ b in cc)))

-- two known bytes that are the same
pub same_from : (f g : ℕ → Option ℕ) (offset len x u v : ℕ) → f x ≡ Some u → g x ≡ Some v → u ≡ v → DiffersIn f offset len g x → ⊥
same_from f g offset len x u v a b e d = d.2.2 (b ∙ ap Some (sym e) ∙ sym a ∙ d.2.1)

-- the bytes of a part of a slice, laid from the part's offset on, are those of the slice
pub bytes_from-part : (offset done n j : ℕ) (bytes : List ℕ) → done + n ≤ length bytes → j < n → bytes_from offset bytes (offset + done + j) ≡ Some (get_or (take (done + n - done) (drop done bytes)) j 0)
bytes_from-part offset done n j bytes fits l =
    let at : (offset + done + j) - offset ≡ done + j = omega arith in
    ap (slice_get bytes) at ∙ slice_get-get_or bytes (done + j) 0 (omega arith) ∙ ap Some (sym (get_or-take (done + n - done) (drop done bytes) j 0 (omega arith) ∙ get_or-drop done bytes j 0))

-- the next m bytes compared, where none before them differs: u and v are what f and g say of them
module _ (f g : ℕ → Option ℕ) (offset len at m : ℕ) (u v : ℕ → ℕ)
    (lo : offset ≤ at) (hi : at + m ≤ offset + len)
    (left : (j : ℕ) → j < m → f (at + j) ≡ Some (u j)) (right : (j : ℕ) → j < m → g (at + j) ≡ Some (v j))
    (below : (x : ℕ) → x < at → DiffersIn f offset len g x → ⊥) where
  -- none of them differs
  pub none_unequal : ((j : ℕ) → (j < m) × (u j ≡ v j → ⊥) → ⊥) → (x : ℕ) → x < at + m → DiffersIn f offset len g x → ⊥
  none_unequal h = none_further (DiffersIn f offset len g) at m below
      (λ j l d. h j (l, λ e. same_from f g offset len (at + j) (u j) (v j) (left j l) (right j l) e d))

  -- this is the first of them that differs
  pub least_unequal : (i : ℕ) → ((i < m) × (u i ≡ v i → ⊥)) × ((k : ℕ) → k < i → (k < m) × (u k ≡ v k → ⊥) → ⊥) → IsLeast (DiffersIn f offset len g) (Some (at + i))
  least_unequal i h =
      let within : i < m = h.0.0 in (
        differs_from f g offset len (at + i) (u i) (v i) (left i within) (right i within) h.0.1 (omega arith) (omega arith),
        none_further (DiffersIn f offset len g) at i below
            (λ j l d. let m : j < m = omega arith in h.1 j l (m, λ e. same_from f g offset len (at + j) (u j) (v j) (left j m) (right j m) e d)),
      )

-- the same bytes laid from a part's offset on
pub bytes_from-same : (offset done n x : ℕ) (bytes : List ℕ) → done + n ≤ length bytes → offset + done ≤ x → x < offset + done + n → bytes_from offset bytes x ≡ bytes_from (offset + done) (take (done + n - done) (drop done bytes)) x
bytes_from-same offset done n x bytes fits lo hi =
    let piece = take (done + n - done) (drop done bytes) in
    let j = x - (offset + done) in
    let is : x ≡ offset + done + j = omega arith in
    let len : length piece ≡ n = simp (length-take, length-drop) (omega arith) in
    ap (bytes_from offset bytes) is ∙ bytes_from-part offset done n j bytes fits (omega arith) ∙ sym (slice_get-get_or piece j 0 (omega arith))

-- no byte below the range differs in it
pub none_below : (f g : ℕ → Option ℕ) (offset len x : ℕ) → x < offset → DiffersIn f offset len g x → ⊥
none_below f g offset len x l d = (let lo : offset ≤ x = d.0 in omega arith)

-- unknown bytes do not differ from any
pub none_unknown : (f g : ℕ → Option ℕ) (offset len : ℕ) → ((x : ℕ) → offset ≤ x → x < offset + len → f x ≡ None) → (x : ℕ) → DiffersIn f offset len g x → ⊥
none_unknown f g offset len h x d = (let no : None ≡ Some d.2.0 = sym (h x d.0 d.1) ∙ d.2.1 in absurd (cc))

-- neither do known bytes that are the given ones
pub none_same : (f g : ℕ → Option ℕ) (offset len : ℕ) → ((x : ℕ) → offset ≤ x → x < offset + len → f x ≡ g x) → (x : ℕ) → DiffersIn f offset len g x → ⊥
none_same f g offset len h x d = d.2.2 (sym (h x d.0 d.1) ∙ d.2.1)

-- bytes that are the same in the range differ where those do
along : (f h g : ℕ → Option ℕ) (offset len : ℕ) → ((x : ℕ) → offset ≤ x → x < offset + len → f x ≡ h x) → (x : ℕ) → DiffersIn f offset len g x → DiffersIn h offset len g x
along f h g offset len same x d = (d.0, d.1, (d.2.0, sym (same x d.0 d.1) ∙ d.2.1, d.2.2))

pub least_along : (f h g : ℕ → Option ℕ) (offset len : ℕ) (r : Option ℕ) → ((x : ℕ) → offset ≤ x → x < offset + len → f x ≡ h x) → IsLeast (DiffersIn h offset len g) r → IsLeast (DiffersIn f offset len g) r
least_along f h g offset len (Some n) same l =
    (along h f g offset len (λ x lo hi. sym (same x lo hi)) n l.0, λ m b d. l.1 m b (along f h g offset len same m d))
least_along f h g offset len None same l = λ n d. l n (along f h g offset len same n d)

-- the n bytes from an offset on, compared with bytes that are the given ones there, where none before them differs
module _ (f g h : ℕ → Option ℕ) (offset len at n : ℕ) (lo : offset ≤ at) (hi : at + n ≤ offset + len)
    (same : (x : ℕ) → at ≤ x → x < at + n → g x ≡ h x)
    (below : (x : ℕ) → x < at → DiffersIn f offset len g x → ⊥) where
  -- none of them differs
  pub none_in_part : ((x : ℕ) → DiffersIn f at n h x → ⊥) → (x : ℕ) → x < at + n → DiffersIn f offset len g x → ⊥
  none_in_part none x l d = ⊎_elim
      (λ (m : x < at). below x m d)
      (λ (m : at ≤ x). none x (m, l, (d.2.0, d.2.1, λ e. d.2.2 (same x m l ∙ e))))
      (cases_lt x at)

  -- this is the first of them that differs
  pub least_in_part : (x : ℕ) → IsLeast (DiffersIn f at n h) (Some x) → IsLeast (DiffersIn f offset len g) (Some x)
  least_in_part x l =
      let from : at ≤ x = l.0.0 in
      let to : x < at + n = l.0.1 in (
        (omega arith, omega arith, (l.0.2.0, l.0.2.1, λ e. l.0.2.2 (sym (same x from to) ∙ e))),
        λ m b d. ⊎_elim
            (λ (k : m < at). below m k d)
            (λ (k : at ≤ m). (let within : m < at + n = omega arith in l.1 m b (k, within, (d.2.0, d.2.1, λ e. d.2.2 (same m k within ∙ e)))))
            (cases_lt m at),
      )

-- a byte of those laid from an offset on
pub bytes_from-here : (offset j : ℕ) (bytes : List ℕ) → j < length bytes → bytes_from offset bytes (offset + j) ≡ Some (get_or bytes j 0)
bytes_from-here offset j bytes l = ap (slice_get bytes) (let is : (offset + j) - offset ≡ j = omega arith in is) ∙ slice_get-get_or bytes j 0 l
