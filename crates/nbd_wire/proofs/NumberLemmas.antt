-- Bytes are the bytes of the numbers that stand in them.
use Rattle.nbd_wire.proofs.Common.{◌≡◌, ℕ, zero, suc, ◌+◌, ◌*◌, ◌/◌, ◌%◌, ◌<◌, ◌≤◌, ◌^◌, List, [], ◌∷◌, ◌++◌, length, take, drop, slice_index, refl, sym, ◌∙◌, ap, arith, div-one, mod-eq_of_lt, mul-add-div_right, one-le-pow, pow-succ', mul_assoc, mul-add-mod_self_right, div-mul-add, take-append-drop, drop-drop, byte_at, bytes_high_first, big_from, big_bytes, big_number, big_from-cons, big_from-lt, AreBytes, number_at}

byte_at-pow : (k x : ℕ) → byte_at k x ≡ x / 256 ^ k % 256
byte_at-pow k x = grind (arith, div-one)

pow_pos : (n : ℕ) → zero < 256 ^ n
pow_pos n = let h = one-le-pow n 256 (omega arith) in omega arith

-- what stands above n bytes is not seen in them
bytes-above : (n c y : ℕ) → bytes_high_first n (c * 256 ^ n + y) ≡ bytes_high_first n y
bytes-above zero c y = refl
bytes-above (suc n) c y =
    let up : c * 256 ^ suc n ≡ c * 256 * 256 ^ n = ap (λ x. c * x) (pow-succ' 256 n) ∙ sym (mul_assoc c 256 (256 ^ n)) in
    let top : byte_at n (c * 256 * 256 ^ n + y) ≡ byte_at n y =
    byte_at-pow n (c * 256 * 256 ^ n + y) ∙ ap (λ q. q % 256) (mul-add-div_right (pow_pos n) (c * 256) y) ∙ mul-add-mod_self_right c 256 (y / 256 ^ n) ∙ sym (byte_at-pow n y) in
    ap (λ v. bytes_high_first (suc n) (v + y)) up ∙ ap (λ a. a ∷ bytes_high_first n (c * 256 * 256 ^ n + y)) top ∙ ap (λ l. byte_at n y ∷ l) (bytes-above n (c * 256) y)

pub slice_index-byte : (xs : List ℕ) → AreBytes xs → (k : ℕ) → slice_index xs k < 256
slice_index-byte [] h k = omega arith
slice_index-byte (x ∷ xs) h zero = h.0
slice_index-byte (x ∷ xs) h (suc k) = slice_index-byte xs h.1 k

pub AreBytes-drop : (n : ℕ) (xs : List ℕ) → AreBytes xs → AreBytes (drop n xs)
AreBytes-drop zero xs h = h
AreBytes-drop (suc n) [] h = tt
AreBytes-drop (suc n) (x ∷ xs) h = AreBytes-drop n xs h.1

pub bytes_of_number : (n : ℕ) (xs : List ℕ) → n ≤ length xs → AreBytes xs → bytes_high_first n (big_from 0 n xs) ≡ take n xs
bytes_of_number zero xs h b = refl
bytes_of_number (suc n) [] h b = absurd (omega arith)
bytes_of_number (suc n) (x ∷ xs) h b =
    let y : ℕ = big_from 0 n xs in
    let low : y < 256 ^ n = big_from-lt 0 n xs (slice_index-byte xs b.1) in
    let is : big_from 0 (suc n) (x ∷ xs) ≡ x * 256 ^ n + y = ap (λ r. x * 256 ^ n + r) (big_from-cons 0 n x xs) in
    let top : byte_at n (x * 256 ^ n + y) ≡ x = byte_at-pow n (x * 256 ^ n + y) ∙ ap (λ q. q % 256) (div-mul-add x (256 ^ n) y low) ∙ mod-eq_of_lt b.0 in
    let rest : bytes_high_first n (x * 256 ^ n + y) ≡ take n xs = bytes-above n x y ∙ bytes_of_number n xs (omega arith) b.1 in
    ap (λ v. bytes_high_first (suc n) v) is ∙ ap (λ a. a ∷ bytes_high_first n (x * 256 ^ n + y)) top ∙ ap (λ l. x ∷ l) rest

-- a number of n bytes at place p, and what stands after it
pub with_number : (p n : ℕ) (bytes : List ℕ) (value : ℕ) (rest : List ℕ) → AreBytes bytes → n ≤ length (drop p bytes) → number_at p n bytes ≡ value → drop (p + n) bytes ≡ rest → drop p bytes ≡ big_bytes n value ++ rest
with_number p n bytes value rest b h v r =
    sym (take-append-drop n (drop p bytes))
    ∙ ap (λ l. l ++ drop n (drop p bytes)) (sym (bytes_of_number n (drop p bytes) h (AreBytes-drop p bytes b)))
    ∙ ap (λ x. big_bytes n x ++ drop n (drop p bytes)) v
    ∙ ap (λ l. big_bytes n value ++ l) (drop-drop n p bytes ∙ r)

pub number_at-lt : (p n : ℕ) (bytes : List ℕ) → AreBytes bytes → number_at p n bytes < 256 ^ n
number_at-lt p n bytes b = big_from-lt 0 n (drop p bytes) (slice_index-byte (drop p bytes) (AreBytes-drop p bytes b))

pub AreBytes-snoc : (bs : List ℕ) (b : ℕ) → AreBytes bs → b < 256 → AreBytes (bs ++ b ∷ [])
AreBytes-snoc [] b h lt = (lt, tt)
AreBytes-snoc (c ∷ bs) b h lt = (h.0, AreBytes-snoc bs b h.1 lt)

-- what a reader knows of its slice
pub AreBytes-from_places : (xs : List ℕ) → ((k : ℕ) → slice_index xs k < 256) → AreBytes xs
AreBytes-from_places [] h = tt
AreBytes-from_places (x ∷ xs) h = (h 0, AreBytes-from_places xs (λ k. h (suc k)))

-- what stands after p and n bytes stands at the beginning of what is left without them
pub number_at-drop : (p n width : ℕ) (bytes : List ℕ) → number_at (p + n) width bytes ≡ number_at 0 width (drop n (drop p bytes))
number_at-drop p n width bytes = ap (big_number width) (sym (drop-drop n p bytes))
