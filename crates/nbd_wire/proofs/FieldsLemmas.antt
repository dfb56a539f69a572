-- Numbers that stand in bytes one behind the other, each in its width.
use Rattle.nbd_wire.proofs.{Common.{◌≡◌, ℕ, ◌+◌, ◌<◌, ◌^◌, List, [], ◌∷◌, ◌++◌, length, drop, refl, sym, ◌∙◌, ap, subst, arith, length-drop, append-nil, drop_all, drop-drop, drop-append_seam, big_bytes, big_number, big_number-reads_back, length-bytes_high_first, AreBytes, number_at}, NumberLemmas.{with_number, number_at-lt}}
use Rattle.std.proofs.lemmas.List.{append_assoc}

-- a width in bytes, and a number
abbrev pub Field : Type 0
Field = ℕ × ℕ

-- their bytes
abbrev pub bytes_of : List Field → List ℕ
bytes_of [] = []
bytes_of (f ∷ fs) = big_bytes f.0 f.1 ++ bytes_of fs

-- how many those are
abbrev pub total : List Field → ℕ
total [] = 0
total (f ∷ fs) = f.0 + total fs

-- each number has its width
abbrev pub AreFit : List Field → Type 0
AreFit [] = Unit {0}
AreFit (f ∷ fs) = (f.1 < 256 ^ f.0) × AreFit fs

-- they stand in the bytes from p on
abbrev pub AreAt : ℕ → List Field → List ℕ → Type 0
AreAt p [] bytes = Unit {0}
AreAt p (f ∷ fs) bytes = (number_at p f.0 bytes ≡ f.1) × AreAt (p + f.0) fs bytes

-- bytes from p on are theirs, and each has its width
pub record AreTheirs (p : ℕ) (fs : List Field) (bytes : List ℕ) : Type 0 where
  pub is : drop p bytes ≡ bytes_of fs
  pub fit : AreFit fs

found_from : (p : ℕ) (fs : List Field) (bytes : List ℕ) → AreBytes bytes → length bytes ≡ p + total fs → AreAt p fs bytes → AreTheirs p fs bytes
found_from p [] bytes b l h = record { is = drop_all p bytes (omega (arith, l)); fit = tt }
found_from p (f ∷ fs) bytes b l h = grind (arith, with_number, length-drop, number_at-lt, found_from (p + f.0) fs bytes b)

-- bytes in which they stand, and nothing else, are theirs
pub found : (fs : List Field) (bytes : List ℕ) → AreBytes bytes → length bytes ≡ total fs → AreAt 0 fs bytes → AreTheirs 0 fs bytes
found fs bytes b l h = found_from 0 fs bytes b (omega (arith, l)) h

places_from : (p : ℕ) (fs : List Field) (bytes rest : List ℕ) → AreFit fs → drop p bytes ≡ bytes_of fs ++ rest → AreAt p fs bytes
places_from p [] bytes rest fit is = tt
places_from p (f ∷ fs) bytes rest fit is =
    let apart : drop p bytes ≡ big_bytes f.0 f.1 ++ (bytes_of fs ++ rest) = is ∙ append_assoc (big_bytes f.0 f.1) (bytes_of fs) rest in
    let behind : drop f.0 (big_bytes f.0 f.1 ++ (bytes_of fs ++ rest)) ≡ bytes_of fs ++ rest =
    subst (λ (n : ℕ). drop n (big_bytes f.0 f.1 ++ (bytes_of fs ++ rest)) ≡ bytes_of fs ++ rest) (length-bytes_high_first f.0 f.1) (drop-append_seam (big_bytes f.0 f.1) (bytes_of fs ++ rest)) in (
      ap (big_number f.0) apart ∙ big_number-reads_back f.0 f.1 (bytes_of fs ++ rest) fit.0,
      places_from (p + f.0) fs bytes rest fit.1 (sym (drop-drop f.0 p bytes) ∙ ap (drop f.0) apart ∙ behind),
    )

-- in their bytes and any behind them they stand
pub places : (fs : List Field) (rest : List ℕ) → AreFit fs → AreAt 0 fs (bytes_of fs ++ rest)
places fs rest fit = places_from 0 fs (bytes_of fs ++ rest) rest fit refl

-- the same where nothing is behind them
pub only : (fs : List Field) (bytes : List ℕ) → AreFit fs → bytes ≡ bytes_of fs → AreAt 0 fs bytes
only fs bytes fit is = places_from 0 fs bytes [] fit (is ∙ sym (append-nil (bytes_of fs)))
