-- The forms of a capture line, taken apart.
use Rattle.nbd_capture.proofs.{Common.{◌≡◌, ℕ, ◌⊎◌, List, [], ◌∷◌, Err, arith, Side, AreDigits, Chunk, IsCaptureLine, hash, letter, space, decode_of, FromHexError}, DigitLemmas.decodes, ReadingLemmas.IsFunctional}

-- an empty line, or a comment
abbrev pub IsSilent : List ℕ → Type 0
IsSilent line = (line ≡ []) ⊎ ((anything : List ℕ) × (line ≡ hash ∷ anything))

-- a line that stands for a chunk
pub record Sends (line : List ℕ) (said : List Chunk) : Type 0 where
  pub side : Side
  pub digits : List ℕ
  pub bytes : List ℕ
  pub spelled : AreDigits digits bytes
  pub whole : line ≡ letter side ∷ space ∷ digits
  pub all : said ≡ record { side = side; bytes = bytes } ∷ []

pub forms : (line : List ℕ) (said : List Chunk) → IsCaptureLine line said → (IsSilent line × (said ≡ [])) ⊎ Sends line said
forms line said h = grind arith

-- a silent line begins with no side's letter
pub silent_sends : (line : List ℕ) (side : Side) (digits : List ℕ) → IsSilent line → line ≡ letter side ∷ space ∷ digits → ⊥
silent_sends line side digits h e = grind arith

-- a line's letter and digits are its own
pub same_parts : (s t : Side) (a b : List ℕ) → letter s ∷ space ∷ a ≡ letter t ∷ space ∷ b → (s ≡ t) × (a ≡ b)
same_parts s t a b e = grind arith

pub same_bytes : (digits other a b : List ℕ) → digits ≡ other → AreDigits digits a → AreDigits other b → a ≡ b
same_bytes digits other a b e da db = grind (arith, decodes)

-- a capture line stands for one list of chunks
pub one_saying : IsFunctional IsCaptureLine
one_saying line a b fa fb = grind (arith, forms, silent_sends, same_parts, same_bytes)

-- a line whose digits do not decode is malformed
pub undecodable : (line : List ℕ) (side : Side) (digits : List ℕ) (e : FromHexError)
    → line ≡ letter side ∷ space ∷ digits → decode_of digits ≡ Err e → (said : List Chunk) → IsCaptureLine line said → ⊥
undecodable line side digits e whole bad said f = grind (arith, forms, silent_sends, same_parts, decodes)
