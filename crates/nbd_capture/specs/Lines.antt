-- Texts as sequences of lines, each ended by a line feed: what the grammars of captures and of orders share.
use Rattle.std.specs.{Prelude.{◌≢◌, ℕ, suc, List, [], ◌∷◌, ◌++◌}, List.AllByRecursion}

-- LF, the byte that ends a line
abbrev pub line_feed : ℕ
line_feed = 10

-- no LF is among these bytes
abbrev pub IsUnbroken : List ℕ → Type 0
IsUnbroken bytes = AllByRecursion (λ b. b ≢ line_feed) bytes

-- A grammar of lines, `Form`, relates the bytes of a line, without its LF, to the values that the line stands for.

-- A text and the values that its lines stand for, in order. A text without bytes has no lines; any other one begins
-- with a line that has a form, and the LF that ends the line.
pub data IsText {V : Type 0} (Form : List ℕ → List V → Type 0) : List ℕ → List V → Type 0 where
  empty : IsText Form [] []
  line : (bytes : List ℕ) (said : List V) (rest : List ℕ) (values : List V)
      → IsUnbroken bytes → Form bytes said → IsText Form rest values
      → IsText Form (bytes ++ line_feed ∷ rest) (said ++ values)

-- A text and the number, from 1, of its first bad line: a line that no form describes, or bytes with no LF after them.
pub data IsFirstBadLine {V : Type 0} (Form : List ℕ → List V → Type 0) : List ℕ → ℕ → Type 0 where
  formless : (bytes rest : List ℕ)
      → IsUnbroken bytes → ((said : List V) → Form bytes said → ⊥) → IsFirstBadLine Form (bytes ++ line_feed ∷ rest) 1
  unended : (byte : ℕ) (bytes : List ℕ) → IsUnbroken (byte ∷ bytes) → IsFirstBadLine Form (byte ∷ bytes) 1
  later : (bytes : List ℕ) (said : List V) (rest : List ℕ) (number : ℕ)
      → IsUnbroken bytes → Form bytes said → IsFirstBadLine Form rest number
      → IsFirstBadLine Form (bytes ++ line_feed ∷ rest) (suc number)
