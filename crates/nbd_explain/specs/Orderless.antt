-- What a run of `explain` without an order writes, where the reader and the writer state their bytes.
use Rattle.std.specs.{Prelude.{ℕ, List, ◌++◌, Option, Some, None, IfSome, codes}, Io.KnownBytes.Appends}
use Rattle.nbd_explain.specs.{Common.{Entry, Profile, Verdict, Pair, IsExplainedOf, Start, Chunk, IsCaptureText, IsChecked, Any, flat_of, IsYes, words}, Ordering.IsAnswered, declared.{ordering.Ordered.TheVariants.Refuted, answer.Answer.{Answer, TheVariants.{No, Open, Yes}}}}
use Rattle.nbd_explain.specs.declared.ordering.Ordered.TheVariants as ordered

-- this text was written, and some text behind it
abbrev pub BeginsWith : List ℕ → (old new : Option (List ℕ)) → Type 0
BeginsWith text old new = (explanation : List ℕ) × Appends old new (text ++ explanation)

-- the line of the verdict on an order, and that the order was found and not given
abbrev pub found_lines : Verdict → List ℕ
found_lines verdict = words verdict
    ++ codes "\norder: found, not given; 'nbdcheck order' with the same words writes it\n"

-- what is told of a capture's bytes from a start, in the profile, and how the text begins
pub data IsTold (profile : Profile) (capture : List Pair) (initial : Start) : Answer → List ℕ → Type 0 where
  -- an order explains it: the line of the yes that is the verdict on that order, and that it was found
  found : (entries : List Entry) (verdict : Verdict) → IsExplainedOf profile capture entries initial
      → IsChecked profile capture entries initial verdict → IsYes verdict
      → IsTold profile capture initial Yes (found_lines verdict)
  -- what `order` answers
  refuted : (text : List ℕ) → IsAnswered profile capture initial Any Refuted text
      → IsTold profile capture initial No text
  undecided : (text : List ℕ) → IsAnswered profile capture initial Any ordered.Open text
      → IsTold profile capture initial Open text

-- the text that was written begins so, where the start is known
abbrev pub IsToldFrom : Profile → List Pair → Option Start → (old new : Option (List ℕ)) → Answer → Type 0
IsToldFrom profile capture (Some initial) old new answer =
    (text : List ℕ) × IsTold profile capture initial answer text × BeginsWith text old new
IsToldFrom profile capture None old new answer = Unit {0}

-- the same of a capture text
pub record Tells (profile : Profile) (known : Option (List ℕ)) (initial : Option Start) (answer : Answer)
    (old new : Option (List ℕ)) : Type 0 where
  pub chunks : List Chunk
  pub is_text : IfSome known (λ text. IsCaptureText text chunks)
  pub is_told : IsToldFrom profile (flat_of chunks) initial old new answer
