-- What a run of `order --arrival` writes, where the reader and the writer state their bytes.
use Rattle.std.specs.{Prelude.{◌≡◌, ℕ, zero, suc, List, [], ◌++◌, Bool, true, false, Option, IfSome, codes, length}, Fmt.decimal, Io.KnownBytes.{Appends, Keeps}}
use Rattle.nbd_explain.specs.Common.{Profile, Pair, Item, pairs, report, IsRunOf, IsOfNoRunOf, Chunk, IsCaptureText, flat_of}

-- the numbers from 1 up to this one, a line each
abbrev pub number_lines : ℕ → List ℕ
number_lines zero = []
number_lines (suc n) = number_lines n ++ (decimal (suc n) ++ codes "\n")

-- some run of the profile has these bytes, and the numbers of its requests were written; or no such run has them, and
-- nothing was written
pub data HasArrival (profile : Profile) (capture : List Pair) (old new : Option (List ℕ)) : Bool → Type 0 where
  accepted : (items : List Item) → IsRunOf profile items → pairs items ≡ capture
      → Appends old new (number_lines (length (report items).asked))
      → HasArrival profile capture old new true
  refused : IsOfNoRunOf profile capture → Keeps old new → HasArrival profile capture old new false

-- the same of a capture text
pub record Arrives (profile : Profile) (known : Option (List ℕ)) (yes : Bool) (old new : Option (List ℕ)) : Type 0 where
  pub chunks : List Chunk
  pub is_text : IfSome known (λ text. IsCaptureText text chunks)
  pub arrival : HasArrival profile (flat_of chunks) old new yes
