use Rattle.nbd_lines.proofs.Common.{◌≡◌, ℕ, ◌<◌, ◌≤◌, List, [], ◌∷◌, ◌++◌, slice_index_or, arith, Form, Greeting, ClientFlags, Choice, Answer, Exported, Request, Simple, Chunk, ExtendedRequest, ExtendedChunk, words}
use Rattle.nbd_lines.proofs.reading.form_at.Goals as goal

abbrev all : List Form
all = Greeting ∷ ClientFlags ∷ Choice ∷ Answer ∷ Exported ∷ Request ∷ Simple ∷ Chunk ∷ ExtendedRequest ∷ ExtendedChunk ∷ []

-- each form stands in the list
each : (line : List ℕ) (n : ℕ) → 10 ≤ n → ((k : ℕ) → k < n → (rest : List ℕ) → line ≡ words (slice_index_or all k Greeting) ++ rest → ⊥)
    → (form : Form) (rest : List ℕ) → line ≡ words form ++ rest → ⊥
each line n h none Greeting rest e = none 0 (omega arith) rest e
each line n h none ClientFlags rest e = none 1 (omega arith) rest e
each line n h none Choice rest e = none 2 (omega arith) rest e
each line n h none Answer rest e = none 3 (omega arith) rest e
each line n h none Exported rest e = none 4 (omega arith) rest e
each line n h none Request rest e = none 5 (omega arith) rest e
each line n h none Simple rest e = none 6 (omega arith) rest e
each line n h none Chunk rest e = none 7 (omega arith) rest e
each line n h none ExtendedRequest rest e = none 8 (omega arith) rest e
each line n h none ExtendedChunk rest e = none 9 (omega arith) rest e

pub returns : goal.returns
returns c = each c.args.line.now c.loop-form.form-index c.loop-form-test.false c.loop-form.invariant
