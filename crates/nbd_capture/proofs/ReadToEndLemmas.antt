-- What the steps of a reader of captures say of the whole text.
use Rattle.nbd_capture.proofs.Common.{◌≡◌, ℕ, suc, ◌+◌, ◌<◌, ◌≤◌, length, List, [], ◌∷◌, ◌++◌, IfSome, sym, ap, ◌∙◌, subst, arith, append_assoc, append-nil, IsUnbroken, line_feed, empty, line, formless, unended, later, Chunk, IsCaptureText, IsFirstBadCaptureLine, CaptureFault, Line, Memory, Read, IsReaderFault, NamesFirstBadLine, Reading, Reads, ReadsToEnd, Refuses, lines_ended}
use Rattle.nbd_capture.proofs.{FormLemmas.one_saying, ReadingLemmas.rest_reading, ReadingStepLemmas.{ended-append, one_ended, reads-append, still_known, text-append, takes-append}}

-- the steps up to the end, one after another
pub reads_to_end : (a b c : Reading) (xs ys : List Chunk) → Reads a b xs → ReadsToEnd b c ys → ReadsToEnd a c (xs ++ ys)
reads_to_end a b c xs ys past last = grind (arith, reads-append, still_known)

-- chunks that were read to the end are the text's, and it had room
pub whole_text : (old new : Reading) (chunks : List Chunk) → ReadsToEnd old new chunks → IfSome old.rest (λ text. IsCaptureText text chunks × (length text ≤ old.room))
whole_text old new chunks read = grind (arith, append-nil)

-- a bad line after lines with a form is the first bad one
later_bad : (text : List ℕ) (chunks : List Chunk) (rest : List ℕ) → IsCaptureText text chunks → IsFirstBadCaptureLine rest 1 → IsFirstBadCaptureLine (text ++ rest) (lines_ended text + 1)
later_bad text chunks rest empty bad = bad
later_bad text chunks rest (line bytes said more values u f r) bad =
    let next = later_bad more values rest r bad in
    let counted : suc (lines_ended more + 1) ≡ lines_ended (bytes ++ line_feed ∷ more) + 1 =
    let one = one_ended bytes u in
    let parts = ended-append bytes (line_feed ∷ more) in
    let ends = ended-append bytes (line_feed ∷ []) in
    let first : lines_ended (line_feed ∷ more) ≡ 1 + lines_ended more = ended-append (line_feed ∷ []) more in
    omega (arith, one, parts, ends, first) in
    rw append_assoc (subst (λ n. IsFirstBadCaptureLine (bytes ++ line_feed ∷ (more ++ rest)) n) counted (later bytes said (more ++ rest) (lines_ended more + 1) u f next))

positive : (text : List ℕ) (n : ℕ) → IsFirstBadCaptureLine text n → 0 < n
positive text n h = grind arith

-- what stands after a bad line that its LF ends does not matter, and after the last line without an LF nothing does
still_bad : (bad rest : List ℕ) → IsFirstBadCaptureLine bad 1 → (IsUnbroken bad → rest ≡ []) → IsFirstBadCaptureLine (bad ++ rest) 1
still_bad bad rest (formless bytes more u none) over = rw append_assoc (formless bytes (more ++ rest) u none)
still_bad bad rest (unended byte bytes u) over =
    let nothing : (byte ∷ bytes) ++ rest ≡ byte ∷ bytes = ap (λ l. (byte ∷ bytes) ++ l) (over u) ∙ append-nil (byte ∷ bytes) in
    subst (λ t. IsFirstBadCaptureLine t 1) (sym nothing) (unended byte bytes u)
still_bad bad rest (later bytes said more n u f b) over = absurd (let some = positive more n b in omega (arith, some))

-- a line that is refused after chunks that were read from the start is the text's first bad one
pub first_bad : (start now after : Reading) (chunks : List Chunk) (n : ℕ) → start.lines ≡ 0 → Reads start now chunks → Refuses now after n
    → IfSome start.rest (λ text. IsFirstBadCaptureLine text n)
first_bad start now after chunks n none past refused = grind (arith, takes-append, text-append, ended-append, append_assoc, later_bad, still_bad, still_known)

-- the same of any fault
pub names_first_bad : (start now after : Reading) (chunks : List Chunk) (fault : CaptureFault) → start.lines ≡ 0 → Reads start now chunks → IsReaderFault now after fault
    → NamesFirstBadLine start.rest fault
names_first_bad start now after chunks (Line n) none past refused = first_bad start now after chunks n none past refused
names_first_bad start now after chunks Read none past fault = tt
names_first_bad start now after chunks Memory none past fault = tt

-- where the text has a reading, the chunks that were read are its next ones
pub next_of_text : (old new : Reading) (chunks all : List Chunk) → Reads old new chunks
    → IfSome old.rest (λ text. IsCaptureText text all → (more : List Chunk) × (all ≡ chunks ++ more) × IfSome new.rest (λ rest. IsCaptureText rest more))
next_of_text old new chunks all reads = grind (arith, rest_reading, one_saying)
