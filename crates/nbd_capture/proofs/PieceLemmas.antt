-- What one look at a reader's bytes gives of a line.
use Rattle.nbd_capture.proofs.Common.{◌≡◌, ℕ, Bool, true, true≢false, Ok, Err, refl, IsTrue, ◌+◌, ◌-◌, ◌<◌, ◌≤◌, List, [], ◌∷◌, ◌++◌, length, take, sym, ap, subst, ◌∙◌, arith, ◌==◌, false, take-take, length-take-le, IfSome, Option, StartsWith, Consumes, Keeps, DropsConsumable, Consumes_shown, length-append, append_assoc, append-nil, take-append-add, IsUnbroken, line_feed, CaptureFault, Line, Memory, Read, LineFeed, Text, Last, Chunk, IsCaptureLine, IsReaderFault, Reading, Reads, Refuses, Takes, IsChunkFault, Adds, IsKept, IsPartOf, Kept, IsLine, IsPiece}
use Rattle.nbd_capture.proofs.ReadingStepLemmas.{none_ended, one_ended, reads-append, reads_line, refuses_chunk, refuses_end, still_known, stops, takes-append, unbroken-append}
use Rattle.nbd_capture.specs.declared.source.Piece.TheVariants.{End, Part}

pub some_left : (bytes : List ℕ) → false ≡ (length bytes == 0) → 0 < length bytes
some_left bytes some = grind arith

-- what a look at a reader showed, and what consuming from it does then
pub record Look (a b c : Option (List ℕ)) (buffered : Option ℕ) (shown : List ℕ) (n : ℕ) : Type 0 where
  pub front : IfSome a (λ xs. StartsWith xs shown)
  pub end : IfSome a (λ xs. length shown ≡ 0 → xs ≡ [])
  pub kept : Keeps a b
  pub fits : IfSome a (λ _. IfSome buffered (λ k. length shown ≤ k))
  pub drops : DropsConsumable b c buffered n

consumed : (a b c : Option (List ℕ)) (buffered : Option ℕ) (shown bytes : List ℕ) (n : ℕ) → Look a b c buffered shown n → n ≤ length shown → take n shown ≡ bytes → Consumes a c bytes
consumed a b c buffered shown bytes n look within same =
    subst (Consumes a c) same (Consumes_shown a b c buffered shown n within look.front look.end look.kept look.fits look.drops).0

-- a line ends within the part of what was shown that the text may have
pub takes_last : (old new : Reading) (b : Option (List ℕ)) (buffered : Option ℕ) (shown part : List ℕ) (m n : ℕ) (before after : Kept)
    → Look old.rest b new.rest buffered shown n → m ≤ length shown → m ≤ old.room → IsPartOf (take m shown) part n true → Adds before after part
    → new.room ≡ old.room - n → new.lines ≡ old.lines + 1 → IsPiece old new before after (Ok Last)
takes_last old new b buffered shown part m n before after look within fits (rest, split, u, count) adds room lines =
    let long : length (part ++ line_feed ∷ rest) ≡ length part + (length rest + 1) = let e = length-append part (line_feed ∷ rest) in omega (arith, e) in
    let size : length (take m shown) ≡ m = length-take-le m shown within in
    let same : m ≡ length part + (length rest + 1) = sym size ∙ ap length split ∙ long in
    let whole : length (part ++ line_feed ∷ []) ≡ length part + 1 = let e = length-append part (line_feed ∷ []) in omega (arith, e) in
    let inner : length part + 1 ≤ m = omega (arith, same) in
    let shorter : take (length part + 1) shown ≡ part ++ line_feed ∷ [] =
    sym (take-take (length part + 1) m shown inner) ∙ ap (take (length part + 1)) split ∙ take-append-add part (line_feed ∷ rest) 1 in (
      part,
      record {
        consumed = consumed old.rest b new.rest buffered shown (part ++ line_feed ∷ []) n look (omega (arith, count, inner, within)) (ap (λ k. take k shown) count ∙ shorter);
        fits = omega (arith, count, whole, room, inner, fits);
        counted = let one = one_ended part u in omega (arith, one, lines);
      },
      u,
      adds,
    )

-- no line ends within it
pub takes_part : (old new : Reading) (b : Option (List ℕ)) (buffered : Option ℕ) (shown part : List ℕ) (m n : ℕ) (before after : Kept)
    → Look old.rest b new.rest buffered shown n → m ≤ length shown → m ≤ old.room → IsPartOf (take m shown) part n false → 0 < length (take m shown) → Adds before after part
    → new.room ≡ old.room - n → new.lines ≡ old.lines → IsPiece old new before after (Ok Part)
takes_part old new b buffered shown part m n before after look within fits h some adds room lines = grind (arith, length-take-le, consumed, none_ended)

-- of a line these bytes were taken, and they are kept
pub record Begins (old new : Reading) (kept : Kept) : Type 0 where
  pub bytes : List ℕ
  pub takes : Takes old new bytes
  pub unbroken : IsUnbroken bytes
  pub is_kept : IsKept kept bytes

-- one more part of it
pub begins_on : (start now next : Reading) (before after : Kept) → Begins start now before → IsPiece now next before after (Ok Part) → Begins start next after
begins_on start now next before after b (bytes, takes, unbroken, some, adds) = record {
  bytes = b.bytes ++ bytes;
  takes = takes-append start now next b.bytes bytes b.takes takes;
  unbroken = unbroken-append b.bytes bytes b.unbroken unbroken;
  is_kept = adds b.bytes b.is_kept;
}

-- its last part, with its LF; or none, where the text ends, or a fault was met
pub begins_whole : (start now next : Reading) (before after : Kept) → Begins start now before → IsPiece now next before after (Ok Last) → IsLine start next after (Ok LineFeed)
begins_whole start now next before after b (bytes, takes, unbroken, adds) = (
  b.bytes ++ bytes,
  subst (Takes start next) (sym (append_assoc b.bytes bytes (line_feed ∷ []))) (takes-append start now next b.bytes (bytes ++ line_feed ∷ []) b.takes takes),
  unbroken-append b.bytes bytes b.unbroken unbroken,
  adds b.bytes b.is_kept,
)

no_more : (start now next : Reading) (before : Kept) (b : Begins start now before) → Takes now next [] → Takes start next b.bytes
no_more start now next before b takes = subst (Takes start next) (append-nil b.bytes) (takes-append start now next b.bytes [] b.takes takes)

pub begins_last : (start now next : Reading) (before after : Kept) → Begins start now before → IsPiece now next before after (Ok End) → IsLine start next after (Ok Text)
begins_last start now next before after b h = grind (arith, no_more, still_known, consumed)

pub begins_fault : (start now next : Reading) (before after : Kept) (fault : CaptureFault) → Begins start now before → IsPiece now next before after (Err fault) → IsLine start next after (Err fault)
begins_fault start now next before after fault b h = grind (arith, no_more)

-- a line that could not be read whole, after lines that give no chunk
pub no_line : (a b c : Reading) (kept : Kept) (fault : CaptureFault) → Reads a b [] → IsLine b c kept (Err fault) → IsReaderFault a c fault
no_line a b c kept (Line n) past h = absurd h
no_line a b c kept Read past h = stops a b c h.0 past h.1 h.2
no_line a b c kept Memory past h = (past.bytes ++ h.0, takes-append a b c past.bytes h.0 past.takes h.1)

-- a line that was read, after lines that give no chunk
pub next_line : (a b c : Reading) (kept : Kept) (said : List Chunk) → Reads a b [] → IsLine b c kept (Ok LineFeed) → ((line : List ℕ) → IsKept kept line → IsCaptureLine line said) → Reads a c said
next_line a b c kept said past h form = reads-append a b c [] said past (reads_line b c h.0 said h.1 h.2 (form h.0 h.3))

pub bad_line : (a b c : Reading) (kept : Kept) (fault : CaptureFault) → Reads a b [] → IsLine b c kept (Ok LineFeed)
    → ((line : List ℕ) → IsKept kept line → IsChunkFault line c.lines fault) → IsReaderFault a c fault
bad_line a b c kept fault past h bad = refuses_chunk a b c h.0 fault past h.1 h.2 (bad h.0 h.3)

-- the text ended within a line, or at one's begin
pub unended_line : (a b c : Reading) (kept : Kept) (empty : Bool) → Reads a b [] → IsLine b c kept (Ok Text) → ((line : List ℕ) → IsKept kept line → (IsTrue empty → line ≡ []) × (line ≡ [] → IsTrue empty))
    → empty ≡ false → Refuses a c (c.lines + 1)
unended_line a b c kept empty past h tests none = refuses_end a b c h.0 past h.1 h.2 (λ nothing. true≢false (sym ((tests h.0 h.3).1 nothing) ∙ none)) h.4

pub countable_end : (b c : Reading) (kept : Kept) (empty : Bool) → IsLine b c kept (Ok Text) → ((line : List ℕ) → IsKept kept line → (IsTrue empty → line ≡ []) × (line ≡ [] → IsTrue empty))
    → empty ≡ false → c.lines + 1 ≤ b.lines + b.room
countable_end b c kept empty h tests none =
    let lines = none_ended h.0 h.2 in
    let some = filled h.0 (λ nothing. true≢false (sym ((tests h.0 h.3).1 nothing) ∙ none)) in
    omega (arith, lines, some, h.1.fits, h.1.counted)
  where
    filled : (bytes : List ℕ) → (bytes ≡ [] → ⊥) → 0 < length bytes
    filled [] some = absurd (some refl)
    filled (b ∷ bs) some = omega arith
