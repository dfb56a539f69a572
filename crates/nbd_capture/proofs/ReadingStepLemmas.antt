-- Steps of a reader of captures: what pieces, lines and chunks that were read one after another are together.
use Rattle.nbd_capture.proofs.Common.{◌≡◌, ℕ, ◌+◌, List, [], ◌∷◌, ◌++◌, refl, sym, ap, subst, arith, append_assoc, append-nil, OnSome, Option, Consumes, IsAtEnd, Keeps, Consumes-trans, Keeps-refl, ne_eqb, length-append, sum_by-append, CaptureFault, Line, Memory, Read, IsUnbroken, IsText, line_feed, empty, line, formless, unended, Chunk, IsCaptureLine, IsCaptureText, IsReaderFault, Reading, Reads, Refuses, StopsWithin, Takes, lines_ended, IsChunkFault}

-- ---- line feeds

pub ended-append : (a b : List ℕ) → lines_ended (a ++ b) ≡ lines_ended a + lines_ended b
ended-append a b = sum_by-append _ a b

pub none_ended : (bytes : List ℕ) → IsUnbroken bytes → lines_ended bytes ≡ 0
none_ended [] u = refl
none_ended (b ∷ bs) u = let other = ne_eqb b line_feed u.0 in let rest = none_ended bs u.1 in rw other (omega (arith, rest))

pub one_ended : (bytes : List ℕ) → IsUnbroken bytes → lines_ended (bytes ++ line_feed ∷ []) ≡ 1
one_ended bytes u = let all = ended-append bytes (line_feed ∷ []) in let none = none_ended bytes u in omega (arith, all, none)

pub unbroken-append : (a b : List ℕ) → IsUnbroken a → IsUnbroken b → IsUnbroken (a ++ b)
unbroken-append [] b ua ub = ub
unbroken-append (x ∷ xs) b ua ub = (ua.0, unbroken-append xs b ua.1 ub)

pub ended_breaks : (bytes : List ℕ) → IsUnbroken (bytes ++ line_feed ∷ []) → ⊥
ended_breaks [] u = u.0 refl
ended_breaks (b ∷ bs) u = ended_breaks bs u.1

-- ---- bytes that were taken

pub takes_none : (old new : Reading) → Keeps old.rest new.rest → new.room ≡ old.room → new.lines ≡ old.lines → Takes old new []
takes_none old new kept room lines = grind arith

pub takes-append : (a b c : Reading) (xs ys : List ℕ) → Takes a b xs → Takes b c ys → Takes a c (xs ++ ys)
takes-append a b c xs ys p q = grind (arith, Consumes-trans, length-append, ended-append)

-- what holds where the bytes are known still holds where some of them were taken
pub still_known : (a b : Option (List ℕ)) (P : Type 0) (bytes : List ℕ) → Consumes a b bytes → OnSome b P → OnSome a P
still_known a b P bytes taken h = grind arith

-- ---- lines

pub text-append : {V : Type 0} (Form : List ℕ → List V → Type 0) (a b : List ℕ) (xs ys : List V) → IsText Form a xs → IsText Form b ys → IsText Form (a ++ b) (xs ++ ys)
text-append Form a b xs ys empty q = q
text-append Form a b xs ys (line bytes said rest values u f r) q =
    let more = text-append Form rest b values ys r q in
    rw (append_assoc bytes (line_feed ∷ rest) b, append_assoc said values ys) (line bytes said (rest ++ b) (values ++ ys) u f more)

pub one_line : (bytes : List ℕ) (said : List Chunk) → IsUnbroken bytes → IsCaptureLine bytes said → IsCaptureText (bytes ++ line_feed ∷ []) said
one_line bytes said u f = subst (λ vs. IsText IsCaptureLine (bytes ++ line_feed ∷ []) vs) (append-nil said) (line bytes said [] [] u f empty)

pub reads_none : (old new : Reading) → Takes old new [] → Reads old new []
reads_none old new takes = record { bytes = []; takes = takes; is_text = empty }

pub reads_same : (old new : Reading) → new ≡ old → Reads old new []
reads_same old new same = reads_none old new (takes_none old new (subst (λ r. Keeps old.rest r.rest) (sym same) (Keeps-refl old.rest)) (ap (λ r. r.room) same) (ap (λ r. r.lines) same))

pub reads-append : (a b c : Reading) (xs ys : List Chunk) → Reads a b xs → Reads b c ys → Reads a c (xs ++ ys)
reads-append a b c xs ys p q = record {
  bytes = p.bytes ++ q.bytes;
  takes = takes-append a b c p.bytes q.bytes p.takes q.takes;
  is_text = text-append IsCaptureLine p.bytes q.bytes xs ys p.is_text q.is_text;
}

pub reads_line : (a b : Reading) (bytes : List ℕ) (said : List Chunk) → Takes a b (bytes ++ line_feed ∷ []) → IsUnbroken bytes → IsCaptureLine bytes said → Reads a b said
reads_line a b bytes said takes u f = record { bytes = bytes ++ line_feed ∷ []; takes = takes; is_text = one_line bytes said u f }

-- ---- faults after lines that give no chunk

pub stops : (a b c : Reading) (bytes : List ℕ) → Reads a b [] → Takes b c bytes → IsUnbroken bytes → StopsWithin a c
stops a b c bytes past takes u = record { silent = past.bytes; part = bytes; takes = takes-append a b c past.bytes bytes past.takes takes; is_text = past.is_text; unbroken = u }

pub refuses_line : (a b c : Reading) (bytes : List ℕ) → Reads a b [] → Takes b c (bytes ++ line_feed ∷ []) → IsUnbroken bytes
    → ((said : List Chunk) → IsCaptureLine bytes said → ⊥) → Refuses a c c.lines
refuses_line a b c bytes past takes u none = record {
  silent = past.bytes;
  bad = bytes ++ line_feed ∷ [];
  takes = takes-append a b c past.bytes (bytes ++ line_feed ∷ []) past.takes takes;
  is_text = past.is_text;
  is_bad = formless bytes [] u none;
  ended = λ unbroken. absurd (ended_breaks bytes unbroken);
  is_number = let one = one_ended bytes u in omega (arith, one, takes.counted, past.takes.counted);
}

pub refuses_end : (a b c : Reading) (bytes : List ℕ) → Reads a b [] → Takes b c bytes → IsUnbroken bytes → (bytes ≡ [] → ⊥) → OnSome b.rest (IsAtEnd c.rest) → Refuses a c (c.lines + 1)
refuses_end a b c [] past takes u some end = absurd (some refl)
refuses_end a b c (byte ∷ bytes) past takes u some end = record {
  silent = past.bytes;
  bad = byte ∷ bytes;
  takes = takes-append a b c past.bytes (byte ∷ bytes) past.takes takes;
  is_text = past.is_text;
  is_bad = unended byte bytes u;
  ended = λ _. still_known a.rest b.rest _ past.bytes past.takes.consumed end;
  is_number = let none = none_ended (byte ∷ bytes) u in omega (arith, none, takes.counted, past.takes.counted);
}

pub refuses_chunk : (a b c : Reading) (bytes : List ℕ) (fault : CaptureFault) → Reads a b [] → Takes b c (bytes ++ line_feed ∷ []) → IsUnbroken bytes
    → IsChunkFault bytes c.lines fault → IsReaderFault a c fault
refuses_chunk a b c bytes (Line n) past takes u fault = subst (λ m. Refuses a c m) (sym fault.0) (refuses_line a b c bytes past takes u fault.1)
refuses_chunk a b c bytes Read past takes u fault = absurd fault
refuses_chunk a b c bytes Memory past takes u fault = (past.bytes ++ (bytes ++ line_feed ∷ []), takes-append a b c past.bytes (bytes ++ line_feed ∷ []) past.takes takes)
