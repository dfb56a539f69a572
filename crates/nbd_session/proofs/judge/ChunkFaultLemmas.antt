-- What a chunk and the end of its reply are refused for, by the sizes of pieces.
use Rattle.nbd_session.proofs.Common.{and_parts, ◌≡◌, ◌⊎◌, ℕ, ◌+◌, ◌≤◌, ◌==◌, if◌then◌else◌, eqb-true, List, [], ◌∷◌, ◌++◌, length, min, refl, sym, ◌∙◌, ap, arith, Bool, true, false, not, ◌||◌, nat_le, Option, Some, None, fold, subst, add_assoc, zero-add, is_some, Message, Failure, Piece, content_of, failure_of, status_of, Operation, Exporting, has_failed, is_error_chunk, is_failing, is_proper, pieces, has, piece_size, with_reply, WireFault, BadChunk, BadContent, option_to_list, Status, chunk_with, chunk_fails, chunk_gives, is_settled, status_in, done_by, elsewhere_fault, finish_by, is_status, lacks_by, chunk_fault_by, fault_if, chunk_fault, content_fault, done_fault, finish_fault, fits_failure, fits_read, fits_status, read_as, status_if, status_kind, total, any-snoc, or-false, proper-same, kind_content, kind_error, kind_status, no_other, Profile, pieces-snoc, failure_kind, no_content, none_content, status_content}
use Rattle.std.proofs.Common.{ne_eqb}
use Rattle.nbd_wire.specs.declared.chunks.TheConstants as chunks

-- a sum that stops at a limit
pub fold-total : (limit n : ℕ) (ps : List Piece) → n ≤ limit → fold (λ sum p. min (sum + piece_size p) limit) n ps ≡ min (n + total ps) limit
fold-total limit n [] h = omega arith
fold-total limit n (p ∷ ps) h = grind (arith, fold-total limit (min (n + piece_size p) limit) ps (omega arith))

total-append : (ps qs : List Piece) → total (ps ++ qs) ≡ total ps + total qs
total-append [] qs = sym (zero-add (total qs))
total-append (p ∷ ps) qs = ap (λ n. piece_size p + n) (total-append ps qs) ∙ sym (add_assoc (piece_size p) (total ps) (total qs))

-- what a request lacks
abbrev pub lacks : Operation → Bool
lacks e = lacks_by e.command e.length (is_settled e) e.contexts

module _ (at : Option ℕ) (export : Exporting) (e : Operation) (flags kind cookie : ℕ) (payload : List ℕ) where
  -- the chunk, and its request with it
  abbrev this : Message
  this = chunk_with at flags kind cookie payload

  abbrev with_this : Operation
  with_this = with_reply e this

  total-more : (o : Option Piece) → content_of kind payload ≡ o → total (pieces with_this) ≡ total (pieces e) + total (option_to_list o)
  total-more o q = grind (arith, pieces-snoc, total-append, chunk_gives)

  failed-more : has_failed with_this ≡ (has_failed e || is_error_chunk kind)
  failed-more = any-snoc is_failing e.replies this ∙ ap (λ b. has_failed e || b) (chunk_fails flags kind cookie payload at)

  -- the end of a reply after one more chunk without an error
  done-more : (o : Option Piece) → content_of kind payload ≡ o → is_error_chunk kind ≡ false → (done : Bool) →
      done_fault done export with_this ≡ done_by done (finish_by e.command e.length (is_proper export e) (has_failed e) (total (pieces e) + total (option_to_list o)) (lacks with_this))
  done-more o q k done = grind (arith, proper-same, failed-more, or-false, total-more)

-- a chunk of type NONE
pub none-chunk : (at : Option ℕ) (profile : Profile) (export : Exporting) (e : Operation) (flags kind cookie : ℕ) (payload : List ℕ) → kind ≡ chunks.NONE →
    chunk_fault (is_some at) (kind == chunks.NONE) export e (with_reply e (chunk_with at flags kind cookie payload)) flags (read_as profile kind) payload
    ≡ fault_if (not (length payload == 0) || not (has flags chunks.DONE)) BadChunk (done_by (has flags chunks.DONE) (finish_by e.command e.length (is_proper export e) (has_failed e) (total (pieces e)) (lacks (with_reply e (chunk_with at flags kind cookie payload)))))
none-chunk at profile export e flags kind cookie payload k =
    subst (λ k. chunk_fault (is_some at) (k == chunks.NONE) export e (with_reply e (chunk_with at flags k cookie payload)) flags (read_as profile k) payload
    ≡ fault_if (not (length payload == 0) || not (has flags chunks.DONE)) BadChunk (done_by (has flags chunks.DONE) (finish_by e.command e.length (is_proper export e) (has_failed e) (total (pieces e)) (lacks (with_reply e (chunk_with at flags k cookie payload)))))) (sym k)
    (ap (fault_if (not (length payload == 0) || not (has flags chunks.DONE)) BadChunk)
    (done-more at export e flags chunks.NONE cookie payload None (none_content payload) refl (has flags chunks.DONE)
    ∙ ap (λ n. done_by (has flags chunks.DONE) (finish_by e.command e.length (is_proper export e) (has_failed e) n (lacks (with_reply e (chunk_with at flags chunks.NONE cookie payload))))) (omega arith)))

content_kind : (kind : ℕ) (payload : List ℕ) (piece : Piece) → content_of kind payload ≡ Some piece → (kind ≡ chunks.OFFSET_DATA) ⊎ (kind ≡ chunks.OFFSET_HOLE)
unfolding content_of
content_kind kind payload piece e = grind (arith, nat_le, eqb-true, and_parts)

plain_kind : (kind : ℕ) → (kind ≡ chunks.OFFSET_DATA) ⊎ (kind ≡ chunks.OFFSET_HOLE) → ((kind == chunks.NONE) ≡ false) × (is_error_chunk kind ≡ false)
plain_kind kind e = grind arith

error_kind : (kind : ℕ) → (kind ≡ chunks.ERROR) ⊎ (kind ≡ chunks.ERROR_OFFSET) → is_error_chunk kind ≡ true
error_kind kind e = grind arith

-- a chunk that is none of a status gives none
pub other_status : (at : Option ℕ) (flags kind cookie : ℕ) (payload : List ℕ) → is_status at kind ≡ false → status_in (chunk_with at flags kind cookie payload) ≡ []
other_status at flags kind cookie payload n = grind arith

pub status_only : (at : Option ℕ) (kind : ℕ) → is_status at kind ≡ true → kind ≡ status_kind (is_some at)
status_only at kind e = eqb-true kind (status_kind (is_some at)) e

module _ (at : Option ℕ) (profile : Profile) (export : Exporting) (e : Operation) (flags kind cookie : ℕ) (payload : List ℕ) where
  abbrev with_it : Operation
  with_it = with_reply e (chunk_with at flags kind cookie payload)

  abbrev done_next : Option WireFault
  done_next = done_fault (has flags chunks.DONE) export with_it

  abbrev read : ℕ
  read = read_as profile kind

  abbrev status : Option Status
  status = status_if (is_some at) e.contexts read payload

  -- a content chunk
  pub content-chunk : (piece : Piece) → content_of kind payload ≡ Some piece → chunk_fault (is_some at) (kind == chunks.NONE) export e with_it flags read payload
      ≡ fault_if (not (fits_read export e piece)) BadContent (done_by (has flags chunks.DONE) (finish_by e.command e.length (is_proper export e) (has_failed e) (total (pieces e) + piece_size piece) (lacks with_it)))
  content-chunk piece q =
      let k : ((kind == chunks.NONE) ≡ false) × (is_error_chunk kind ≡ false) = plain_kind kind (content_kind kind payload piece q) in
      ap (λ b. chunk_fault (is_some at) b export e with_it flags read payload) k.0
      ∙ ap (λ o. content_fault export e o (failure_of read payload) status done_next) (kind_content profile kind payload ∙ q)
      ∙ ap (fault_if (not (fits_read export e piece)) BadContent)
      (done-more at export e flags kind cookie payload (Some piece) q k.1 (has flags chunks.DONE)
      ∙ ap (λ n. done_by (has flags chunks.DONE) (finish_by e.command e.length (is_proper export e) (has_failed e) (total (pieces e) + n) (lacks with_it))) (omega arith))

  -- an error chunk
  pub failure-chunk : (failure : Failure) → failure_of read payload ≡ Some failure → chunk_fault (is_some at) (kind == chunks.NONE) export e with_it flags read payload ≡ fault_if (not (fits_failure e failure.offset)) BadContent None
  failure-chunk failure q =
      let is : is_error_chunk kind ≡ true = sym (kind_error profile kind) ∙ error_kind read (failure_kind read payload failure q) in
      ap (λ b. chunk_fault (is_some at) b export e with_it flags read payload) (no_other kind chunks.NONE is (omega arith))
      ∙ ap (λ o. content_fault export e o (failure_of read payload) status done_next) (no_content read payload failure q)
      ∙ ap (λ o. content_fault export e None o status done_next) q
      ∙ ap (fault_if (not (fits_failure e failure.offset)) BadContent) (done (has flags chunks.DONE) (failed-more at export e flags kind cookie payload ∙ ap (λ b. has_failed e || b) is ∙ or-true (has_failed e)))
    where
      or-true : (b : Bool) → (b || true) ≡ true
      or-true true = refl
      or-true false = refl

      done : (d : Bool) → has_failed with_it ≡ true → done_fault d export with_it ≡ None
      done false h = refl
      done true h = ap (λ b. finish_fault export with_it b (pieces with_it)) h

  -- a chunk that is of no form
  pub bad-chunk : (kind ≡ chunks.NONE → ⊥) → is_status at kind ≡ false → content_of kind payload ≡ None → failure_of read payload ≡ None → chunk_fault (is_some at) (kind == chunks.NONE) export e with_it flags read payload ≡ Some BadChunk
  bad-chunk n b content failure = grind (arith, ne_eqb, kind_content, kind_status)

-- a status is no error
no_error : (extended : Bool) → is_error_chunk (status_kind extended) ≡ false
no_error extended = grind arith

-- what the offset of an extended header shows to be wrong comes behind what else is
module _ (at : Option ℕ) (profile : Profile) (export : Exporting) (e : Operation) (flags kind cookie : ℕ) (payload : List ℕ) where
  abbrev payload_fault : Option WireFault
  payload_fault = chunk_fault (is_some at) (kind == chunks.NONE) export e (with_reply e (chunk_with at flags kind cookie payload)) flags (read_as profile kind) payload

  pub fault_first : (fault : WireFault) → payload_fault ≡ Some fault → chunk_fault_by at profile export e flags kind cookie payload ≡ Some fault
  fault_first fault q = grind arith

  pub elsewhere_last : payload_fault ≡ None → chunk_fault_by at profile export e flags kind cookie payload ≡ elsewhere_fault at e.offset
  elsewhere_last q = grind arith

-- a status chunk
pub status_is : (at : Option ℕ) (x : Bool) → is_some at ≡ x → (flags cookie : ℕ) (payload : List ℕ) → status_in (chunk_with at flags (status_kind x) cookie payload) ≡ option_to_list (status_of x payload)
status_is at x is flags cookie payload = grind arith

module _ (wide : Bool) (at : Option ℕ) (export : Exporting) (e : Operation) (flags cookie : ℕ) (payload : List ℕ) where
  abbrev with_status : Operation
  with_status = with_reply e (chunk_with at flags (status_kind wide) cookie payload)

  abbrev status_next : Option WireFault
  status_next = done_fault (has flags chunks.DONE) export with_status

  abbrev judged : Option WireFault
  judged = chunk_fault wide false export e with_status flags (status_kind wide) payload

  no_failure : failure_of (status_kind wide) payload ≡ None
  no_failure = grind (arith, failure_kind)

  -- what it says, where contexts are in force
  status_here : (x : Bool) → status_if x e.contexts (status_kind x) payload ≡ (if not (length e.contexts == 0) then status_of x payload else None)
  status_here x = grind arith

  by_status : (o : Option Status) → status_if wide e.contexts (status_kind wide) payload ≡ o → judged ≡ content_fault export e None None o status_next
  by_status o q = (λ i. content_fault export e (status_content wide (status_kind wide) payload refl i) (no_failure i) (q i) status_next)

  pub unknown_status : (length e.contexts == 0) ≡ true → judged ≡ Some BadChunk
  unknown_status n = by_status None (status_here wide ∙ ap (λ b. if not b then status_of wide payload else None) n)

  pub malformed_status : status_of wide payload ≡ None → judged ≡ Some BadChunk
  malformed_status n = by_status None (status_here wide ∙ go (length e.contexts == 0))
    where
      go : (b : Bool) → (if not b then status_of wide payload else None) ≡ None
      go true = refl
      go false = n

  module _ (status : Status) (some_in_force : (length e.contexts == 0) ≡ false) (is : status_of wide payload ≡ Some status) where
    by_this : judged ≡ fault_if (not (fits_status e status)) BadContent status_next
    by_this = by_status (Some status) (status_here wide ∙ ap (λ b. if not b then status_of wide payload else None) some_in_force ∙ is)

    pub wrong_status : fits_status e status ≡ false → judged ≡ Some BadContent
    wrong_status w = by_this ∙ ap (λ b. fault_if (not b) BadContent status_next) w

    pub right_status : fits_status e status ≡ true → judged
        ≡ done_by (has flags chunks.DONE) (finish_by e.command e.length (is_proper export e) (has_failed e) (total (pieces e)) (lacks with_status))
    right_status w =
        by_this ∙ ap (λ b. fault_if (not b) BadContent status_next) w
        ∙ done-more at export e flags (status_kind wide) cookie payload None (status_content wide (status_kind wide) payload refl) (no_error wide) (has flags chunks.DONE)
        ∙ ap (λ n. done_by (has flags chunks.DONE) (finish_by e.command e.length (is_proper export e) (has_failed e) n (lacks with_status))) (omega arith)
