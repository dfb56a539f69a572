-- What the readers of heads answer of the bytes that a message begins with.
use Rattle.nbd_session.proofs.Common.{◌≡◌, ℕ, ◌==◌, List, length, refl, Option, Some, Bool, true, false, ◌&&◌, eqb-true, eq-eqb, arith, slice_index_or, Fits, w8, false≢true, and_parts, and_from, GREETING_MAGIC, OPTION_MAGIC, ANSWER_MAGIC, REQUEST_MAGIC, SIMPLE_MAGIC, CHUNK_MAGIC, EXTENDED_REQUEST_MAGIC, EXTENDED_CHUNK_MAGIC, ChoiceHead, AnswerHead, RequestHead, SimpleHead, ChunkHead, AreBytes, AreBytes-from_places, IsGreetingHead, IsClientFlagsHead, IsChoiceHead, IsAnswerHead, IsExportHead, IsRequestHead, IsSimpleHead, IsChunkHead, IsExtendedRequestHead, IsExtendedChunkHead, number_at, greeting-found, greeting-only, client_flags-found, choice-found, choice-only, answer-found, answer-only, export-found, request-found, request-only, simple-found, chunk-found, extended_request-found, extended_request-only, extended_chunk-found, Reads, begins, chunk_fields, some_if, request_head_of}

-- a greeting's head begins with both numbers
abbrev pub begins_well : List ℕ → Bool
begins_well head = (number_at 0 8 head == GREETING_MAGIC) && (number_at 8 8 head == OPTION_MAGIC)

-- the fields of the heads of an option, an option reply and a simple reply
abbrev pub choice_fields : List ℕ → ChoiceHead
choice_fields head = record { id = number_at 8 4 head; length = number_at 12 4 head }

abbrev pub answer_fields : List ℕ → AnswerHead
answer_fields head = record { option = number_at 8 4 head; kind = number_at 12 4 head; length = number_at 16 4 head }

abbrev pub simple_fields : List ℕ → SimpleHead
simple_fields head = record { error = number_at 4 4 head; cookie = number_at 8 8 head }

-- the answer, by whether the bytes begin with the right number
read_if : {A : Type 0} (Form : A → Type 0) (answer : Option A) (b : Bool) (value : A) → Reads answer Form → (b ≡ true → Form value) → ((other : A) → Form other → b ≡ true) → answer ≡ some_if b value
read_if Form (Some other) false value reads found only = absurd (false≢true (only other ((reads other).0 refl)))
read_if Form answer b value reads found only = grind (arith, false≢true)

-- what is read of a head that is whole
module _ (head : List ℕ) (fits : (i : ℕ) → Fits w8 (slice_index_or head i 0)) where
  are_bytes : AreBytes head
  are_bytes = AreBytes-from_places head (λ i. omega (arith, fits i))

  read_at : {A : Type 0} (Form : A → Type 0) (answer : Option A) (width magic : ℕ) (value : A) → Reads answer Form → (number_at 0 width head ≡ magic → Form value) → ((other : A) → Form other → number_at 0 width head ≡ magic) →
      answer ≡ some_if (number_at 0 width head == magic) value
  read_at Form answer width magic value reads found only =
      read_if Form answer (number_at 0 width head == magic) value reads (λ t. found (eqb-true _ _ t)) (λ other form. eq-eqb _ _ (only other form))

  pub leading_greeting-is : (answer : Option ℕ) → length head ≡ 18 → Reads answer (λ flags. IsGreetingHead flags head) → answer ≡ some_if (begins_well head) (number_at 16 2 head)
  leading_greeting-is answer len reads =
      read_if (λ flags. IsGreetingHead flags head) answer (begins_well head) (number_at 16 2 head) reads
      (λ t. let p = and_parts (number_at 0 8 head == GREETING_MAGIC) (number_at 8 8 head == OPTION_MAGIC) t in greeting-found head are_bytes len (eqb-true _ _ p.0) (eqb-true _ _ p.1))
      (λ other form. let o = greeting-only other head form in and_from _ _ (eq-eqb _ _ o.1) (eq-eqb _ _ o.2))

  pub leading_client_flags-is : (answer : Option ℕ) → length head ≡ 4 → Reads answer (λ flags. IsClientFlagsHead flags head) → answer ≡ Some (number_at 0 4 head)
  leading_client_flags-is answer len reads = read_if (λ flags. IsClientFlagsHead flags head) answer true _ reads (λ t. client_flags-found head are_bytes len) (λ other form. refl)

  pub leading_choice-is : (answer : Option ChoiceHead) → length head ≡ 16 → Reads answer (λ h. IsChoiceHead h head) → answer ≡ some_if (number_at 0 8 head == OPTION_MAGIC) (choice_fields head)
  leading_choice-is answer len reads =
      read_at (λ h. IsChoiceHead h head) answer 8 OPTION_MAGIC _ reads (choice-found head are_bytes len) (λ other form. (choice-only other head form).1)

  pub leading_answer-is : (answer : Option AnswerHead) → length head ≡ 20 → Reads answer (λ h. IsAnswerHead h head) → answer ≡ some_if (number_at 0 8 head == ANSWER_MAGIC) (answer_fields head)
  leading_answer-is answer len reads =
      read_at (λ h. IsAnswerHead h head) answer 8 ANSWER_MAGIC _ reads (answer-found head are_bytes len) (λ other form. (answer-only other head form).1)

  pub leading_export-is : (answer : Option (ℕ × ℕ)) → length head ≡ 10 → Reads answer (λ h. IsExportHead h.0 h.1 head) → answer ≡ Some (number_at 0 8 head, number_at 8 2 head)
  leading_export-is answer len reads = read_if (λ (h : ℕ × ℕ). IsExportHead h.0 h.1 head) answer true _ reads (λ t. export-found head are_bytes len) (λ other form. refl)

  pub leading_request-is : (answer : Option RequestHead) → length head ≡ 28 → Reads answer (λ h. IsRequestHead h head) → answer ≡ request_head_of false head
  leading_request-is answer len reads =
      read_at (λ h. IsRequestHead h head) answer 4 REQUEST_MAGIC _ reads (request-found head are_bytes len) (λ other form. (request-only other head form).1)

  pub leading_extended_request-is : (answer : Option RequestHead) → length head ≡ 32 → Reads answer (λ h. IsExtendedRequestHead h head) → answer ≡ request_head_of true head
  leading_extended_request-is answer len reads =
      read_at (λ h. IsExtendedRequestHead h head) answer 4 EXTENDED_REQUEST_MAGIC _ reads (extended_request-found head are_bytes len) (λ other form. (extended_request-only other head form).1)

  -- a reply's head, where it begins with its number
  pub leading_simple-is : (answer : Option SimpleHead) → length head ≡ 16 → begins SIMPLE_MAGIC head ≡ true → Reads answer (λ h. IsSimpleHead h head) → answer ≡ Some (simple_fields head)
  leading_simple-is answer len b reads = (reads _).1 (simple-found head are_bytes len (eqb-true _ _ (and_parts _ _ b).1))

  pub leading_chunk-is : (answer : Option ChunkHead) → length head ≡ 20 → begins CHUNK_MAGIC head ≡ true → Reads answer (λ h. IsChunkHead h head) → answer ≡ Some (chunk_fields false head)
  leading_chunk-is answer len b reads = (reads _).1 (chunk-found head are_bytes len (eqb-true _ _ (and_parts _ _ b).1))

  pub leading_extended_chunk-is : (answer : Option ChunkHead) → length head ≡ 32 → begins EXTENDED_CHUNK_MAGIC head ≡ true → Reads answer (λ h. IsExtendedChunkHead h head) → answer ≡ Some (chunk_fields true head)
  leading_extended_chunk-is answer len b reads = (reads _).1 (extended_chunk-found head are_bytes len (eqb-true _ _ (and_parts _ _ b).1))
