-- A head is known by its length, its first numbers and what stands at its places.
use Rattle.nbd_wire.proofs.Common.{true, false, Some, None, ap, ◌∙◌, ◌≡◌, ℕ, ◌+◌, ◌≤◌, List, [], ◌∷◌, ◌++◌, length, drop, refl, sym, arith, length-drop, drop_all, big_bytes, GREETING_MAGIC, OPTION_MAGIC, ANSWER_MAGIC, REQUEST_MAGIC, SIMPLE_MAGIC, CHUNK_MAGIC, EXTENDED_REQUEST_MAGIC, EXTENDED_CHUNK_MAGIC, ChoiceHead, AnswerHead, RequestHead, SimpleHead, ChunkHead, AreBytes, IsGreetingHead, IsClientFlagsHead, IsChoiceHead, IsAnswerHead, IsExportHead, IsRequestHead, IsSimpleHead, IsChunkHead, IsExtendedRequestHead, IsExtendedChunkHead, number_at}
use Rattle.nbd_wire.proofs.{FieldsLemmas.{Field, found, only}, NumberLemmas.with_number}

-- the last number of a slice
pub with_last : (p n : ℕ) (bytes : List ℕ) → AreBytes bytes → length bytes ≡ p + n → drop p bytes ≡ big_bytes n (number_at p n bytes) ++ []
with_last p n bytes b h = grind (arith, with_number, length-drop, drop_all)

-- a number that more bytes follow
pub with_next : (p n : ℕ) (bytes rest : List ℕ) → AreBytes bytes → p + n ≤ length bytes → drop (p + n) bytes ≡ rest → drop p bytes ≡ big_bytes n (number_at p n bytes) ++ rest
with_next p n bytes rest b h r = with_number p n bytes (number_at p n bytes) rest b (omega (arith, length-drop p bytes)) refl r

-- a number with a known value that more bytes follow
pub with_known : (p n value : ℕ) (bytes rest : List ℕ) → AreBytes bytes → p + n ≤ length bytes → number_at p n bytes ≡ value → drop (p + n) bytes ≡ rest → drop p bytes ≡ big_bytes n value ++ rest
with_known p n value bytes rest b h v r = with_number p n bytes value rest b (omega (arith, length-drop p bytes)) v r

-- what stands at the places of a greeting, and nothing else, makes the bytes one
abbrev greeting_fields : ℕ → List Field
greeting_fields flags = (8, GREETING_MAGIC) ∷ (8, OPTION_MAGIC) ∷ (2, flags) ∷ []

pub greeting-found : (bytes : List ℕ) → AreBytes bytes → length bytes ≡ 18 → number_at 0 8 bytes ≡ GREETING_MAGIC → number_at 8 8 bytes ≡ OPTION_MAGIC → IsGreetingHead (number_at 16 2 bytes) bytes
unfolding IsGreetingHead
greeting-found bytes b l m0 m1 = (let f = found (greeting_fields (number_at 16 2 bytes)) bytes b l (m0, (m1, (refl, tt))) in (f.fit.1.1.0, f.is))

pub greeting-only : (flags : ℕ) (bytes : List ℕ) → IsGreetingHead flags bytes → (length bytes ≡ 18) × (number_at 0 8 bytes ≡ GREETING_MAGIC) × (number_at 8 8 bytes ≡ OPTION_MAGIC) × (number_at 16 2 bytes ≡ flags)
unfolding IsGreetingHead
greeting-only flags bytes h = (let a = only (greeting_fields flags) bytes (omega arith, (omega arith, (h.0, tt))) h.1 in (ap length h.1, a.0, a.1.0, a.1.1.0))

-- what stands at the places of the client's flags, and nothing else, makes the bytes one
abbrev client_flags_fields : ℕ → List Field
client_flags_fields flags = (4, flags) ∷ []

pub client_flags-found : (bytes : List ℕ) → AreBytes bytes → length bytes ≡ 4 → IsClientFlagsHead (number_at 0 4 bytes) bytes
unfolding IsClientFlagsHead
client_flags-found bytes b l = (let f = found (client_flags_fields (number_at 0 4 bytes)) bytes b l (refl, tt) in (f.fit.0, f.is))

pub client_flags-only : (flags : ℕ) (bytes : List ℕ) → IsClientFlagsHead flags bytes → (length bytes ≡ 4) × (number_at 0 4 bytes ≡ flags)
unfolding IsClientFlagsHead
client_flags-only flags bytes h = (let a = only (client_flags_fields flags) bytes (h.0, tt) h.1 in (ap length h.1, a.0))

-- what stands at the places of an option's head, and nothing else, makes the bytes one
abbrev choice_fields : ChoiceHead → List Field
choice_fields h = (8, OPTION_MAGIC) ∷ (4, h.id) ∷ (4, h.length) ∷ []

pub choice-found : (bytes : List ℕ) → AreBytes bytes → length bytes ≡ 16 → number_at 0 8 bytes ≡ OPTION_MAGIC → IsChoiceHead (record { id = number_at 8 4 bytes; length = number_at 12 4 bytes }) bytes
unfolding IsChoiceHead
choice-found bytes b l m0 = (let f = found (choice_fields (record { id = number_at 8 4 bytes; length = number_at 12 4 bytes })) bytes b l (m0, (refl, (refl, tt))) in (f.fit.1.0, f.fit.1.1.0, f.is))

pub choice-only : (head : ChoiceHead) (bytes : List ℕ) → IsChoiceHead head bytes → (length bytes ≡ 16) × (number_at 0 8 bytes ≡ OPTION_MAGIC) × (number_at 8 4 bytes ≡ head.id) × (number_at 12 4 bytes ≡ head.length)
unfolding IsChoiceHead
choice-only head bytes h = (let a = only (choice_fields head) bytes (omega arith, (h.0, (h.1, tt))) h.2 in (ap length h.2, a.0, a.1.0, a.1.1.0))

-- what stands at the places of an answer's head, and nothing else, makes the bytes one
abbrev answer_fields : AnswerHead → List Field
answer_fields h = (8, ANSWER_MAGIC) ∷ (4, h.option) ∷ (4, h.kind) ∷ (4, h.length) ∷ []

pub answer-found : (bytes : List ℕ) → AreBytes bytes → length bytes ≡ 20 → number_at 0 8 bytes ≡ ANSWER_MAGIC → IsAnswerHead (record { option = number_at 8 4 bytes; kind = number_at 12 4 bytes; length = number_at 16 4 bytes }) bytes
unfolding IsAnswerHead
answer-found bytes b l m0 = (let f = found (answer_fields (record { option = number_at 8 4 bytes; kind = number_at 12 4 bytes; length = number_at 16 4 bytes })) bytes b l (m0, (refl, (refl, (refl, tt)))) in (f.fit.1.0, f.fit.1.1.0, f.fit.1.1.1.0, f.is))

pub answer-only : (head : AnswerHead) (bytes : List ℕ) → IsAnswerHead head bytes → (length bytes ≡ 20) × (number_at 0 8 bytes ≡ ANSWER_MAGIC) × (number_at 8 4 bytes ≡ head.option) × (number_at 12 4 bytes ≡ head.kind) × (number_at 16 4 bytes ≡ head.length)
unfolding IsAnswerHead
answer-only head bytes h = (let a = only (answer_fields head) bytes (omega arith, (h.0, (h.1, (h.2, tt)))) h.3 in (ap length h.3, a.0, a.1.0, a.1.1.0, a.1.1.1.0))

-- what stands at the places of a request's head, and nothing else, makes the bytes one
abbrev request_fields : RequestHead → List Field
request_fields h = (4, REQUEST_MAGIC) ∷ (2, h.flags) ∷ (2, h.command) ∷ (8, h.cookie) ∷ (8, h.offset) ∷ (4, h.length) ∷ []

pub request-found : (bytes : List ℕ) → AreBytes bytes → length bytes ≡ 28 → number_at 0 4 bytes ≡ REQUEST_MAGIC → IsRequestHead (record { extended = false; flags = number_at 4 2 bytes; command = number_at 6 2 bytes; cookie = number_at 8 8 bytes; offset = number_at 16 8 bytes; length = number_at 24 4 bytes }) bytes
unfolding IsRequestHead
request-found bytes b l m0 = (let f = found (request_fields (record { extended = false; flags = number_at 4 2 bytes; command = number_at 6 2 bytes; cookie = number_at 8 8 bytes; offset = number_at 16 8 bytes; length = number_at 24 4 bytes })) bytes b l (m0, (refl, (refl, (refl, (refl, (refl, tt)))))) in (f.fit.1.0, f.fit.1.1.0, f.fit.1.1.1.0, f.fit.1.1.1.1.0, f.fit.1.1.1.1.1.0, f.is, refl))

pub request-only : (head : RequestHead) (bytes : List ℕ) → IsRequestHead head bytes → (length bytes ≡ 28) × (number_at 0 4 bytes ≡ REQUEST_MAGIC) × (number_at 4 2 bytes ≡ head.flags) × (number_at 6 2 bytes ≡ head.command) × (number_at 8 8 bytes ≡ head.cookie) × (number_at 16 8 bytes ≡ head.offset) × (number_at 24 4 bytes ≡ head.length) × (false ≡ head.extended)
unfolding IsRequestHead
request-only head bytes h = (let a = only (request_fields head) bytes (omega arith, (h.0, (h.1, (h.2, (h.3, (h.4, tt)))))) h.5 in (ap length h.5, a.0, a.1.0, a.1.1.0, a.1.1.1.0, a.1.1.1.1.0, a.1.1.1.1.1.0, sym h.6))

-- what stands at the places of a simple reply's head, and nothing else, makes the bytes one
abbrev simple_fields : SimpleHead → List Field
simple_fields h = (4, SIMPLE_MAGIC) ∷ (4, h.error) ∷ (8, h.cookie) ∷ []

pub simple-found : (bytes : List ℕ) → AreBytes bytes → length bytes ≡ 16 → number_at 0 4 bytes ≡ SIMPLE_MAGIC → IsSimpleHead (record { error = number_at 4 4 bytes; cookie = number_at 8 8 bytes }) bytes
unfolding IsSimpleHead
simple-found bytes b l m0 = (let f = found (simple_fields (record { error = number_at 4 4 bytes; cookie = number_at 8 8 bytes })) bytes b l (m0, (refl, (refl, tt))) in (f.fit.1.0, f.fit.1.1.0, f.is))

pub simple-only : (head : SimpleHead) (bytes : List ℕ) → IsSimpleHead head bytes → (length bytes ≡ 16) × (number_at 0 4 bytes ≡ SIMPLE_MAGIC) × (number_at 4 4 bytes ≡ head.error) × (number_at 8 8 bytes ≡ head.cookie)
unfolding IsSimpleHead
simple-only head bytes h = (let a = only (simple_fields head) bytes (omega arith, (h.0, (h.1, tt))) h.2 in (ap length h.2, a.0, a.1.0, a.1.1.0))

-- what stands at the places of a chunk's head, and nothing else, makes the bytes one
abbrev chunk_fields : ChunkHead → List Field
chunk_fields h = (4, CHUNK_MAGIC) ∷ (2, h.flags) ∷ (2, h.kind) ∷ (8, h.cookie) ∷ (4, h.length) ∷ []

pub chunk-found : (bytes : List ℕ) → AreBytes bytes → length bytes ≡ 20 → number_at 0 4 bytes ≡ CHUNK_MAGIC → IsChunkHead (record { at = None; flags = number_at 4 2 bytes; kind = number_at 6 2 bytes; cookie = number_at 8 8 bytes; length = number_at 16 4 bytes }) bytes
unfolding IsChunkHead
chunk-found bytes b l m0 = (let f = found (chunk_fields (record { at = None; flags = number_at 4 2 bytes; kind = number_at 6 2 bytes; cookie = number_at 8 8 bytes; length = number_at 16 4 bytes })) bytes b l (m0, (refl, (refl, (refl, (refl, tt))))) in (f.fit.1.0, f.fit.1.1.0, f.fit.1.1.1.0, f.fit.1.1.1.1.0, f.is, refl))

pub chunk-only : (head : ChunkHead) (bytes : List ℕ) → IsChunkHead head bytes → (length bytes ≡ 20) × (number_at 0 4 bytes ≡ CHUNK_MAGIC) × (number_at 4 2 bytes ≡ head.flags) × (number_at 6 2 bytes ≡ head.kind) × (number_at 8 8 bytes ≡ head.cookie) × (number_at 16 4 bytes ≡ head.length) × (None ≡ head.at)
unfolding IsChunkHead
chunk-only head bytes h = (let a = only (chunk_fields head) bytes (omega arith, (h.0, (h.1, (h.2, (h.3, tt))))) h.4 in (ap length h.4, a.0, a.1.0, a.1.1.0, a.1.1.1.0, a.1.1.1.1.0, sym h.5))

-- what stands at the places of the answer to EXPORT_NAME, and nothing else, makes the bytes one
abbrev export_fields : ℕ → ℕ → List Field
export_fields size flags = (8, size) ∷ (2, flags) ∷ []

pub export-found : (bytes : List ℕ) → AreBytes bytes → length bytes ≡ 10 → IsExportHead (number_at 0 8 bytes) (number_at 8 2 bytes) bytes
unfolding IsExportHead
export-found bytes b l = (let f = found (export_fields (number_at 0 8 bytes) (number_at 8 2 bytes)) bytes b l (refl, (refl, tt)) in (f.fit.0, f.fit.1.0, f.is))

pub export-only : (size flags : ℕ) (bytes : List ℕ) → IsExportHead size flags bytes → (length bytes ≡ 10) × (number_at 0 8 bytes ≡ size) × (number_at 8 2 bytes ≡ flags)
unfolding IsExportHead
export-only size flags bytes h = (let a = only (export_fields size flags) bytes (h.0, (h.1, tt)) h.2 in (ap length h.2, a.0, a.1.0))

-- what stands at the places of a request's extended header, and nothing else, makes the bytes one
abbrev extended_request_fields : RequestHead → List Field
extended_request_fields h = (4, EXTENDED_REQUEST_MAGIC) ∷ (2, h.flags) ∷ (2, h.command) ∷ (8, h.cookie) ∷ (8, h.offset) ∷ (8, h.length) ∷ []

pub extended_request-found : (bytes : List ℕ) → AreBytes bytes → length bytes ≡ 32 → number_at 0 4 bytes ≡ EXTENDED_REQUEST_MAGIC → IsExtendedRequestHead (record { extended = true; flags = number_at 4 2 bytes; command = number_at 6 2 bytes; cookie = number_at 8 8 bytes; offset = number_at 16 8 bytes; length = number_at 24 8 bytes }) bytes
unfolding IsExtendedRequestHead
extended_request-found bytes b l m0 = (let f = found (extended_request_fields (record { extended = true; flags = number_at 4 2 bytes; command = number_at 6 2 bytes; cookie = number_at 8 8 bytes; offset = number_at 16 8 bytes; length = number_at 24 8 bytes })) bytes b l (m0, (refl, (refl, (refl, (refl, (refl, tt)))))) in (f.fit.1.0, f.fit.1.1.0, f.fit.1.1.1.0, f.fit.1.1.1.1.0, f.fit.1.1.1.1.1.0, f.is, refl))

pub extended_request-only : (head : RequestHead) (bytes : List ℕ) → IsExtendedRequestHead head bytes → (length bytes ≡ 32) × (number_at 0 4 bytes ≡ EXTENDED_REQUEST_MAGIC) × (number_at 4 2 bytes ≡ head.flags) × (number_at 6 2 bytes ≡ head.command) × (number_at 8 8 bytes ≡ head.cookie) × (number_at 16 8 bytes ≡ head.offset) × (number_at 24 8 bytes ≡ head.length) × (true ≡ head.extended)
unfolding IsExtendedRequestHead
extended_request-only head bytes h = (let a = only (extended_request_fields head) bytes (omega arith, (h.0, (h.1, (h.2, (h.3, (h.4, tt)))))) h.5 in (ap length h.5, a.0, a.1.0, a.1.1.0, a.1.1.1.0, a.1.1.1.1.0, a.1.1.1.1.1.0, sym h.6))

-- what stands at the places of a chunk's extended header, and nothing else, makes the bytes one
abbrev extended_chunk_fields : (flags kind cookie offset len : ℕ) → List Field
extended_chunk_fields flags kind cookie offset len = (4, EXTENDED_CHUNK_MAGIC) ∷ (2, flags) ∷ (2, kind) ∷ (8, cookie) ∷ (8, offset) ∷ (8, len) ∷ []

pub extended_chunk-found : (bytes : List ℕ) → AreBytes bytes → length bytes ≡ 32 → number_at 0 4 bytes ≡ EXTENDED_CHUNK_MAGIC → IsExtendedChunkHead (record { at = Some (number_at 16 8 bytes); flags = number_at 4 2 bytes; kind = number_at 6 2 bytes; cookie = number_at 8 8 bytes; length = number_at 24 8 bytes }) bytes
unfolding IsExtendedChunkHead
extended_chunk-found bytes b l m0 =
    let f = found (extended_chunk_fields (number_at 4 2 bytes) (number_at 6 2 bytes) (number_at 8 8 bytes) (number_at 16 8 bytes) (number_at 24 8 bytes)) bytes b l (m0, (refl, (refl, (refl, (refl, (refl, tt)))))) in
    (number_at 16 8 bytes, f.fit.1.0, f.fit.1.1.0, f.fit.1.1.1.0, f.fit.1.1.1.1.0, f.fit.1.1.1.1.1.0, f.is, refl)

pub extended_chunk-only : (head : ChunkHead) (bytes : List ℕ) → IsExtendedChunkHead head bytes → (length bytes ≡ 32) × (number_at 0 4 bytes ≡ EXTENDED_CHUNK_MAGIC) × (number_at 4 2 bytes ≡ head.flags) × (number_at 6 2 bytes ≡ head.kind) × (number_at 8 8 bytes ≡ head.cookie) × (Some (number_at 16 8 bytes) ≡ head.at) × (number_at 24 8 bytes ≡ head.length)
unfolding IsExtendedChunkHead
extended_chunk-only head bytes (offset, f, k, c, o, l, is, at) =
    let a = only (extended_chunk_fields head.flags head.kind head.cookie offset head.length) bytes (omega arith, (f, (k, (c, (o, (l, tt)))))) is in
    (ap length is, a.0, a.1.0, a.1.1.0, a.1.1.1.0, ap Some a.1.1.1.1.0 ∙ sym at, a.1.1.1.1.1.0)
