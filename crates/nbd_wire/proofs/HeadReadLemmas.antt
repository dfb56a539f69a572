-- What the readers of heads answer, from what they read at the places.
use Rattle.nbd_wire.proofs.Common.{arith, ◌≡◌, ℕ, List, Some, None, length, true, false, GREETING_MAGIC, OPTION_MAGIC, ANSWER_MAGIC, REQUEST_MAGIC, SIMPLE_MAGIC, CHUNK_MAGIC, EXTENDED_REQUEST_MAGIC, EXTENDED_CHUNK_MAGIC, AreBytes, IsGreetingHead, IsClientFlagsHead, IsChoiceHead, IsAnswerHead, IsExportHead, IsRequestHead, IsSimpleHead, IsChunkHead, IsExtendedRequestHead, IsExtendedChunkHead, number_at, Reads}
use Rattle.nbd_wire.proofs.{HeadLemmas.{greeting-found, greeting-only, client_flags-found, client_flags-only, choice-found, choice-only, answer-found, answer-only, export-found, export-only, request-found, request-only, simple-found, simple-only, chunk-found, chunk-only, extended_request-found, extended_request-only, extended_chunk-found, extended_chunk-only}, ReadLemmas.Reads-none}

-- a greeting
pub greeting-reads : (flags : ℕ) (bytes : List ℕ) → AreBytes bytes → length bytes ≡ 18 → number_at 0 8 bytes ≡ GREETING_MAGIC → number_at 8 8 bytes ≡ OPTION_MAGIC → flags ≡ number_at 16 2 bytes → Reads (Some flags) (λ flags. IsGreetingHead flags bytes)
greeting-reads flags bytes b l m0 m1 e0 = grind (arith, greeting-found, greeting-only)

pub greeting-none : (bytes : List ℕ) → (length bytes ≡ 18 → number_at 0 8 bytes ≡ GREETING_MAGIC → number_at 8 8 bytes ≡ OPTION_MAGIC → ⊥) → Reads None (λ flags. IsGreetingHead flags bytes)
greeting-none bytes h = Reads-none (λ flags. IsGreetingHead flags bytes) (λ other f. let o = greeting-only other bytes f in h o.0 o.1 o.2)

-- the client's flags
pub client_flags-reads : (flags : ℕ) (bytes : List ℕ) → AreBytes bytes → length bytes ≡ 4 → flags ≡ number_at 0 4 bytes → Reads (Some flags) (λ flags. IsClientFlagsHead flags bytes)
client_flags-reads flags bytes b l e0 = grind (arith, client_flags-found, client_flags-only)

pub client_flags-none : (bytes : List ℕ) → (length bytes ≡ 4 → ⊥) → Reads None (λ flags. IsClientFlagsHead flags bytes)
client_flags-none bytes h = Reads-none (λ flags. IsClientFlagsHead flags bytes) (λ other f. let o = client_flags-only other bytes f in h o.0)

-- an option's head
pub choice-reads : (id len : ℕ) (bytes : List ℕ) → AreBytes bytes → length bytes ≡ 16 → number_at 0 8 bytes ≡ OPTION_MAGIC → id ≡ number_at 8 4 bytes → len ≡ number_at 12 4 bytes → Reads (Some (record { id = id; length = len })) (λ head. IsChoiceHead head bytes)
choice-reads id len bytes b l m0 e0 e1 = grind (arith, choice-found, choice-only)

pub choice-none : (bytes : List ℕ) → (length bytes ≡ 16 → number_at 0 8 bytes ≡ OPTION_MAGIC → ⊥) → Reads None (λ head. IsChoiceHead head bytes)
choice-none bytes h = Reads-none (λ head. IsChoiceHead head bytes) (λ other f. let o = choice-only other bytes f in h o.0 o.1)

-- an answer's head
pub answer-reads : (option kind len : ℕ) (bytes : List ℕ) → AreBytes bytes → length bytes ≡ 20 → number_at 0 8 bytes ≡ ANSWER_MAGIC → option ≡ number_at 8 4 bytes → kind ≡ number_at 12 4 bytes → len ≡ number_at 16 4 bytes → Reads (Some (record { option = option; kind = kind; length = len })) (λ head. IsAnswerHead head bytes)
answer-reads option kind len bytes b l m0 e0 e1 e2 = grind (arith, answer-found, answer-only)

pub answer-none : (bytes : List ℕ) → (length bytes ≡ 20 → number_at 0 8 bytes ≡ ANSWER_MAGIC → ⊥) → Reads None (λ head. IsAnswerHead head bytes)
answer-none bytes h = Reads-none (λ head. IsAnswerHead head bytes) (λ other f. let o = answer-only other bytes f in h o.0 o.1)

-- a request's head
pub request-reads : (flags command cookie offset len : ℕ) (bytes : List ℕ) → AreBytes bytes → length bytes ≡ 28 → number_at 0 4 bytes ≡ REQUEST_MAGIC → flags ≡ number_at 4 2 bytes → command ≡ number_at 6 2 bytes → cookie ≡ number_at 8 8 bytes → offset ≡ number_at 16 8 bytes → len ≡ number_at 24 4 bytes → Reads (Some (record { extended = false; flags = flags; command = command; cookie = cookie; offset = offset; length = len })) (λ head. IsRequestHead head bytes)
request-reads flags command cookie offset len bytes b l m0 e0 e1 e2 e3 e4 = grind (arith, request-found, request-only)

pub request-none : (bytes : List ℕ) → (length bytes ≡ 28 → number_at 0 4 bytes ≡ REQUEST_MAGIC → ⊥) → Reads None (λ head. IsRequestHead head bytes)
request-none bytes h = Reads-none (λ head. IsRequestHead head bytes) (λ other f. let o = request-only other bytes f in h o.0 o.1)

-- a simple reply's head
pub simple-reads : (error cookie : ℕ) (bytes : List ℕ) → AreBytes bytes → length bytes ≡ 16 → number_at 0 4 bytes ≡ SIMPLE_MAGIC → error ≡ number_at 4 4 bytes → cookie ≡ number_at 8 8 bytes → Reads (Some (record { error = error; cookie = cookie })) (λ head. IsSimpleHead head bytes)
simple-reads error cookie bytes b l m0 e0 e1 = grind (arith, simple-found, simple-only)

pub simple-none : (bytes : List ℕ) → (length bytes ≡ 16 → number_at 0 4 bytes ≡ SIMPLE_MAGIC → ⊥) → Reads None (λ head. IsSimpleHead head bytes)
simple-none bytes h = Reads-none (λ head. IsSimpleHead head bytes) (λ other f. let o = simple-only other bytes f in h o.0 o.1)

-- a chunk's head
pub chunk-reads : (flags kind cookie len : ℕ) (bytes : List ℕ) → AreBytes bytes → length bytes ≡ 20 → number_at 0 4 bytes ≡ CHUNK_MAGIC → flags ≡ number_at 4 2 bytes → kind ≡ number_at 6 2 bytes → cookie ≡ number_at 8 8 bytes → len ≡ number_at 16 4 bytes → Reads (Some (record { at = None; flags = flags; kind = kind; cookie = cookie; length = len })) (λ head. IsChunkHead head bytes)
chunk-reads flags kind cookie len bytes b l m0 e0 e1 e2 e3 = grind (arith, chunk-found, chunk-only)

pub chunk-none : (bytes : List ℕ) → (length bytes ≡ 20 → number_at 0 4 bytes ≡ CHUNK_MAGIC → ⊥) → Reads None (λ head. IsChunkHead head bytes)
chunk-none bytes h = Reads-none (λ head. IsChunkHead head bytes) (λ other f. let o = chunk-only other bytes f in h o.0 o.1)

-- the answer to EXPORT_NAME
pub export-reads : (size flags : ℕ) (bytes : List ℕ) → AreBytes bytes → length bytes ≡ 10 → size ≡ number_at 0 8 bytes → flags ≡ number_at 8 2 bytes → Reads (Some (size, flags)) (λ (head : ℕ × ℕ). IsExportHead head.0 head.1 bytes)
export-reads size flags bytes b l e0 e1 = grind (arith, export-found, export-only)

pub export-none : (bytes : List ℕ) → (length bytes ≡ 10 → ⊥) → Reads None (λ (head : ℕ × ℕ). IsExportHead head.0 head.1 bytes)
export-none bytes h = Reads-none (λ (head : ℕ × ℕ). IsExportHead head.0 head.1 bytes) (λ other f. let o = export-only other.0 other.1 bytes f in h o.0)

-- a request's extended header
pub extended_request-reads : (flags command cookie offset len : ℕ) (bytes : List ℕ) → AreBytes bytes → length bytes ≡ 32 → number_at 0 4 bytes ≡ EXTENDED_REQUEST_MAGIC → flags ≡ number_at 4 2 bytes → command ≡ number_at 6 2 bytes → cookie ≡ number_at 8 8 bytes → offset ≡ number_at 16 8 bytes → len ≡ number_at 24 8 bytes → Reads (Some (record { extended = true; flags = flags; command = command; cookie = cookie; offset = offset; length = len })) (λ head. IsExtendedRequestHead head bytes)
extended_request-reads flags command cookie offset len bytes b l m0 e0 e1 e2 e3 e4 = grind (arith, extended_request-found, extended_request-only)

pub extended_request-none : (bytes : List ℕ) → (length bytes ≡ 32 → number_at 0 4 bytes ≡ EXTENDED_REQUEST_MAGIC → ⊥) → Reads None (λ head. IsExtendedRequestHead head bytes)
extended_request-none bytes h = Reads-none (λ head. IsExtendedRequestHead head bytes) (λ other f. let o = extended_request-only other bytes f in h o.0 o.1)

-- a chunk's extended header
pub extended_chunk-reads : (flags kind cookie offset len : ℕ) (bytes : List ℕ) → AreBytes bytes → length bytes ≡ 32 → number_at 0 4 bytes ≡ EXTENDED_CHUNK_MAGIC → flags ≡ number_at 4 2 bytes → kind ≡ number_at 6 2 bytes → cookie ≡ number_at 8 8 bytes → offset ≡ number_at 16 8 bytes → len ≡ number_at 24 8 bytes → Reads (Some (record { at = Some offset; flags = flags; kind = kind; cookie = cookie; length = len })) (λ head. IsExtendedChunkHead head bytes)
extended_chunk-reads flags kind cookie offset len bytes b l m0 e0 e1 e2 e3 e4 = grind (arith, extended_chunk-found, extended_chunk-only)

pub extended_chunk-none : (bytes : List ℕ) → (length bytes ≡ 32 → number_at 0 4 bytes ≡ EXTENDED_CHUNK_MAGIC → ⊥) → Reads None (λ head. IsExtendedChunkHead head bytes)
extended_chunk-none bytes h = Reads-none (λ head. IsExtendedChunkHead head bytes) (λ other f. let o = extended_chunk-only other bytes f in h o.0 o.1)
