-- What stands at the places of an encoding.
use Rattle.nbd_wire.proofs.Common.{◌≡◌, ℕ, ◌+◌, ◌<◌, ◌≤◌, ◌^◌, List, ◌++◌, length, drop, refl, ◌∙◌, ap, arith, length-drop, drop-append-le, big_from-append, big_number-reads_back, big_bytes, big_from, EXTENDED_CHUNK_MAGIC, EXTENDED_REQUEST_MAGIC, Request, Simple, Chunk, ExtendedRequest, ExtendedChunk, enc, head, tail, number_at}

-- a number that stands whole in the first bytes
pub number_at-append : (p n : ℕ) (xs ys : List ℕ) → p + n ≤ length xs → number_at p n (xs ++ ys) ≡ number_at p n xs
number_at-append p n xs ys h =
    let a : p ≤ length xs = omega arith in
    ap (big_from 0 n) (drop-append-le p xs ys a) ∙ big_from-append n (drop p xs) ys (omega (arith, length-drop p xs))

pub simple-magic : (error cookie : ℕ) (payload : List ℕ) → number_at 0 4 (enc (Simple error cookie payload)) ≡ 0x6744_6698
unfolding enc head tail
simple-magic error cookie payload = big_number-reads_back 4 0x6744_6698 (drop 4 (enc (Simple error cookie payload))) (omega arith)

pub simple-cookie : (error cookie : ℕ) (payload : List ℕ) → cookie < 2 ^ 64 → number_at 8 8 (enc (Simple error cookie payload)) ≡ cookie
unfolding enc head tail
simple-cookie error cookie payload h = big_number-reads_back 8 cookie payload h

pub chunk-magic : (flags kind cookie : ℕ) (payload : List ℕ) → number_at 0 4 (enc (Chunk flags kind cookie payload)) ≡ 0x668e_33ef
unfolding enc head tail
chunk-magic flags kind cookie payload = big_number-reads_back 4 0x668e_33ef (drop 4 (enc (Chunk flags kind cookie payload))) (omega arith)

pub chunk-cookie : (flags kind cookie : ℕ) (payload : List ℕ) → cookie < 2 ^ 64 → number_at 8 8 (enc (Chunk flags kind cookie payload)) ≡ cookie
unfolding enc head tail
chunk-cookie flags kind cookie payload h = big_number-reads_back 8 cookie (drop 16 (enc (Chunk flags kind cookie payload))) h

pub request-magic : (flags command cookie offset len : ℕ) (payload : List ℕ) → number_at 0 4 (enc (Request flags command cookie offset len payload)) ≡ 0x2560_9513
unfolding enc head tail
request-magic flags command cookie offset len payload = big_number-reads_back 4 0x2560_9513 (drop 4 (enc (Request flags command cookie offset len payload))) (omega arith)

pub request-command : (flags command cookie offset len : ℕ) (payload : List ℕ) → command < 2 ^ 16 → number_at 6 2 (enc (Request flags command cookie offset len payload)) ≡ command
unfolding enc head tail
request-command flags command cookie offset len payload h = big_number-reads_back 2 command (drop 8 (enc (Request flags command cookie offset len payload))) h

pub request-cookie : (flags command cookie offset len : ℕ) (payload : List ℕ) → cookie < 2 ^ 64 → number_at 8 8 (enc (Request flags command cookie offset len payload)) ≡ cookie
unfolding enc head tail
request-cookie flags command cookie offset len payload h = big_number-reads_back 8 cookie (drop 16 (enc (Request flags command cookie offset len payload))) h

pub request-length : (flags command cookie offset len : ℕ) (payload : List ℕ) → len < 2 ^ 32 → number_at 24 4 (enc (Request flags command cookie offset len payload)) ≡ len
unfolding enc head tail
request-length flags command cookie offset len payload h = big_number-reads_back 4 len payload h

pub length-request : (flags command cookie offset len : ℕ) (payload : List ℕ) → length (enc (Request flags command cookie offset len payload)) ≡ 28 + length payload
unfolding enc head tail
length-request flags command cookie offset len payload = omega arith

pub chunk-flags : (flags kind cookie : ℕ) (payload : List ℕ) → flags < 2 ^ 16 → number_at 4 2 (enc (Chunk flags kind cookie payload)) ≡ flags
unfolding enc head tail
chunk-flags flags kind cookie payload h = big_number-reads_back 2 flags (drop 6 (enc (Chunk flags kind cookie payload))) h

pub chunk-kind : (flags kind cookie : ℕ) (payload : List ℕ) → kind < 2 ^ 16 → number_at 6 2 (enc (Chunk flags kind cookie payload)) ≡ kind
unfolding enc head tail
chunk-kind flags kind cookie payload h = big_number-reads_back 2 kind (drop 8 (enc (Chunk flags kind cookie payload))) h

pub chunk-length : (flags kind cookie : ℕ) (payload : List ℕ) → length payload < 2 ^ 32 → number_at 16 4 (enc (Chunk flags kind cookie payload)) ≡ length payload
unfolding enc head tail
chunk-length flags kind cookie payload h = big_number-reads_back 4 (length payload) payload h

pub length-chunk : (flags kind cookie : ℕ) (payload : List ℕ) → length (enc (Chunk flags kind cookie payload)) ≡ 20 + length payload
unfolding enc head tail
length-chunk flags kind cookie payload = omega arith

pub drop-chunk : (flags kind cookie : ℕ) (payload : List ℕ) → drop 20 (enc (Chunk flags kind cookie payload)) ≡ payload
unfolding enc head tail
drop-chunk flags kind cookie payload = refl

-- the fields of messages with extended headers
pub record HasExtended (magic flags kind cookie offset len : ℕ) (payload bytes : List ℕ) : Type 0 where
  pub magic_is : number_at 0 4 bytes ≡ magic
  pub flags_is : number_at 4 2 bytes ≡ flags
  pub kind_is : number_at 6 2 bytes ≡ kind
  pub cookie_is : number_at 8 8 bytes ≡ cookie
  pub offset_is : number_at 16 8 bytes ≡ offset
  pub length_is : number_at 24 8 bytes ≡ len
  pub payload_is : drop 32 bytes ≡ payload
  pub long : length bytes ≡ 32 + length payload

pub extended_fields : (magic flags kind cookie offset len : ℕ) (payload : List ℕ) → magic < 2 ^ 32 → flags < 2 ^ 16 → kind < 2 ^ 16 → cookie < 2 ^ 64 → offset < 2 ^ 64 → len < 2 ^ 64 →
    HasExtended magic flags kind cookie offset len payload ((big_bytes 4 magic ++ big_bytes 2 flags ++ big_bytes 2 kind ++ big_bytes 8 cookie ++ big_bytes 8 offset ++ big_bytes 8 len) ++ payload)
extended_fields magic flags kind cookie offset len payload m f k c o l = grind arith

pub extended_request_fields : (flags command cookie offset len : ℕ) (payload : List ℕ) → flags < 2 ^ 16 → command < 2 ^ 16 → cookie < 2 ^ 64 → offset < 2 ^ 64 → len < 2 ^ 64 →
    HasExtended EXTENDED_REQUEST_MAGIC flags command cookie offset len payload (enc (ExtendedRequest flags command cookie offset len payload))
unfolding enc head tail
extended_request_fields flags command cookie offset len payload = extended_fields EXTENDED_REQUEST_MAGIC flags command cookie offset len payload (omega arith)

pub extended_chunk_fields : (flags kind cookie offset : ℕ) (payload : List ℕ) → flags < 2 ^ 16 → kind < 2 ^ 16 → cookie < 2 ^ 64 → offset < 2 ^ 64 → length payload < 2 ^ 32 →
    HasExtended EXTENDED_CHUNK_MAGIC flags kind cookie offset (length payload) payload (enc (ExtendedChunk flags kind cookie offset payload))
unfolding enc head tail
extended_chunk_fields flags kind cookie offset payload f k c o l = extended_fields EXTENDED_CHUNK_MAGIC flags kind cookie offset (length payload) payload (omega arith) f k c o (omega (arith, l))
