-- What a side's bytes state once they are as long as a head.
use Rattle.std.specs.Prelude.{ℕ, List, Bool, true, false, ◌==◌, Option, Some, None}
use Rattle.nbd_wire.specs.{declared.{magics.TheConstants.{REQUEST_MAGIC, CHUNK_MAGIC, EXTENDED_REQUEST_MAGIC, EXTENDED_CHUNK_MAGIC}, heads.transmission.{RequestHead.RequestHead, ChunkHead.ChunkHead}}, Prelude.number_at}

-- this value where the condition holds
abbrev pub some_if : {A : Type 0} → Bool → A → Option A
some_if true value = Some value
some_if false value = None

-- the number that a request begins with, how many bytes its length takes, and how many its head (proto.md, "Request
-- message", "Reserved Magic values")
abbrev pub request_magic : (extended : Bool) → ℕ
request_magic false = REQUEST_MAGIC
request_magic true = EXTENDED_REQUEST_MAGIC

abbrev pub length_width : (extended : Bool) → ℕ
length_width false = 4
length_width true = 8

abbrev pub request_head_length : (extended : Bool) → ℕ
request_head_length false = 28
request_head_length true = 32

-- the fields of a request's head
abbrev pub request_fields : (extended : Bool) → List ℕ → RequestHead
request_fields extended bytes = record {
  extended = extended;
  flags = number_at 4 2 bytes;
  command = number_at 6 2 bytes;
  cookie = number_at 8 8 bytes;
  offset = number_at 16 8 bytes;
  length = number_at 24 (length_width extended) bytes;
}

abbrev pub request_head_of : (extended : Bool) → List ℕ → Option RequestHead
request_head_of extended bytes =
    some_if (number_at 0 4 bytes == request_magic extended) (request_fields extended bytes)

-- the fields of a chunk's head (proto.md, "Structured reply chunk message", "Reserved Magic values")
abbrev pub chunk_fields : (extended : Bool) → List ℕ → ChunkHead
chunk_fields false bytes = record {
  at = None;
  flags = number_at 4 2 bytes;
  kind = number_at 6 2 bytes;
  cookie = number_at 8 8 bytes;
  length = number_at 16 4 bytes;
}
chunk_fields true bytes = record {
  at = Some (number_at 16 8 bytes);
  flags = number_at 4 2 bytes;
  kind = number_at 6 2 bytes;
  cookie = number_at 8 8 bytes;
  length = number_at 24 8 bytes;
}

-- the number that a chunk begins with, and how many bytes its head takes
abbrev pub chunk_magic : (extended : Bool) → ℕ
chunk_magic false = CHUNK_MAGIC
chunk_magic true = EXTENDED_CHUNK_MAGIC

abbrev pub chunk_head_length : (extended : Bool) → ℕ
chunk_head_length false = 20
chunk_head_length true = 32
