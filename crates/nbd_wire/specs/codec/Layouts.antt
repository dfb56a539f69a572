-- The heads of messages as the code writes them, from the numbers in them, the payload's length among them, to their
-- bytes. Numbers are big-endian.
use Rattle.std.specs.Prelude.{ℕ, List, ◌++◌}
use Rattle.byteorder.specs.Endian.{big_bytes}
use Rattle.nbd_wire.specs.declared.magics.TheConstants.{GREETING_MAGIC, OPTION_MAGIC, ANSWER_MAGIC, REQUEST_MAGIC, SIMPLE_MAGIC, CHUNK_MAGIC, EXTENDED_REQUEST_MAGIC, EXTENDED_CHUNK_MAGIC}

-- the server's greeting (proto.md, "Newstyle negotiation")
abbrev pub greeting_bytes : ℕ → List ℕ
greeting_bytes flags = big_bytes 8 GREETING_MAGIC ++ big_bytes 8 OPTION_MAGIC ++ big_bytes 2 flags

-- the client's flags (proto.md, "Newstyle negotiation")
abbrev pub client_flags_bytes : ℕ → List ℕ
client_flags_bytes flags = big_bytes 4 flags

-- a client's option with data of this length (proto.md, "Newstyle negotiation")
abbrev pub choice_bytes : ℕ → ℕ → List ℕ
choice_bytes id len = big_bytes 8 OPTION_MAGIC ++ big_bytes 4 id ++ big_bytes 4 len

-- an answer to an option with data of this length (proto.md, "Fixed newstyle negotiation")
abbrev pub answer_bytes : ℕ → ℕ → ℕ → List ℕ
answer_bytes option kind len = big_bytes 8 ANSWER_MAGIC ++ big_bytes 4 option ++ big_bytes 4 kind ++ big_bytes 4 len

-- the answer to EXPORT_NAME (proto.md, "Newstyle negotiation")
abbrev pub export_bytes : ℕ → ℕ → List ℕ
export_bytes size flags = big_bytes 8 size ++ big_bytes 2 flags

-- a request (proto.md, "Request message")
abbrev pub request_bytes : ℕ → ℕ → ℕ → ℕ → ℕ → List ℕ
request_bytes flags command cookie offset len =
    big_bytes 4 REQUEST_MAGIC ++ big_bytes 2 flags ++ big_bytes 2 command ++ big_bytes 8 cookie ++ big_bytes 8 offset
    ++ big_bytes 4 len

-- a simple reply (proto.md, "Simple reply message")
abbrev pub simple_bytes : ℕ → ℕ → List ℕ
simple_bytes error cookie = big_bytes 4 SIMPLE_MAGIC ++ big_bytes 4 error ++ big_bytes 8 cookie

-- a chunk with a payload of this length (proto.md, "Structured reply chunk message")
abbrev pub chunk_bytes : ℕ → ℕ → ℕ → ℕ → List ℕ
chunk_bytes flags kind cookie len = big_bytes 4 CHUNK_MAGIC ++ big_bytes 2 flags ++ big_bytes 2 kind
    ++ big_bytes 8 cookie ++ big_bytes 4 len

-- a request with an extended header (its magic number: proto.md, "Reserved Magic values"; its
-- layout is that which libnbd and qemu have)
abbrev pub extended_request_bytes : ℕ → ℕ → ℕ → ℕ → ℕ → List ℕ
extended_request_bytes flags command cookie offset len =
    big_bytes 4 EXTENDED_REQUEST_MAGIC ++ big_bytes 2 flags ++ big_bytes 2 command ++ big_bytes 8 cookie
    ++ big_bytes 8 offset ++ big_bytes 8 len

-- a chunk with an extended header and a payload of this length (likewise)
abbrev pub extended_chunk_bytes : ℕ → ℕ → ℕ → ℕ → ℕ → List ℕ
extended_chunk_bytes flags kind cookie offset len =
    big_bytes 4 EXTENDED_CHUNK_MAGIC ++ big_bytes 2 flags ++ big_bytes 2 kind ++ big_bytes 8 cookie
    ++ big_bytes 8 offset ++ big_bytes 8 len
