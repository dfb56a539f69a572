-- Captures of small sessions: the sender of each message, and its bytes written out as numbers. These are the messages,
-- beginnings that several captures share, and one that goes wrong.
use Rattle.std.specs.Prelude.{ℕ, List, [], ◌∷◌, ◌++◌}
use Rattle.byteorder.specs.Endian.{big_bytes}
use Rattle.nbd_wire.specs.declared.message.Side.{Side, TheVariants.{Client, Server}}

abbrev pub Chunks : Type 0
Chunks = List (Side × List ℕ)

abbrev pub client : ℕ → ℕ → Side × List ℕ
client n bytes = (Client, big_bytes n bytes)

abbrev pub server : ℕ → ℕ → Side × List ℕ
server n bytes = (Server, big_bytes n bytes)

-- the greeting of a server with NO_ZEROES, and a client that takes it
abbrev pub greeted : Chunks
greeted = server 18 0x4e42444d4147494349484156454f50540003 ∷ client 4 0x00000003 ∷ []

-- STRUCTURED_REPLY and its ACK
abbrev pub structured : Chunks
structured = client 16 0x49484156454f50540000000800000000 ∷ server 20 0x0003e889045565a9000000080000000100000000 ∷ []

-- GO for the nameless export, an info that it has 8 bytes and these flags, and an ACK
abbrev pub gone : (flags : ℕ) → Chunks
gone flags =
    client 22 0x49484156454f50540000000700000006000000000000
    ∷ (Server, big_bytes 30 0x0003e889045565a900000007000000030000000c00000000000000000008 ++ big_bytes 2 flags)
    ∷ server 20 0x0003e889045565a9000000070000000100000000
    ∷ []

-- an export that takes FLUSH, TRIM, WRITE_ZEROES and FUA; the same after STRUCTURED_REPLY
abbrev pub opening : Chunks
opening = greeted ++ gone 0x006d

abbrev pub opening_structured : Chunks
opening_structured = greeted ++ (structured ++ gone 0x006d)

-- one that has all flags of a request, one that is read-only besides, and one that offers nothing
abbrev pub opening_flags : Chunks
opening_flags = greeted ++ gone 0x08ed

abbrev pub opening_read_only : Chunks
opening_read_only = greeted ++ gone 0x006f

abbrev pub opening_bare : Chunks
opening_bare = greeted ++ gone 0x0001

-- a request with these flags and of this type, and the bytes of its payload
abbrev pub ask : (flags command cookie offset len : ℕ) → List ℕ → Side × List ℕ
ask flags command cookie offset len payload = (
  Client,
  big_bytes 4 0x25609513
      ++ (big_bytes 2 flags ++ (big_bytes 2 command ++ (big_bytes 8 cookie ++ (big_bytes 8 offset
      ++ (big_bytes 4 len ++ payload))))),
)

-- a READ
abbrev pub read : (cookie offset len : ℕ) → Side × List ℕ
read cookie offset len = ask 0 0 cookie offset len []

-- a WRITE of so many bytes, which are this number
abbrev pub write : (cookie offset len bytes : ℕ) → Side × List ℕ
write cookie offset len bytes = ask 0 1 cookie offset len (big_bytes len bytes)

-- a simple reply with this error, and so many bytes of data, which are this number
abbrev pub simple : (error cookie n bytes : ℕ) → Side × List ℕ
simple error cookie n bytes = (
  Server,
  big_bytes 4 0x67446698
      ++ (big_bytes 4 error ++ (big_bytes 8 cookie ++ big_bytes n bytes)),
)

-- success without data, and with data
abbrev pub done : (cookie : ℕ) → Side × List ℕ
done cookie = simple 0 cookie 0 0

abbrev pub gives : (cookie n bytes : ℕ) → Side × List ℕ
gives cookie n bytes = simple 0 cookie n bytes

-- a chunk with these flags and of this type, and so many bytes of payload, which are this number
abbrev pub chunk : (flags kind cookie n bytes : ℕ) → Side × List ℕ
chunk flags kind cookie n bytes = (
  Server,
  big_bytes 4 0x668e33ef
      ++ (big_bytes 2 flags ++ (big_bytes 2 kind ++ (big_bytes 8 cookie ++ (big_bytes 4 n ++ big_bytes n bytes)))),
)

-- one byte of the client
abbrev pub hasty_client : Chunks
hasty_client = client 1 0x00 ∷ []
