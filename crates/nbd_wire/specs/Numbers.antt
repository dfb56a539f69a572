-- The numbers of proto.md as literals, since the definitions take them from the code's constants.
use Rattle.std.specs.Prelude.{◌≡◌}
use Rattle.nbd_wire.specs.declared.answers.TheConstants as answers
use Rattle.nbd_wire.specs.declared.chunks.TheConstants as chunks
use Rattle.nbd_wire.specs.declared.states.TheConstants as states
use Rattle.nbd_wire.specs.declared.command_flags.TheConstants as command_flags
use Rattle.nbd_wire.specs.declared.commands.TheConstants as commands
use Rattle.nbd_wire.specs.declared.handshake.TheConstants as handshake
use Rattle.nbd_wire.specs.declared.head_lengths.TheConstants as head_lengths
use Rattle.nbd_wire.specs.declared.infos.TheConstants as infos
use Rattle.nbd_wire.specs.declared.limits.TheConstants as limits
use Rattle.nbd_wire.specs.declared.magics.TheConstants as magics
use Rattle.nbd_wire.specs.declared.options.TheConstants as options
use Rattle.nbd_wire.specs.declared.transmission.TheConstants as transmission

-- what messages begin with (proto.md, "Newstyle negotiation", "Request message", "Simple reply message", "Structured
-- reply chunk message")
abbrev pub MagicsAreLiteral : Type 0
MagicsAreLiteral =
    (magics.GREETING_MAGIC ≡ 0x4e42444d41474943) × (magics.OPTION_MAGIC ≡ 0x49484156454f5054)
    × (magics.ANSWER_MAGIC ≡ 0x0003e889045565a9) × (magics.REQUEST_MAGIC ≡ 0x25609513)
    × (magics.SIMPLE_MAGIC ≡ 0x67446698) × (magics.CHUNK_MAGIC ≡ 0x668e33ef)
    × (magics.EXTENDED_REQUEST_MAGIC ≡ 0x21e41c71) × (magics.EXTENDED_CHUNK_MAGIC ≡ 0x6e8a278c)

-- the server's handshake flags and the client's (proto.md, "Handshake flags", "Client flags")
abbrev pub HandshakeFlagsAreLiteral : Type 0
HandshakeFlagsAreLiteral =
    (handshake.FIXED_NEWSTYLE ≡ 1) × (handshake.NO_ZEROES ≡ 2) × (handshake.C_FIXED_NEWSTYLE ≡ 1)
    × (handshake.C_NO_ZEROES ≡ 2)

-- options (proto.md, "Option types")
abbrev pub OptionsAreLiteral : Type 0
OptionsAreLiteral =
    (options.EXPORT_NAME ≡ 1) × (options.ABORT ≡ 2) × (options.LIST ≡ 3) × (options.STARTTLS ≡ 5) × (options.INFO ≡ 6)
    × (options.GO ≡ 7) × (options.STRUCTURED_REPLY ≡ 8) × (options.LIST_META_CONTEXT ≡ 9)
    × (options.SET_META_CONTEXT ≡ 10) × (options.EXTENDED_HEADERS ≡ 11)

-- kinds of option replies, of which an error has bit 31 set (proto.md, "Option reply types")
abbrev pub ReplyKindsAreLiteral : Type 0
ReplyKindsAreLiteral =
    (answers.ACK ≡ 1) × (answers.SERVER ≡ 2) × (answers.INFO ≡ 3) × (answers.META_CONTEXT ≡ 4)
    × (answers.ERROR ≡ 2147483648)

-- kinds of infos (proto.md, "Option reply types")
abbrev pub InfosAreLiteral : Type 0
InfosAreLiteral = (infos.EXPORT ≡ 0) × (infos.NAME ≡ 1) × (infos.DESCRIPTION ≡ 2) × (infos.BLOCK_SIZE ≡ 3)

-- transmission flags, by bits 0 to 8 and 10 to 12 (proto.md, "Transmission flags")
abbrev pub TransmissionFlagsAreLiteral : Type 0
TransmissionFlagsAreLiteral =
    (transmission.HAS_FLAGS ≡ 1) × (transmission.READ_ONLY ≡ 2) × (transmission.SEND_FLUSH ≡ 4)
    × (transmission.SEND_FUA ≡ 8) × (transmission.ROTATIONAL ≡ 16) × (transmission.SEND_TRIM ≡ 32)
    × (transmission.SEND_WRITE_ZEROES ≡ 64) × (transmission.SEND_DF ≡ 128) × (transmission.CAN_MULTI_CONN ≡ 256)
    × (transmission.SEND_CACHE ≡ 1024) × (transmission.SEND_FAST_ZERO ≡ 2048)
    × (transmission.BLOCK_STATUS_PAYLOAD ≡ 4096)

-- types of requests (proto.md, "Request types")
abbrev pub CommandsAreLiteral : Type 0
CommandsAreLiteral =
    (commands.READ ≡ 0) × (commands.WRITE ≡ 1) × (commands.DISC ≡ 2) × (commands.FLUSH ≡ 3) × (commands.TRIM ≡ 4)
    × (commands.CACHE ≡ 5) × (commands.WRITE_ZEROES ≡ 6) × (commands.BLOCK_STATUS ≡ 7)

-- command flags, by bits 0 to 5 (proto.md, "Command flags")
abbrev pub CommandFlagsAreLiteral : Type 0
CommandFlagsAreLiteral =
    (command_flags.FUA ≡ 1) × (command_flags.NO_HOLE ≡ 2) × (command_flags.DF ≡ 4) × (command_flags.REQ_ONE ≡ 8)
    × (command_flags.FAST_ZERO ≡ 16) × (command_flags.PAYLOAD_LEN ≡ 32)

-- types and the flag of chunks (proto.md, "Structured reply types", "Structured reply flags")
abbrev pub ChunksAreLiteral : Type 0
ChunksAreLiteral =
    (chunks.NONE ≡ 0) × (chunks.OFFSET_DATA ≡ 1) × (chunks.OFFSET_HOLE ≡ 2) × (chunks.BLOCK_STATUS ≡ 5)
    × (chunks.BLOCK_STATUS_EXT ≡ 6) × (chunks.ERROR ≡ 0x8001) × (chunks.ERROR_OFFSET ≡ 0x8002)
    × (chunks.FIRST_ERROR ≡ 0x8000) × (chunks.DONE ≡ 1)

-- flags of the statuses of base:allocation (proto.md, "Metadata querying")
abbrev pub StatesAreLiteral : Type 0
StatesAreLiteral = (states.HOLE ≡ 1) × (states.ZERO ≡ 2)

-- lengths of heads in bytes, and of the zeroes after an export's size and flags (the layouts of proto.md; those of
-- extended headers are this project's choice)
abbrev pub LengthsAreLiteral : Type 0
LengthsAreLiteral =
    (head_lengths.GREETING ≡ 18) × (head_lengths.CLIENT_FLAGS ≡ 4) × (head_lengths.CHOICE ≡ 16)
    × (head_lengths.ANSWER ≡ 20) × (head_lengths.EXPORT ≡ 10) × (head_lengths.REQUEST ≡ 28)
    × (head_lengths.SIMPLE ≡ 16) × (head_lengths.CHUNK ≡ 20) × (head_lengths.EXTENDED_REQUEST ≡ 32)
    × (head_lengths.EXTENDED_CHUNK ≡ 32) × (head_lengths.PADDING ≡ 124)

-- the largest export and the longest payload in bytes (this project's choice), and limits of block sizes
abbrev pub LimitsAreLiteral : Type 0
LimitsAreLiteral =
    (limits.EXPORT_SIZE ≡ 9223372036854775807) × (limits.LONGEST_PAYLOAD ≡ 4294967295) × (limits.LEAST_SIZE ≡ 65536)
    × (limits.PREFERRED_SIZE ≡ 512) × (limits.NO_LARGEST_SIZE ≡ 4294967295)
