-- The names that proto.md gives to numbers and flags, each with its number or mask.
use Rattle.std.specs.Prelude.{ℕ, List, [], ◌∷◌, codes}

-- types of a request, without the NBD_CMD_ before them (proto.md, "Request types")
abbrev pub command_names : List (ℕ × List ℕ)
command_names = (0, codes "READ") ∷ (1, codes "WRITE") ∷ (2, codes "DISC") ∷ (3, codes "FLUSH") ∷ (4, codes "TRIM")
    ∷ (5, codes "CACHE") ∷ (6, codes "WRITE_ZEROES") ∷ (7, codes "BLOCK_STATUS") ∷ (8, codes "RESIZE") ∷ []

-- options (proto.md, "Option types")
abbrev pub option_names : List (ℕ × List ℕ)
option_names = (1, codes "NBD_OPT_EXPORT_NAME") ∷ (2, codes "NBD_OPT_ABORT") ∷ (3, codes "NBD_OPT_LIST")
    ∷ (4, codes "NBD_OPT_PEEK_EXPORT") ∷ (5, codes "NBD_OPT_STARTTLS") ∷ (6, codes "NBD_OPT_INFO")
    ∷ (7, codes "NBD_OPT_GO") ∷ (8, codes "NBD_OPT_STRUCTURED_REPLY") ∷ (9, codes "NBD_OPT_LIST_META_CONTEXT")
    ∷ (10, codes "NBD_OPT_SET_META_CONTEXT") ∷ (11, codes "NBD_OPT_EXTENDED_HEADERS") ∷ []

-- kinds of an option reply, of which an error has bit 31 set (proto.md, "Option reply types")
abbrev pub reply_names : List (ℕ × List ℕ)
reply_names = (1, codes "NBD_REP_ACK") ∷ (2, codes "NBD_REP_SERVER") ∷ (3, codes "NBD_REP_INFO")
    ∷ (4, codes "NBD_REP_META_CONTEXT") ∷ (2147483649, codes "NBD_REP_ERR_UNSUP")
    ∷ (2147483650, codes "NBD_REP_ERR_POLICY") ∷ (2147483651, codes "NBD_REP_ERR_INVALID")
    ∷ (2147483652, codes "NBD_REP_ERR_PLATFORM") ∷ (2147483653, codes "NBD_REP_ERR_TLS_REQD")
    ∷ (2147483654, codes "NBD_REP_ERR_UNKNOWN") ∷ (2147483655, codes "NBD_REP_ERR_SHUTDOWN")
    ∷ (2147483656, codes "NBD_REP_ERR_BLOCK_SIZE_REQD") ∷ (2147483657, codes "NBD_REP_ERR_TOO_BIG")
    ∷ (2147483658, codes "NBD_REP_ERR_EXT_HEADER_REQD") ∷ []

-- what an INFO states (proto.md, "Option reply types")
abbrev pub info_names : List (ℕ × List ℕ)
info_names = (0, codes "NBD_INFO_EXPORT") ∷ (1, codes "NBD_INFO_NAME") ∷ (2, codes "NBD_INFO_DESCRIPTION")
    ∷ (3, codes "NBD_INFO_BLOCK_SIZE") ∷ []

-- types of a chunk, of which an error has bit 15 set (proto.md, "Structured reply types")
abbrev pub chunk_names : List (ℕ × List ℕ)
chunk_names = (0, codes "NBD_REPLY_TYPE_NONE") ∷ (1, codes "NBD_REPLY_TYPE_OFFSET_DATA")
    ∷ (2, codes "NBD_REPLY_TYPE_OFFSET_HOLE") ∷ (5, codes "NBD_REPLY_TYPE_BLOCK_STATUS")
    ∷ (6, codes "NBD_REPLY_TYPE_BLOCK_STATUS_EXT") ∷ (32769, codes "NBD_REPLY_TYPE_ERROR")
    ∷ (32770, codes "NBD_REPLY_TYPE_ERROR_OFFSET") ∷ []

-- errors of a request (proto.md, "Error values")
abbrev pub error_names : List (ℕ × List ℕ)
error_names = (1, codes "EPERM") ∷ (5, codes "EIO") ∷ (12, codes "ENOMEM") ∷ (22, codes "EINVAL")
    ∷ (28, codes "ENOSPC") ∷ (75, codes "EOVERFLOW") ∷ (95, codes "ENOTSUP") ∷ (108, codes "ESHUTDOWN") ∷ []

-- flags of the greeting (proto.md, "Handshake flags")
abbrev pub handshake_flag_names : List (ℕ × List ℕ)
handshake_flag_names = (1, codes "NBD_FLAG_FIXED_NEWSTYLE") ∷ (2, codes "NBD_FLAG_NO_ZEROES") ∷ []

-- flags of the client's first message (proto.md, "Client flags")
abbrev pub client_flag_names : List (ℕ × List ℕ)
client_flag_names = (1, codes "NBD_FLAG_C_FIXED_NEWSTYLE") ∷ (2, codes "NBD_FLAG_C_NO_ZEROES") ∷ []

-- flags of an export, by bits 0 to 12 (proto.md, "Transmission flags")
abbrev pub transmission_flag_names : List (ℕ × List ℕ)
transmission_flag_names = (1, codes "HAS_FLAGS") ∷ (2, codes "READ_ONLY") ∷ (4, codes "SEND_FLUSH")
    ∷ (8, codes "SEND_FUA") ∷ (16, codes "ROTATIONAL") ∷ (32, codes "SEND_TRIM") ∷ (64, codes "SEND_WRITE_ZEROES")
    ∷ (128, codes "SEND_DF") ∷ (256, codes "CAN_MULTI_CONN") ∷ (512, codes "SEND_RESIZE") ∷ (1024, codes "SEND_CACHE")
    ∷ (2048, codes "SEND_FAST_ZERO") ∷ (4096, codes "BLOCK_STATUS_PAYLOAD") ∷ []

-- flags of a request, by bits 0 to 5 (proto.md, "Command flags")
abbrev pub command_flag_names : List (ℕ × List ℕ)
command_flag_names = (1, codes "FUA") ∷ (2, codes "NO_HOLE") ∷ (4, codes "DF") ∷ (8, codes "REQ_ONE")
    ∷ (16, codes "FAST_ZERO") ∷ (32, codes "PAYLOAD_LEN") ∷ []

-- flags of a chunk (proto.md, "Structured reply flags")
abbrev pub chunk_flag_names : List (ℕ × List ℕ)
chunk_flag_names = (1, codes "DONE") ∷ []
