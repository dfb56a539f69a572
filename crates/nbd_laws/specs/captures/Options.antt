-- Captures of negotiation.
use Rattle.std.specs.Prelude.{[], ◌∷◌, ◌++◌}
use Rattle.nbd_laws.specs.captures.Openings.{Chunks, client, gives, gone, greeted, read, server, structured}

-- EXPORT_NAME of a client that did not take NO_ZEROES, and a READ
abbrev pub padded_export : Chunks
padded_export =
    server 18 0x4e42444d4147494349484156454f50540003 ∷ client 4 0x00000001
    ∷ client 20 0x49484156454f505400000001000000046469736b ∷ server 10 0x0000000000000008006d ∷ server 124 0x0
    ∷ read 1 0 1 ∷ gives 1 1 0 ∷ []

-- EXPORT_NAME of a client that took NO_ZEROES, and a READ
abbrev pub bare_export : Chunks
bare_export =
    greeted
    ++ client 20 0x49484156454f505400000001000000046469736b ∷ server 10 0x0000000000000008006d
    ∷ read 1 0 1 ∷ gives 1 1 0 ∷ []

-- STARTTLS, which the server refuses, and GO
abbrev pub refused_tls : Chunks
refused_tls =
    greeted
    ++ (client 16 0x49484156454f50540000000500000000 ∷ server 20 0x0003e889045565a9000000058000000100000000
    ∷ gone 0x006d)

-- ABORT and its ACK
abbrev pub abort_acknowledged : Chunks
abort_acknowledged =
    greeted
    ++ client 16 0x49484156454f50540000000200000000 ∷ server 20 0x0003e889045565a9000000020000000100000000 ∷ []

-- LIST, one answer and its ACK
abbrev pub export_list : Chunks
export_list =
    greeted
    ++ client 16 0x49484156454f50540000000300000000 ∷ server 25 0x0003e889045565a90000000300000002000000050000000161
    ∷ server 20 0x0003e889045565a9000000030000000100000000 ∷ []

-- EXPORT_NAME, whose answer never came
abbrev pub export_name_alone : Chunks
export_name_alone = greeted ++ client 20 0x49484156454f505400000001000000046469736b ∷ []

-- structured replies, and SET_META_CONTEXT for the nameless export with the query base:allocation
abbrev pub context_asked : Chunks
context_asked =
    greeted
    ++ (structured
    ++ client 43 0x49484156454f50540000000a0000001b00000000000000010000000f626173653a616c6c6f636174696f6e ∷ [])

-- the same, one context of id 1, its ACK, and GO
abbrev pub context_selected : Chunks
context_selected =
    context_asked
    ++ (server 39 0x0003e889045565a90000000a000000040000001300000001626173653a616c6c6f636174696f6e
    ∷ server 20 0x0003e889045565a90000000a0000000100000000
    ∷ gone 0x006d)
