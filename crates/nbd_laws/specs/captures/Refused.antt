-- Captures of small sessions that are refused.
use Rattle.std.specs.Prelude.{◌∷◌, ◌++◌, []}
use Rattle.nbd_laws.specs.captures.{Options.{context_asked, context_selected}, Openings.{Chunks, ask, chunk, client, done, opening, server}}

-- a greeting whose second number ends in X
abbrev pub wrong_greeting : Chunks
wrong_greeting = server 18 0x4e42444d4147494349484156454f50580003 ∷ []

-- a greeting without fixed newstyle
abbrev pub old_greeting : Chunks
old_greeting = server 18 0x4e42444d4147494349484156454f50540002 ∷ []

-- a greeting with both mistakes
abbrev pub wrong_old_greeting : Chunks
wrong_old_greeting = server 18 0x4e42444d4147494349484156454f50580002 ∷ []

-- the client takes NO_ZEROES, which was not offered
abbrev pub greedy_client : Chunks
greedy_client = server 18 0x4e42444d4147494349484156454f50540001 ∷ client 4 0x00000003 ∷ []

-- the client neither speaks fixed newstyle nor sets a known flag
abbrev pub strange_client : Chunks
strange_client = server 18 0x4e42444d4147494349484156454f50540003 ∷ client 4 0x00000004 ∷ []

-- a reply to no request
abbrev pub unasked_reply : Chunks
unasked_reply = opening ++ done 1 ∷ []

-- a DISC of length 1
abbrev pub long_disconnect : Chunks
long_disconnect = opening ++ ask 0 2 9 0 1 [] ∷ []

-- the head of a context to SET_META_CONTEXT
abbrev pub context_head : Chunks
context_head = context_asked ++ server 20 0x0003e889045565a90000000a0000000400000013 ∷ []

-- a BLOCK_STATUS where a context is in force, answered without a status
abbrev pub status_missing : Chunks
status_missing = context_selected ++ ask 0 7 1 0 8 [] ∷ chunk 1 0 1 0 0 ∷ []
