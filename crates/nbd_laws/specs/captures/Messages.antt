-- What has completed in the captures that are refused.
use Rattle.std.specs.Prelude.{◌∷◌, ◌++◌, [], List}
use Rattle.byteorder.specs.Endian.{big_bytes}
use Rattle.nbd_wire.specs.declared.answers.TheConstants as answers
use Rattle.nbd_wire.specs.declared.commands.TheConstants as commands
use Rattle.nbd_wire.specs.declared.message.Message.{Message, TheVariants.{Answer, Choice, ClientFlags, Greeting, Request}}
use Rattle.nbd_wire.specs.declared.options.TheConstants as options

-- a negotiation by GO of an export of 8 bytes
abbrev pub opening_messages : List Message
opening_messages =
    Greeting 3
    ∷ ClientFlags 3
    ∷ Choice options.GO (big_bytes 6 0)
    ∷ Answer options.GO answers.INFO (big_bytes 12 0x00000000000000000008006d)
    ∷ Answer options.GO answers.ACK []
    ∷ []

-- up to SET_META_CONTEXT
abbrev pub context_messages : List Message
context_messages =
    Greeting 3
    ∷ ClientFlags 3
    ∷ Choice options.STRUCTURED_REPLY []
    ∷ Answer options.STRUCTURED_REPLY answers.ACK []
    ∷ Choice options.SET_META_CONTEXT (big_bytes 27 0x00000000000000010000000f626173653a616c6c6f636174696f6e)
    ∷ []

-- and up to transmission
abbrev pub selected_messages : List Message
selected_messages =
    context_messages
    ++ Answer options.SET_META_CONTEXT answers.META_CONTEXT (big_bytes 19 0x00000001626173653a616c6c6f636174696f6e)
    ∷ Answer options.SET_META_CONTEXT answers.ACK []
    ∷ Choice options.GO (big_bytes 6 0)
    ∷ Answer options.GO answers.INFO (big_bytes 12 0x00000000000000000008006d)
    ∷ Answer options.GO answers.ACK []
    ∷ []

-- and a BLOCK_STATUS
abbrev pub status_asked_messages : List Message
status_asked_messages = selected_messages ++ Request 0 commands.BLOCK_STATUS 1 0 8 [] ∷ []
