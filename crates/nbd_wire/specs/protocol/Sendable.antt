-- Which messages may stand in a run: those whose fields fit their widths.
use Rattle.std.specs.Prelude.{ℕ, List, ◌≡◌, ◌<◌, ◌^◌, ◌==◌, ◌||◌, Bool, if◌then◌else◌, length}
use Rattle.nbd_wire.specs.{declared.message.Message.{Message, TheVariants.{Greeting, ClientFlags, Choice, Answer, Exported, Request, Simple, Chunk, ExtendedRequest, ExtendedChunk}}, protocol.{Flags.has, Encoding.AreBytes}}
use Rattle.nbd_wire.specs.declared.command_flags.TheConstants as command_flags
use Rattle.nbd_wire.specs.declared.commands.TheConstants as commands

-- a payload of bytes whose length has four bytes (the limit on a simple reply is this project's choice)
abbrev pub IsPayload : List ℕ → Type 0
IsPayload payload = (length payload < 2 ^ 32) × AreBytes payload

-- a request with an extended header carries a payload: a WRITE, and any with PAYLOAD_LEN (this project's choice, read
-- from libnbd and qemu; proto.md, "Command flags", has the flag's number)
abbrev pub carries_payload : (flags command : ℕ) → Bool
carries_payload flags command = (command == commands.WRITE) || has flags command_flags.PAYLOAD_LEN

-- each number fits its field, and a request carries bytes where it is a WRITE, as many as its length
-- says (proto.md, "Request message"); one with an extended header where `carries_payload` says so
unfoldable pub IsSendable : Message → Type 0
IsSendable (Greeting flags) = flags < 2 ^ 16
IsSendable (ClientFlags flags) = flags < 2 ^ 32
IsSendable (Choice id payload) = (id < 2 ^ 32) × IsPayload payload
IsSendable (Answer option kind payload) = (option < 2 ^ 32) × (kind < 2 ^ 32) × IsPayload payload
IsSendable (Exported size flags padded) = (size < 2 ^ 64) × (flags < 2 ^ 16)
IsSendable (Request flags command cookie offset len payload) =
    (flags < 2 ^ 16) × (command < 2 ^ 16) × (cookie < 2 ^ 64) × (offset < 2 ^ 64) × (len < 2 ^ 32)
    × (length payload ≡ (if command == commands.WRITE then len else 0)) × AreBytes payload
IsSendable (Simple error cookie payload) = (error < 2 ^ 32) × (cookie < 2 ^ 64) × IsPayload payload
IsSendable (Chunk flags kind cookie payload) =
    (flags < 2 ^ 16) × (kind < 2 ^ 16) × (cookie < 2 ^ 64) × IsPayload payload
IsSendable (ExtendedRequest flags command cookie offset len payload) =
    (flags < 2 ^ 16) × (command < 2 ^ 16) × (cookie < 2 ^ 64) × (offset < 2 ^ 64) × (len < 2 ^ 64)
    × (length payload ≡ (if carries_payload flags command then len else 0)) × IsPayload payload
IsSendable (ExtendedChunk flags kind cookie offset payload) =
    (flags < 2 ^ 16) × (kind < 2 ^ 16) × (cookie < 2 ^ 64) × (offset < 2 ^ 64) × IsPayload payload
