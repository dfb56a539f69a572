-- Which messages can be encoded.
use Rattle.std.specs.Prelude.{◌≡◌, ◌<◌, ◌^◌, ◌==◌, length, if◌then◌else◌}
use Rattle.nbd_wire.specs.{declared.{commands.TheConstants.WRITE, message.Message.{Message, TheVariants.{Choice, Answer, Request, Simple, Chunk, ExtendedRequest, ExtendedChunk}}}, protocol.Sendable.carries_payload}

-- a payload's length has four bytes (proto.md; for a simple reply and behind an extended header this project's choice),
-- and a request carries bytes where it is a WRITE, as many as its length says (proto.md, "Request message"); one with
-- an extended header where `carries_payload` says so
unfoldable pub FitsItsHead : Message → Type 0
FitsItsHead (Choice _ payload) = length payload < 2 ^ 32
FitsItsHead (Answer _ _ payload) = length payload < 2 ^ 32
FitsItsHead (Request _ command _ _ len payload) =
    (length payload < 2 ^ 32) × (length payload ≡ (if command == WRITE then len else 0))
FitsItsHead (Simple _ _ payload) = length payload < 2 ^ 32
FitsItsHead (Chunk _ _ _ payload) = length payload < 2 ^ 32
FitsItsHead (ExtendedRequest flags command _ _ len payload) =
    (length payload < 2 ^ 32) × (length payload ≡ (if carries_payload flags command then len else 0))
FitsItsHead (ExtendedChunk _ _ _ _ payload) = length payload < 2 ^ 32
FitsItsHead _ = Unit {0}
