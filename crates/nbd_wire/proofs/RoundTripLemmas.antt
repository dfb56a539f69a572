use Rattle.std.specs.Prelude.{◌≡◌}
use Rattle.nbd_wire.proofs.Common.{arith, take, drop, Message, enc, head, tail, IsGreetingHead, IsClientFlagsHead, IsChoiceHead, IsAnswerHead, IsExportHead, IsRequestHead, IsSimpleHead, IsChunkHead, IsExtendedRequestHead, IsExtendedChunkHead, IsSendable, head_length, IsHeadOf}

-- an encoding is read back
pub read_back : (m : Message) → IsSendable m → IsHeadOf m (take (head_length m) (enc m)) × (drop (head_length m) (enc m) ≡ tail m)
unfolding enc head tail head_length IsHeadOf IsSendable IsGreetingHead IsClientFlagsHead IsChoiceHead IsAnswerHead IsExportHead IsRequestHead IsSimpleHead IsChunkHead IsExtendedRequestHead IsExtendedChunkHead
read_back m h = grind arith
