-- The two sides, and which of them sends a message.
use Rattle.std.specs.Prelude.{Bool, true, false}
use Rattle.nbd_wire.specs.declared.message.{Side.{Side, TheVariants.{Client, Server}}, Message.{Message, TheVariants.{ClientFlags, Choice, Request, ExtendedRequest}}}

-- who sends the message (proto.md, "Newstyle negotiation", "Transmission")
abbrev pub side : Message → Side
side (ClientFlags _) = Client
side (Choice _ _) = Client
side (Request _ _ _ _ _ _) = Client
side (ExtendedRequest _ _ _ _ _ _) = Client
side _ = Server

-- the two are one side
abbrev pub same_side : Side → Side → Bool
same_side Client Client = true
same_side Server Server = true
same_side _ _ = false
