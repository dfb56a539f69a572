-- Who broke the rule that a wire fault names.
use Rattle.nbd_wire.specs.declared.fault.WireFault.{WireFault, TheVariants.{BadMagic, NotFixedNewstyle, OutOfTurn, BadClientFlags, CookieInUse, BadDisconnect, OutOfProfile, ExportTooLarge, Unfinished}}
use Rattle.nbd_story.specs.declared.rules.Breaker.{Breaker, TheVariants.{Client, Server, Sender, Nobody}}

-- the sender of the byte, where each side can break the rule; the client by its flags and requests; nobody, where the
-- session is allowed and this project does not follow it, or its recording ended; else the server
abbrev pub breaker_of : WireFault → Breaker
breaker_of BadMagic = Sender
breaker_of NotFixedNewstyle = Nobody
breaker_of OutOfTurn = Sender
breaker_of BadClientFlags = Client
breaker_of CookieInUse = Client
breaker_of BadDisconnect = Client
breaker_of OutOfProfile = Nobody
breaker_of ExportTooLarge = Nobody
breaker_of Unfinished = Nobody
breaker_of _ = Server
