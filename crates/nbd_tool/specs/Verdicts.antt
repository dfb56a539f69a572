-- The line that states a verdict.
use Rattle.std.specs.{Prelude.{ℕ, List, ◌++◌, codes}, Fmt.decimal}
use Rattle.nbd_tool.specs.Common.{Verdict, Yes, Wire, Image, Order, Content, Status, OrderFault, NoSuchRequest, Twice, Late, Missing, BadPart, NotCovered, WireFault, BadMagic, NotFixedNewstyle, BadClientFlags, OutOfTurn, WrongOption, BadReplyKind, OutOfProfile, BadReplyPayload, MissingExportInfo, BadExport, ExportTooLarge, CookieInUse, UnknownCookie, SimpleForbidden, ChunkForbidden, BadChunk, BadContent, IncompleteRead, SuccessOfImproper, BadDisconnect, Unfinished, IncompleteStatus, BadReplyOffset}

-- a verdict of yes, whatever its counts
abbrev pub IsYes : Verdict → Type 0
IsYes (Yes requests answered improper) = Unit {0}
IsYes _ = ⊥

-- a fault's name, as it stands in a line
abbrev pub fault_name : WireFault → List ℕ
fault_name BadMagic = codes "BadMagic"
fault_name NotFixedNewstyle = codes "NotFixedNewstyle"
fault_name BadClientFlags = codes "BadClientFlags"
fault_name OutOfTurn = codes "OutOfTurn"
fault_name WrongOption = codes "WrongOption"
fault_name BadReplyKind = codes "BadReplyKind"
fault_name OutOfProfile = codes "OutOfProfile"
fault_name BadReplyPayload = codes "BadReplyPayload"
fault_name MissingExportInfo = codes "MissingExportInfo"
fault_name BadExport = codes "BadExport"
fault_name ExportTooLarge = codes "ExportTooLarge"
fault_name CookieInUse = codes "CookieInUse"
fault_name UnknownCookie = codes "UnknownCookie"
fault_name SimpleForbidden = codes "SimpleForbidden"
fault_name ChunkForbidden = codes "ChunkForbidden"
fault_name BadChunk = codes "BadChunk"
fault_name BadContent = codes "BadContent"
fault_name IncompleteRead = codes "IncompleteRead"
fault_name SuccessOfImproper = codes "SuccessOfImproper"
fault_name BadDisconnect = codes "BadDisconnect"
fault_name Unfinished = codes "Unfinished"
fault_name IncompleteStatus = codes "IncompleteStatus"
fault_name BadReplyOffset = codes "BadReplyOffset"

-- the name of a fault of an order
abbrev pub order_fault_name : OrderFault → List ℕ
order_fault_name NoSuchRequest = codes "NoSuchRequest"
order_fault_name Twice = codes "Twice"
order_fault_name Late = codes "Late"
order_fault_name Missing = codes "Missing"
order_fault_name BadPart = codes "BadPart"
order_fault_name NotCovered = codes "NotCovered"

-- the words of a verdict's line; numbers are decimal without leading zeros
abbrev pub words : Verdict → List ℕ
words (Yes requests answered improper) =
    codes "yes requests " ++ decimal requests ++ codes " answered " ++ decimal answered ++ codes " improper "
    ++ decimal improper
words (Wire at fault) = codes "no at byte " ++ decimal at ++ codes ": " ++ fault_name fault
words (Image image size) = codes "no image " ++ decimal image ++ codes " size " ++ decimal size
words (Order entry fault) = codes "no order entry " ++ decimal entry ++ codes ": " ++ order_fault_name fault
words (Content request offset) = codes "no content request " ++ decimal request ++ codes " offset " ++ decimal offset
words (Status request offset) = codes "no status request " ++ decimal request ++ codes " offset " ++ decimal offset

-- a verdict's line
abbrev pub line : Verdict → List ℕ
line verdict = words verdict ++ codes "\n"
