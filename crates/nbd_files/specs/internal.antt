-- The parts of what is printed of a fault.
use Rattle.std.specs.Prelude.{ℕ, List, Option, Some, None, codes}
use Rattle.nbd_files.specs.declared.fault.RunFault.{RunFault, TheVariants.{CaptureLine, CaptureRead, OrderLine, OrderRead, ImageRead, ContentsLine, ContentsRead, AgainstRead, ScriptLine, ScriptRead, Write, Memory}}

-- what the fault was met in
abbrev pub name_of : RunFault → List ℕ
name_of (CaptureLine n) = codes "capture"
name_of CaptureRead = codes "capture read"
name_of (OrderLine n) = codes "order"
name_of OrderRead = codes "order read"
name_of ImageRead = codes "image read"
name_of (ContentsLine n) = codes "contents"
name_of ContentsRead = codes "contents read"
name_of AgainstRead = codes "against read"
name_of (ScriptLine n) = codes "script"
name_of ScriptRead = codes "script read"
name_of Write = codes "write"
name_of Memory = codes "memory"

-- the number of the malformed line
abbrev pub line_of : RunFault → Option ℕ
line_of (CaptureLine n) = Some n
line_of (OrderLine n) = Some n
line_of (ContentsLine n) = Some n
line_of (ScriptLine n) = Some n
line_of fault = None
