-- The faults of a run.
use Rattle.std.specs.{Prelude.{ℕ, List, ◌++◌, codes}, Fmt.decimal}
use Rattle.nbd_files.specs.declared.fault.RunFault.{RunFault, TheVariants.{CaptureLine, CaptureRead, OrderLine, OrderRead, ImageRead, ContentsLine, ContentsRead, AgainstRead, ScriptLine, ScriptRead, Write, Memory}}
use Rattle.nbd_capture.specs.declared.{capture.CaptureFault.CaptureFault, contents.ContentsFault.ContentsFault, order.OrderTextFault.OrderTextFault}
use Rattle.nbd_capture.specs.declared.capture.CaptureFault.TheVariants as capture_faults
use Rattle.nbd_capture.specs.declared.contents.ContentsFault.TheVariants as contents_faults
use Rattle.nbd_capture.specs.declared.order.OrderTextFault.TheVariants as order_faults

-- the exit status: 4 for out of memory, 3 for anything else
abbrev pub status : RunFault → ℕ
status Memory = 4
status _ = 3

-- what is printed of a fault; numbers are decimal without leading zeros
abbrev pub words : RunFault → List ℕ
words (CaptureLine n) = codes "fault capture line " ++ decimal n
words CaptureRead = codes "fault capture read"
words (OrderLine n) = codes "fault order line " ++ decimal n
words OrderRead = codes "fault order read"
words ImageRead = codes "fault image read"
words (ContentsLine n) = codes "fault contents line " ++ decimal n
words ContentsRead = codes "fault contents read"
words AgainstRead = codes "fault against read"
words (ScriptLine n) = codes "fault script line " ++ decimal n
words ScriptRead = codes "fault script read"
words Write = codes "fault write"
words Memory = codes "fault memory"

-- a fault of the capture's text as a fault of the run
abbrev pub of_capture : CaptureFault → RunFault
of_capture (capture_faults.Line n) = CaptureLine n
of_capture capture_faults.Read = CaptureRead
of_capture capture_faults.Memory = Memory

-- the same of the order's text
abbrev pub of_order : OrderTextFault → RunFault
of_order (order_faults.Line n) = OrderLine n
of_order order_faults.Memory = Memory

-- the same of a contents text
abbrev pub of_contents : ContentsFault → RunFault
of_contents (contents_faults.Line n) = ContentsLine n
of_contents contents_faults.Memory = Memory
