-- Lists of tests of a message, one at the last byte of its head and one at its last byte: in each line a fault and its
-- test, behind `else` the next line. The first line whose test holds names the fault; a list without a hit is None.
use Rattle.std.specs.Prelude.{Bool, true, false, Option, Some}
use Rattle.nbd_wire.specs.declared.fault.WireFault.{WireFault}

-- this fault where the test holds, or else what the next line says
abbrev pub fault_if : Bool → WireFault → Option WireFault → Option WireFault
fault_if true fault next = Some fault
fault_if false fault next = next

infixr 1 ◌when◌else◌
-- a line of a list
abbrev pub ◌when◌else◌ : WireFault → Bool → Option WireFault → Option WireFault
fault when test else next = fault_if test fault next
