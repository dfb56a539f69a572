-- What the answers and the faults of this crate say of a text and of a writer's bytes.
use Rattle.std.specs.{Prelude.{List, ℕ, ◌⊎◌, Option}, Io.KnownBytes.{Appends, Keeps}}
use Rattle.nbd_wire.specs.declared.message.Message.{Message}
use Rattle.nbd_capture.specs.Writing.{AppendsPrefix}
use Rattle.nbd_lines.specs.{declared.{making.MakeFault.MakeFault, output.OutputFault.OutputFault, script.ScriptFault.ScriptFault}, Script.{IsFirstBadScriptLine, IsScript, chunk_lines}}
use Rattle.nbd_lines.specs.declared.making.MakeFault.TheVariants as make_faults
use Rattle.nbd_lines.specs.declared.output.OutputFault.TheVariants as output_faults
use Rattle.nbd_lines.specs.declared.script.ScriptFault.TheVariants as script_faults

-- a line fault names the first bad line; out of memory says nothing of the text
abbrev pub IsScriptFault : List ℕ → ScriptFault → Type 0
IsScriptFault text (script_faults.Line n) = IsFirstBadScriptLine text n
IsScriptFault text script_faults.Memory = Unit {0}

-- a fault of the script's text as a fault of `make`
abbrev pub of_script : ScriptFault → MakeFault
of_script (script_faults.Line n) = make_faults.Line n
of_script script_faults.Memory = make_faults.Memory

-- a fault of the output as a fault of `make`
abbrev pub of_output : OutputFault → MakeFault
of_output output_faults.Write = make_faults.Write
of_output output_faults.Memory = make_faults.Memory

-- the text is a script, and the known bytes grew by its messages' chunk lines
abbrev pub Makes : List ℕ → Option (List ℕ) → Option (List ℕ) → Type 0
Makes text old new = (messages : List Message) × IsScript text messages × Appends old new (chunk_lines messages)

-- the text is a script, and the known bytes grew by a prefix of its messages' chunk lines
abbrev pub MakesPrefix : List ℕ → Option (List ℕ) → Option (List ℕ) → Type 0
MakesPrefix text old new = (messages : List Message) × IsScript text messages
    × AppendsPrefix old new (chunk_lines messages)

-- what a fault of `make` says of the text
abbrev pub IsMakeCause : List ℕ → MakeFault → Type 0
IsMakeCause text (make_faults.Line n) = IsFirstBadScriptLine text n
IsMakeCause text make_faults.Write = (messages : List Message) × IsScript text messages
IsMakeCause text make_faults.Memory = Unit {0}

-- what stands written after a fault of `make`: nothing unless the text is a script, and then a prefix of its chunk
-- lines
abbrev pub LeavesMade : List ℕ → Option (List ℕ) → Option (List ℕ) → MakeFault → Type 0
LeavesMade text old new (make_faults.Line n) = Keeps old new
LeavesMade text old new make_faults.Write = MakesPrefix text old new
LeavesMade text old new make_faults.Memory = Keeps old new ⊎ MakesPrefix text old new
