-- What a run of `make` says of its script and leaves written, where the reader and the writer state their bytes.
use Rattle.nbd_files.specs.declared.fault.RunFault.{RunFault, TheVariants.{ScriptLine, Write, Memory, ScriptRead}}
use Rattle.nbd_lines.specs.{declared.{making.MakeFault.MakeFault, output.OutputFault.OutputFault}, Faults.{Makes, MakesPrefix}, Script.{IsScript, IsFirstBadScriptLine}}
use Rattle.nbd_lines.specs.declared.making.MakeFault.TheVariants as make_faults
use Rattle.nbd_lines.specs.declared.output.OutputFault.TheVariants as output_faults
use Rattle.std.specs.{Prelude.{◌≡◌, ◌⊎◌, ℕ, List, Option, IfSome}, Io.KnownBytes.Keeps}
use Rattle.nbd_wire.specs.declared.message.Message.{Message}

-- a fault of written lines as a fault of the run
abbrev pub of_output : OutputFault → RunFault
of_output output_faults.Write = Write
of_output output_faults.Memory = Memory

-- a fault of a script that is made into chunk lines as a fault of the run
abbrev pub of_make : MakeFault → RunFault
of_make (make_faults.Line n) = ScriptLine n
of_make make_faults.Write = Write
of_make make_faults.Memory = Memory

-- known bytes are a script
abbrev pub IsKnownScript : Option (List ℕ) → Type 0
IsKnownScript known = IfSome known (λ text. (messages : List Message) × IsScript text messages)

-- the text that was read, all of the known bytes, is a script, and the chunk lines of its messages were written
pub record MakesAll (known old new : Option (List ℕ)) : Type 0 where
  pub text : List ℕ
  pub is_text : IfSome known (λ bytes. text ≡ bytes)
  pub makes : Makes text old new

-- the same, of a prefix of the chunk lines
pub record MakesSome (known old new : Option (List ℕ)) : Type 0 where
  pub text : List ℕ
  pub is_text : IfSome known (λ bytes. text ≡ bytes)
  pub makes : MakesPrefix text old new

-- what a fault that came of reading the script says of its known bytes
abbrev pub IsScriptCause : Option (List ℕ) → RunFault → Type 0
IsScriptCause known (ScriptLine n) = IfSome known (λ text. IsFirstBadScriptLine text n)
IsScriptCause known ScriptRead = Unit {0}
IsScriptCause known Write = IsKnownScript known
IsScriptCause known Memory = Unit {0}
IsScriptCause known _ = ⊥

-- what stands written after a fault: a prefix of the script's chunk lines where the writer failed, a prefix or nothing
-- after want of memory, else nothing
abbrev pub LeavesLines : (known old new : Option (List ℕ)) → RunFault → Type 0
LeavesLines known old new Write = MakesSome known old new
LeavesLines known old new Memory = Keeps old new ⊎ MakesSome known old new
LeavesLines known old new _ = Keeps old new
