-- What a capture reader has read of its text, and what its answers say of that.
--
-- A caller that loops over `next_into` or `next_chunk` keeps `Reads start now chunks`, from the reader as `new` made it
-- to the reader as it is, with the chunks so far, and that its state is `Open`; `room` falls with each chunk. After
-- `None` the laws `steps_are_joined` and `chunks_read_to_the_end` say that these are the text's chunks; after a line
-- fault `refused_line_is_the_first_bad_one` says that the text's first bad line has this number. Such a caller is
-- crates/nbdcheck_first/src/tests/whole.rt.
use Rattle.std.specs.{Prelude.{◌≡◌, ◌+◌, ◌++◌, ◌==◌, ℕ, List, [], Option, Some, None, OnSome, IfSome, Result, Ok, Err, count_by, length}, Io.KnownBytes.{Consumes, IsAtEnd}}
use Rattle.nbd_capture.specs.{declared.{capture.CaptureFault.{CaptureFault, TheVariants.{Line, Memory, Read}}, reader.State.{State, TheVariants.{Open, Ended, Failed}}}, Lines.{IsUnbroken, line_feed}, Capture.{Chunk, IsCaptureText, IsFirstBadCaptureLine}}

-- A capture reader: the bytes that its reader has left, where these are known; how many bytes the rest of the text may
-- have; how many lines were read; and whether there may be more to read.
pub record Reading : Type 0 where
  pub rest : Option (List ℕ)
  pub room : ℕ
  pub lines : ℕ
  pub state : State

-- before the first byte of a text that may have so many bytes
abbrev pub at_start : (known : Option (List ℕ)) → (limit : ℕ) → Reading
at_start known limit = record { rest = known; room = limit; lines = 0; state = Open }

-- how many lines end within these bytes
abbrev pub lines_ended : List ℕ → ℕ
lines_ended bytes = count_by (λ b. b == line_feed) bytes

-- these bytes were read
pub record Takes (old new : Reading) (bytes : List ℕ) : Type 0 where
  pub consumed : Consumes old.rest new.rest bytes
  pub fits : length bytes + new.room ≡ old.room
  pub counted : new.lines ≡ old.lines + lines_ended bytes

-- whole lines were read, which give these chunks
pub record Reads (old new : Reading) (chunks : List Chunk) : Type 0 where
  pub bytes : List ℕ
  pub takes : Takes old new bytes
  pub is_text : IsCaptureText bytes chunks

-- whole lines were read, which give these chunks, and no byte is left where the bytes are known
pub record ReadsToEnd (old new : Reading) (chunks : List Chunk) : Type 0 where
  pub reads : Reads old new chunks
  pub nothing_left : OnSome old.rest (IsAtEnd new.rest)

-- lines that give no chunk were read, and of the next line a part
pub record StopsWithin (old new : Reading) : Type 0 where
  pub silent : List ℕ
  pub part : List ℕ
  pub takes : Takes old new (silent ++ part)
  pub is_text : IsCaptureText silent []
  pub unbroken : IsUnbroken part

-- lines that give no chunk were read, and then a bad one, of this number: its LF was read, or the text ends with it
pub record Refuses (old new : Reading) (number : ℕ) : Type 0 where
  pub silent : List ℕ
  pub bad : List ℕ
  pub takes : Takes old new (silent ++ bad)
  pub is_text : IsCaptureText silent []
  pub is_bad : IsFirstBadCaptureLine bad 1
  pub ended : IsUnbroken bad → OnSome old.rest (IsAtEnd new.rest)
  pub is_number : number ≡ old.lines + lines_ended silent + 1

-- what a fault says of what was read; that the reader failed, or the text is too long, no contract can say
abbrev pub IsReaderFault : (old new : Reading) → CaptureFault → Type 0
IsReaderFault old new (Line n) = Refuses old new n
IsReaderFault old new Read = StopsWithin old new
IsReaderFault old new Memory = (bytes : List ℕ) × Takes old new bytes

-- whether there is more to read after an answer
abbrev pub state_after : {A : Type 0} → Result (Option A) CaptureFault → State
state_after (Ok (Some a)) = Open
state_after (Ok None) = Ended
state_after (Err fault) = Failed fault

-- where the bytes are known, a line fault names their first bad line
abbrev pub NamesFirstBadLine : Option (List ℕ) → CaptureFault → Type 0
NamesFirstBadLine known (Line n) = IfSome known (λ text. IsFirstBadCaptureLine text n)
NamesFirstBadLine known fault = Unit {0}
