-- Words of the private functions' contracts, which read a capture piece by piece. No public clause names them.
use Rattle.std.specs.{Prelude.{◌≡◌, ◌++◌, ◌∷◌, ◌<◌, ℕ, List, [], OnSome, Option, Some, None, Result, Ok, Err, length}, Io.KnownBytes.IsAtEnd}
use Rattle.nbd_wire.specs.declared.message.Side.{Side}
use Rattle.nbd_capture.specs.{declared.{capture.CaptureFault.{CaptureFault, TheVariants.Line}, reader.State.State, source.{Ending.{Ending, TheVariants.{LineFeed, Text}}, Piece.{Piece, TheVariants.{Part, Last, End}}, Source.Source}}, Lines.{IsUnbroken, line_feed}, Reading.{IsReaderFault, Reading, Reads, ReadsToEnd, Takes}, internal.{Adds, IsKept, Kept}}

-- a source in this state, as a contract of the capture reader sees it
abbrev pub reading : {R : Type 0} → (R → Option (List ℕ)) → Source R → State → Reading
reading remaining s state = record { rest = remaining s.reader; room = s.room; lines = s.lines; state = state }

-- a part of a line was read and kept, if any
abbrev pub IsPiece : (old new : Reading) → (before after : Kept) → Result Piece CaptureFault → Type 0
IsPiece old new before after (Ok Part) =
    (bytes : List ℕ) × Takes old new bytes × IsUnbroken bytes × (0 < length bytes) × Adds before after bytes
IsPiece old new before after (Ok Last) =
    (bytes : List ℕ) × Takes old new (bytes ++ line_feed ∷ []) × IsUnbroken bytes × Adds before after bytes
IsPiece old new before after (Ok End) = Takes old new [] × OnSome old.rest (IsAtEnd new.rest) × (after ≡ before)
IsPiece old new before after (Err (Line n)) = ⊥
IsPiece old new before after (Err fault) = Takes old new []

-- a line was read and kept
abbrev pub IsLine : (old new : Reading) → Kept → Result Ending CaptureFault → Type 0
IsLine old new kept (Ok LineFeed) =
    (bytes : List ℕ) × Takes old new (bytes ++ line_feed ∷ []) × IsUnbroken bytes × IsKept kept bytes
IsLine old new kept (Ok Text) =
    (bytes : List ℕ) × Takes old new bytes × IsUnbroken bytes × IsKept kept bytes × OnSome old.rest (IsAtEnd new.rest)
IsLine old new kept (Err (Line n)) = ⊥
IsLine old new kept (Err fault) = (bytes : List ℕ) × Takes old new bytes × IsUnbroken bytes

-- a chunk was read, or the text ended, or a fault was met
abbrev pub IsAnswer : (old new : Reading) → List ℕ → Result (Option Side) CaptureFault → Type 0
IsAnswer old new bytes (Ok (Some side)) = Reads old new (record { side = side; bytes = bytes } ∷ [])
IsAnswer old new bytes (Ok None) = ReadsToEnd old new []
IsAnswer old new bytes (Err fault) = IsReaderFault old new fault
