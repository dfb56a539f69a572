-- What a run of `show --names` writes, where the reader and the writer state their bytes.
use Rattle.std.specs.{Prelude.{◌≡◌, ◌++◌, ◌∷◌, ◌==◌, ℕ, List, [], Bool, false, not, Option, IfSome, codes}, List.list_any, Io.KnownBytes.{Appends, Keeps}}
use Rattle.nbd_wire.specs.declared.commands.TheConstants as commands
use Rattle.nbd_explain.specs.{Common.{Message, Request, ExtendedRequest, Profile, length_by, Item, completed_messages, Asked, report, IsRunBut, ends_at, filter_in, written, has_contexts, start_of, Chunk, IsCaptureText, line_feed, RunFault, Write, flat_of}, Shown.IsShown}
use Rattle.nbd_wire.specs.{Prelude.{Outcome, Success, Pending}, protocol.Operations.Failure}
use Rattle.nbd_files.specs.declared.fault.RunFault.TheVariants.{Memory}

-- a request with a number: each but DISC
abbrev pub is_numbered : Message → Bool
is_numbered (Request flags command cookie offset length payload) = not (command == commands.DISC)
is_numbered (ExtendedRequest flags command cookie offset length payload) = not (command == commands.DISC)
is_numbered _ = false

-- the message of a request that a report states, with the length of its range, if it had no extended header
abbrev pub message_of : Asked → Message
message_of a = Request a.flags a.command a.cookie a.offset a.length a.payload

-- a request without its extended header, with the length of its range and the payload of a WRITE alone, by whether a
-- metadata context is in force
abbrev pub plain : (has_contexts : Bool) → Message → Message
plain has_contexts (ExtendedRequest flags command cookie offset length payload) =
    Request flags command cookie offset (length_by (filter_in has_contexts flags command payload) length)
    (written command payload)
plain has_contexts m = m

-- a line feed stands in the text
abbrev pub has_feed : List ℕ → Bool
has_feed text = list_any (λ byte. byte == line_feed) text

-- how the line of a request with this outcome ends
abbrev pub IsEnding : Outcome → List ℕ → Type 0
IsEnding Success text = text ≡ codes ": success"
IsEnding Pending text = text ≡ codes ": pending"
IsEnding Failure text = (error : List ℕ) × (text ≡ codes ": failure, " ++ error) × (has_feed error ≡ false)

-- a line for each message, and no more: words, and at the end of that of a numbered request what became of it, as these
-- requests state it; by whether a metadata context is in force in transmission
pub data AreNamed (has_contexts : Bool) : List Message → List Asked → List ℕ → Type 0 where
  none : AreNamed has_contexts [] [] []
  request : (a : Asked) (m : Message) (later : List Message) (asked : List Asked) (words ending rest : List ℕ)
      → plain has_contexts m ≡ message_of a → has_feed words ≡ false → IsEnding a.outcome ending
      → AreNamed has_contexts later asked rest
      → AreNamed has_contexts (m ∷ later) (a ∷ asked) (words ++ (ending ++ (codes "\n" ++ rest)))
  other : (m : Message) (later : List Message) (asked : List Asked) (words rest : List ℕ)
      → is_numbered m ≡ false → has_feed words ≡ false → AreNamed has_contexts later asked rest
      → AreNamed has_contexts (m ∷ later) asked (words ++ (codes "\n" ++ rest))

-- the messages of a capture's session of the profile were told in words, with what became of the requests by the report
-- of each run in which just these messages complete (`is_shown` has such a run), and then the last line of `show`
pub record NamesAll (profile : Profile) (known : Option (List ℕ)) (yes : Bool)
    (old new : Option (List ℕ)) : Type 0 where
  pub chunks : List Chunk
  pub is_text : IfSome known (λ text. IsCaptureText text chunks)
  pub messages : List Message
  pub last : List ℕ
  pub is_shown : IsShown profile (flat_of chunks) yes messages last
  pub lines : List ℕ
  pub are_named : (items : List Item) (client server : List ℕ) → IsRunBut profile items client server
      → completed_messages items ≡ messages
      → AreNamed (has_contexts (ends_at (start_of profile) items).core) messages (report items).asked lines
  pub appended : Appends old new (lines ++ last)

-- nothing was written before a fault, but where the writer failed or memory ran out
abbrev pub KeepsUnread : (old new : Option (List ℕ)) → RunFault → Type 0
KeepsUnread old new Write = Unit {0}
KeepsUnread old new Memory = Unit {0}
KeepsUnread old new _ = Keeps old new
