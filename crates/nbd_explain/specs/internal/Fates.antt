-- What replies say of the requests before them.
use Rattle.std.specs.{Prelude.{◌≡◌, ◌++◌, ◌∷◌, ◌==◌, ℕ, List, [], Bool, false, Option, Some, None, codes, if◌then◌else◌}, Io.KnownBytes.Appends, BTreeMap.{BTreeMap, get}, Ordering.nat_cmp, List.list_any}
use Rattle.nbd_wire.specs.declared.commands.TheConstants as commands
use Rattle.nbd_explain.specs.{Common.{Message, Request, ExtendedRequest, ends_reply, is_failing, cookie_of, outcome_of}, declared.fates.Reply.Reply, Named.{IsEnding, has_feed}}
use Rattle.nbd_state.specs.declared.asked.Outcome.{Outcome, TheVariants.{Failure, Pending, Success}}

-- the message is one of a reply with this cookie
abbrev pub has_cookie : ℕ → Option ℕ → Bool
has_cookie cookie (Some other) = cookie == other
has_cookie cookie None = false

-- the reply to a request with this cookie, of the messages behind it: those with the cookie, up to the one that ends
-- the reply (proto.md, "Structured reply chunk message"; no other outstanding request has the cookie)
abbrev pub reply_in : ℕ → List Message → List Message
reply_in cookie [] = []
reply_in cookie (m ∷ later) =
    if has_cookie cookie (cookie_of m) then (m ∷ (if ends_reply m then [] else reply_in cookie later))
    else reply_in cookie later

-- what became of a request with this reply
abbrev pub outcome_by : List Message → Outcome
outcome_by reply =
    if list_any ends_reply reply then (if list_any is_failing reply then Failure else Success) else Pending

-- what became of a request, by the messages behind it, if it has a number
abbrev pub fate_by : (command cookie : ℕ) → (later : List Message) → Option Outcome
fate_by command cookie later =
    if command == commands.DISC then None else Some (outcome_by (reply_in cookie later))

-- what became of a message, by those behind it, if it is a numbered request
abbrev pub fate : Message → (later : List Message) → Option Outcome
fate (Request flags command cookie offset length payload) later = fate_by command cookie later
fate (ExtendedRequest flags command cookie offset length payload) later = fate_by command cookie later
fate _ later = None

-- what became of each message, the last one first
abbrev pub fates_behind : List Message → List (Option Outcome)
fates_behind [] = []
fates_behind (m ∷ later) = fates_behind later ++ (fate m later ∷ [])

-- what the messages of a reply say
abbrev pub told_by : List Message → Reply
told_by reply = record { ends = list_any ends_reply reply; fails = list_any is_failing reply }

abbrev pub outcome_told : Reply → Outcome
outcome_told reply = if reply.ends then (if reply.fails then Failure else Success) else Pending

-- a reply without a message says nothing
abbrev pub told_if : Option Reply → Reply
told_if (Some reply) = reply
told_if None = record { ends = false; fails = false }

abbrev pub told_in : BTreeMap ℕ Reply → ℕ → Reply
told_in replies cookie = told_if (get nat_cmp replies cookie)

-- these are the replies in the messages
abbrev pub AreReplies : List Message → BTreeMap ℕ Reply → Type 0
AreReplies later replies = (cookie : ℕ) → told_in replies cookie ≡ told_by (reply_in cookie later)

-- how the line of a message with this fate ends
abbrev pub EndsWith : Option Outcome → List ℕ → Type 0
EndsWith (Some outcome) text = IsEnding (outcome_of outcome) text
EndsWith None text = text ≡ []

-- a line for each message, and no more: words, and at the end of that of a numbered request what became of it
pub data AreLines : List Message → List ℕ → Type 0 where
  none : AreLines [] []
  named : (m : Message) (later : List Message) (words ending rest : List ℕ) → has_feed words ≡ false
      → EndsWith (fate m later) ending → AreLines later rest
      → AreLines (m ∷ later) (words ++ (ending ++ (codes "\n" ++ rest)))

-- the line of a message with this fate
abbrev pub IsLine : Option Outcome → List ℕ → Type 0
IsLine fate line = (words : List ℕ) × (ending : List ℕ) × EndsWith fate ending × (has_feed words ≡ false)
    × (line ≡ words ++ (ending ++ codes "\n"))

-- the end of such a line, but for its line feed, was added
abbrev pub AddsEnding : Option Outcome → (old new : List ℕ) → Type 0
AddsEnding fate old new = (ending : List ℕ) × EndsWith fate ending × (new ≡ old ++ ending)

-- such a line was written
abbrev pub AppendsLine : Option Outcome → (old new : Option (List ℕ)) → Type 0
AppendsLine fate old new = (line : List ℕ) × IsLine fate line × Appends old new line

-- lines that name these messages were written
abbrev pub AppendsNames : List Message → (old new : Option (List ℕ)) → Type 0
AppendsNames messages old new = (lines : List ℕ) × AreLines messages lines × Appends old new lines
