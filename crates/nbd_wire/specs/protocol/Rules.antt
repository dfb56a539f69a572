-- What a run is: a marked capture whose marks obey the rules of the protocol profile.
use Rattle.std.specs.Prelude.{ℕ, List, [], ◌∷◌, ◌++◌, ◌≡◌, ◌<◌, ◌≤◌, ◌==◌, ◌&&◌, ◌||◌, not, Bool, true, false, Option, Some, None, length, IsTrue, is_some, map, option_and_then, if◌then◌else◌}
use Rattle.nbd_wire.specs.declared.{message.{Side.{Side, TheVariants.{Client, Server}}, Message.{Message, TheVariants.{Greeting, ClientFlags, Choice, Answer, Exported, Request, Simple, Chunk, ExtendedRequest, ExtendedChunk}}}, profile.Profile.Profile}
use Rattle.nbd_wire.specs.protocol.{Marks.{Item, Byte, Starts, Completes, Serves, IsMarkedBut}, Entries.{IsServedAt, MayServe, inside_of}, Sizes.{sizes_for, sizes_kept, sizing_after, sizing_at}, Options.{agrees, next_phase, selection_after, selection_at, turn}, Decisions.{Whole, judge_in}, Encoding.{AreBytes, enc}, Contexts.{Filter, length_by}, Payloads.filter_of, Operations.{Operation, Exporting, ends_reply, proper_on, is_chunked}, Pieces.{byte_at, piece_of, piece_offset, piece_size}, Flags.has, Sides.side, States.{Core, Phase, Shown, State, Transmission, export_in, in_force, with_reply_at, operation, start_of, target, has_contexts}}
use Rattle.nbd_wire.specs.declared.answers.TheConstants as answers
use Rattle.nbd_wire.specs.declared.command_flags.TheConstants as command_flags
use Rattle.nbd_wire.specs.declared.commands.TheConstants as commands
use Rattle.nbd_wire.specs.declared.options.TheConstants as options

-- the cookie that a reply repeats
abbrev pub cookie_of : Message → Option ℕ
cookie_of (Simple error cookie payload) = Some cookie
cookie_of (Chunk flags kind cookie payload) = Some cookie
cookie_of (ExtendedChunk flags kind cookie offset payload) = Some cookie
cookie_of _ = None

-- the number of the outstanding request that a reply answers
abbrev pub request_of_reply : Core → Message → Option ℕ
request_of_reply core m = option_and_then (λ cookie. target cookie core.entries) (cookie_of m)

-- the message has an extended header
abbrev pub is_extended : Message → Bool
is_extended (ExtendedRequest _ _ _ _ _ _) = true
is_extended (ExtendedChunk _ _ _ _ _) = true
is_extended _ = false

-- what a message's first byte needs: in negotiation the side's turn, in transmission of the client that no DISC came
-- before, of the server an outstanding request that it answers (proto.md, "Fixed newstyle negotiation",
-- "Transmission"), and of both an extended header where these are in force, and nowhere else (this project's choice)
unfoldable pub MayStartIn : Phase → Core → Side → Message → Type 0
MayStartIn (Transmission export) core Client m =
    (core.disconnected ≡ false) × (is_extended m ≡ core.extended)
MayStartIn (Transmission export) core Server m =
    IsTrue (is_some (request_of_reply core m)) × (is_extended m ≡ core.extended)
MayStartIn phase core s m = turn phase ≡ Some s

-- a message may complete in a phase where its bytes are read as it: nothing is refused at its head or at its last byte
unfoldable pub MayComplete : Core → Phase → Message → Type 0
MayComplete core phase m = judge_in phase core core (side m) (enc m) ≡ Whole m

-- the message gives the READ that it answers a byte of x
abbrev pub gives : Option Operation → Message → ℕ → Bool
gives (Some e) m x = (e.command == commands.READ) && is_some (byte_at (piece_of e.offset m) x)
gives None m x = false

-- what a message shows that is not the last of the reply to a READ: the range of its piece
abbrev pub shown_with : Option Operation → Message → (count : ℕ) → List Shown
shown_with (Some e) m count =
    if (e.command == commands.READ) && not (ends_reply m) then map
    (λ p. record { offset = piece_offset p; size = piece_size p; count = count }) (piece_of e.offset m) else []
shown_with None m count = []

-- the number that is noted already, or else this one, where the condition holds
abbrev pub noted : Option ℕ → Bool → ℕ → Option ℕ
noted (Some n) b count = Some n
noted None b count = if b then Some count else None

-- the request that a reply answers has one more reply, and what that shows or ends is noted with the count of requests
abbrev pub reply_to : Option ℕ → Core → Message → Core
reply_to (Some k) core m =
    record core {
      entries = with_reply_at k m core.entries;
      shown = λ j. core.shown j
          ++ (if k == j then shown_with (operation k core.entries) m (length core.entries) else []);
      ended_at = λ j. noted (core.ended_at j) ((k == j) && ends_reply m) (length core.entries);
    }
reply_to None core m = core

-- a reply joins the replies of the request that it answers
abbrev pub core_with_reply : Core → Message → Core
core_with_reply core m = reply_to (request_of_reply core m) core m

-- a request gets the next number; a DISC has none
abbrev pub core_with_request : (is_disc : Bool) → Core → Operation → Core
core_with_request true core e = record core { disconnected = true }
core_with_request false core e = record core { entries = core.entries ++ e ∷ [] }

-- the ACK to STRUCTURED_REPLY puts structured replies in force (proto.md, "Option types"), and so does that to
-- EXTENDED_HEADERS, which also puts extended headers in force (this project's choice: proto.md has its number alone)
abbrev pub grants_structured : (option kind : ℕ) → Bool
grants_structured option kind =
    ((option == options.STRUCTURED_REPLY) || (option == options.EXTENDED_HEADERS)) && (kind == answers.ACK)

-- a request with these fields, and with this filter if it has one, as it is asked where the session stands
abbrev pub operation_asked : (extended : Bool) → Core → (flags command cookie offset len : ℕ) → List ℕ → Option Filter
    → Operation
operation_asked extended core flags command cookie offset len payload filter = record {
  extended = extended;
  flags = flags;
  command = command;
  cookie = cookie;
  offset = offset;
  length = length_by filter len;
  payload = payload;
  contexts = in_force core;
  filter = filter;
  sizes = sizes_for core.structured command (sizes_kept core.sizing);
  replies = [];
}

-- the payload that a WRITE writes; that of any other request is not written
abbrev pub written : (command : ℕ) → List ℕ → List ℕ
written command payload = if command == commands.WRITE then payload else []

-- the filter of a request with an extended header, by whether a context is in force: a BLOCK_STATUS then has one where
-- it has PAYLOAD_LEN and its payload has the form (this project's choice, read from libnbd and qemu)
abbrev pub filter_in : (has_contexts : Bool) → (flags command : ℕ) → List ℕ → Option Filter
filter_in has_contexts flags command payload =
    if has_contexts && ((command == commands.BLOCK_STATUS) && has flags command_flags.PAYLOAD_LEN)
    then filter_of payload else None

-- what a completed message leads to
unfoldable pub complete : Core → Message → Core
complete core (Greeting flags) = record core { phase = next_phase core.phase (Greeting flags); offered = flags }
complete core (ClientFlags flags) =
    record core { phase = next_phase core.phase (ClientFlags flags); client_flags = flags }
complete core (Choice id payload) = record core {
  phase = next_phase core.phase (Choice id payload);
  selection = selection_at id payload core.selection;
  brings_contexts = core.structured && agrees id payload core.selection;
  sizing = sizing_at id payload;
}
complete core (Answer option kind payload) =
    record core {
      phase = next_phase core.phase (Answer option kind payload);
      structured = core.structured || grants_structured option kind;
      extended = core.extended || ((option == options.EXTENDED_HEADERS) && (kind == answers.ACK));
      selection = selection_after core.phase kind payload core.selection;
      sizing = sizing_after kind payload core.sizing;
    }
complete core (Exported size flags padded) = record core { phase = next_phase core.phase (Exported size flags padded) }
complete core (Request flags command cookie offset len payload) =
    core_with_request (command == commands.DISC) core
    (operation_asked false core flags command cookie offset len payload None)
complete core (ExtendedRequest flags command cookie offset len payload) =
    core_with_request (command == commands.DISC) core
    (operation_asked true core flags command cookie offset len (written command payload)
    (filter_in (has_contexts core) flags command payload))
complete core m = core_with_reply core m

-- the offsets inside a request on an export, if there is one
abbrev pub inside_operation : Option Exporting → Option Operation → ℕ → Bool
inside_operation export (Some e) = inside_of (proper_on export e) export e.command e.offset e.length
inside_operation export None = λ x. false

-- the offsets inside request k
abbrev pub inside_at : Core → ℕ → ℕ → Bool
inside_at core k = inside_operation (export_in core.phase) (operation k core.entries)

-- the request is of a type that may be served by chunk
abbrev pub is_by_chunk : Profile → Option Operation → Bool
is_by_chunk profile (Some e) = is_chunked profile e.command
is_by_chunk profile None = false

-- it is this number
abbrev pub is_this : Option ℕ → ℕ → Bool
is_this (Some j) k = j == k
is_this None k = false

-- the message answers request k
abbrev pub is_reply_to : Core → Message → ℕ → Bool
is_reply_to core m k = is_this (request_of_reply core m) k

-- what request k has to be served for before an item: all of it before a reply to it starts; but a READ by chunk only
-- before a message of its reply is complete: for each offset inside that the message gives, and before the last one for
-- all that is left. A number that is no offset inside stands for the request itself (this project's choice)
abbrev pub makes_due : Core → Item → (k x : ℕ) → Bool
makes_due core (Starts s m) k x = is_reply_to core m k && not (is_by_chunk core.profile (operation k core.entries))
makes_due core (Completes s m) k x =
    is_reply_to core m k
    && (is_by_chunk core.profile (operation k core.entries)
    && (ends_reply m || (inside_at core k x && gives (operation k core.entries) m x)))
makes_due core item k x = false

-- what the item makes due was served
abbrev pub IsServedFor : State → Item → Type 0
IsServedFor state item = (k x : ℕ) → IsTrue (makes_due state.core item k x)
    → IsServedAt (inside_at state.core k) state.served k x

-- what an item needs: a start that its message is of bytes, and its turn, a completion what `MayComplete` says, both
-- that what they make due was served; a service a completed request that may be served so; a byte nothing
abbrev pub Allows : State → Item → Type 0
Allows state (Byte s b) = Unit {0}
Allows state (Starts s m) =
    (side m ≡ s) × AreBytes (enc m) × MayStartIn state.core.phase state.core s m × IsServedFor state (Starts s m)
Allows state (Completes s m) = MayComplete state.core state.core.phase m × IsServedFor state (Completes s m)
Allows state (Serves e) =
    (0 < e.request) × (e.request ≤ length state.core.entries) × MayServe (inside_at state.core e.request) state.served e

-- what an item leads to: bytes and starts change nothing
abbrev pub after : State → Item → State
after state (Completes s m) = record { core = complete state.core m; served = state.served }
after state (Serves e) = record { core = state.core; served = state.served ++ e ∷ [] }
after state item = state

-- each item is allowed where it stands
abbrev pub Obeys : State → List Item → Type 0
Obeys state [] = Unit {0}
Obeys state (item ∷ items) = Allows state item × Obeys (after state item) items

-- what the items lead to
abbrev pub ends_at : State → List Item → State
ends_at state [] = state
ends_at state (item ∷ items) = ends_at (after state item) items

-- a run of a profile, but for bytes of each side that belong to no completed message
pub record IsRunBut (profile : Profile) (items : List Item) (client server : List ℕ) : Type 0 where
  pub marked : IsMarkedBut items client server
  pub obeys : Obeys (start_of profile) items

-- a run of a profile: a marked capture that obeys the profile's rules from the start
abbrev pub IsRunOf : Profile → List Item → Type 0
IsRunOf profile items = IsRunBut profile items [] []
