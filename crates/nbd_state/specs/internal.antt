-- What a completed message does to the exchanges, and what one more reply message notes of a request.
pub mod Keeping
use Rattle.std.specs.Prelude.{ℕ, List, Option, if◌then◌else◌, ◌≡◌, [], ◌∷◌, Bool, false, slice_get, ◌++◌, Some}
use Rattle.nbd_wire.specs.{declared.{heads.transmission.RequestHead.RequestHead, message.Message.Message, sizes.Sizes.Sizes}, Prelude.{Context, Filter, length_by, Operation, written, Status, is_this, noted, is_allocation, Exporting, ends_reply, shown_with, with_reply}}
use Rattle.nbd_state.specs.{declared.{asked.{Exchange.Exchange, Asked.Asked}, state.{Export.Export, Phase.{Phase, TheVariants.Transmission}}}, Shows.known_if, Showing.{shown_in, IsShown}}

-- the payload behind this head that is kept as it is
abbrev pub carried : RequestHead → List ℕ → List ℕ
carried head payload = if head.extended then written head.command payload else payload

-- the request of this head, with this payload and filter, where these contexts and sizes are in force, and its replies
abbrev pub operation_of_head : RequestHead → List ℕ → List Context → Option Filter → Option Sizes → List Message
    → Operation
operation_of_head head payload contexts filter sizes replies = record {
  extended = head.extended;
  flags = head.flags;
  command = head.command;
  cookie = head.cookie;
  offset = head.offset;
  length = length_by filter head.length;
  payload = payload;
  contexts = contexts;
  filter = filter;
  sizes = sizes;
  replies = replies;
}

-- in transmission
abbrev pub IsTransmitting : Phase → Type 0
IsTransmitting phase = (export : Export) × (phase ≡ Transmission export)

-- the exchanges know what they knew, and no more
abbrev pub AddsUnanswered : List Exchange → List Exchange → Type 0
AddsUnanswered old new = (place : ℕ) → known_if (slice_get new place) ≡ known_if (slice_get old place)

-- the first of these statuses is of base:allocation, where these contexts are in force
abbrev pub is_allocation_told : List Context → List Status → Bool
is_allocation_told contexts [] = false
is_allocation_told contexts (s ∷ statuses) = is_allocation contexts s.id

-- the exchanges know what they knew, but the one at this place, if any, that a reply message told so many
abbrev pub TellsOne : Option ℕ → ℕ → List Exchange → List Exchange → Type 0
TellsOne told n old new = (place : ℕ)
    → known_if (slice_get new place) ≡ noted (known_if (slice_get old place)) (is_this told place) n

-- what the message shows and ends is noted, with this count
pub record IsNotedWith (e : Operation) (m : Message) (count : ℕ) (old new : Asked) : Type 0 where
  pub ended : new.ended_at ≡ noted old.ended_at (ends_reply m) count
  pub shown : shown_in new ≡ shown_in old ++ shown_with (Some e) m count

-- the exchange shows the request with the message, which is noted
abbrev pub HasTaken : Exporting → Operation → Message → (count : ℕ) → (old new : Exchange) → Type 0
HasTaken export e m count old new = IsShown export (with_reply e m) new × IsNotedWith e m count old.asked new.asked
