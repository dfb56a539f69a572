-- How the program's state shows what the completed messages have led to.
use Rattle.std.specs.{Prelude.{◌≡◌, ℕ, suc, ◌-◌, ◌||◌, true, Bool, List, [], ◌∷◌, Option, Some, None, slice_get}, BTreeSet.contains, Ordering.nat_cmp}
use Rattle.nbd_state.specs.{Places.place_at, declared.{asked.Exchange.Exchange, asking.Telling.Telling, selection.Selection.Selection, state.{Export.Export, Phase.{Phase, TheVariants.{Greet, Flags, Choosing, Naming, Aborting, Answering, Ended, Transmission}}, State.State}}, Filters.is_settled_by, Showing.{shown_in, IsShown}}
use Rattle.nbd_wire.specs.{Prelude.{is_proper_option, takes_contexts, has_id, is_allocation, Operation, Exporting, Core, Shown, target, export_in, in_force, is_this, MayComplete, cookie_of}, declared.message.Message.Message}
use Rattle.nbd_wire.specs.protocol.Contexts as contexts
use Rattle.nbd_wire.specs.protocol.States as definitions
use Rattle.nbd_laws.specs.{Selecting.AreAskedWith, Reached.IsReached}

-- an export as the program has it
abbrev pub export_shown : Exporting → Export
export_shown export = record { size = export.size; flags = export.flags }

abbrev pub export_shown_if : Option Exporting → Option Export
export_shown_if (Some export) = Some (export_shown export)
export_shown_if None = None

-- a phase keeps of an option's data only whether it was proper, and whether the option takes contexts
abbrev pub phase_shown : definitions.Phase → Phase
phase_shown definitions.Greet = Greet
phase_shown definitions.Flags = Flags
phase_shown definitions.Choosing = Choosing
phase_shown definitions.Naming = Naming
phase_shown definitions.Aborting = Aborting
phase_shown (definitions.Answering option payload info) =
    Answering
    (record {
      option = option;
      proper = is_proper_option option payload;
      takes = takes_contexts option payload;
      info = export_shown_if info;
    })
phase_shown definitions.Ended = Ended
phase_shown (definitions.Transmission export) = Transmission (export_shown export)

-- the exchanges show the numbered requests of a session on this export, of which there are none without one
abbrev pub AreShown : Option Exporting → List Operation → List Exchange → Type 0
AreShown export [] [] = Unit {0}
AreShown (Some export) (e ∷ entries) (x ∷ exchanges) = IsShown export e x × AreShown (Some export) entries exchanges
AreShown export entries exchanges = ⊥

-- the place, from 0, of the request with this number
abbrev pub place_of : Option ℕ → Option ℕ
place_of (Some k) = Some (k - 1)
place_of None = None

-- a selection as the program has it, of whose contexts it keeps the ids, and those of base:allocation
pub record HasSelection (shown : Selection) (selection : contexts.Selection) : Type 0 where
  pub export_name_is : shown.export_name.items ≡ selection.export_name
  pub ids_are : (id : ℕ) → contains nat_cmp shown.ids id ≡ has_id selection.contexts id
  pub allocations_are : (id : ℕ) → contains nat_cmp shown.allocations id ≡ is_allocation selection.contexts id
  pub granted_is : shown.granted ≡ selection.granted

-- each of these contexts is settled exactly where a telling says so, or where it is the one with this id, if any
abbrev pub TellsThese : (settled : ℕ → Bool) → List contexts.Context → Telling → Option ℕ → Type 0
TellsThese settled in_force told id = (i : ℕ) → has_id in_force i ≡ true
    → settled i ≡ (is_this id i || is_settled_by told i)

-- what the messages of a reply showed before the last one, of an exchange if there is one
abbrev pub shown_if : Option Exchange → List Shown
shown_if (Some e) = shown_in e.asked
shown_if None = []

-- and how many requests had completed when the last one had come
abbrev pub ended_if : Option Exchange → Option ℕ
ended_if (Some e) = e.asked.ended_at
ended_if None = None

-- the state shows the core
pub record Shows (state : State) (core : Core) : Type 0 where
  pub profile_is : state.profile ≡ core.profile
  pub phase_is : state.phase ≡ phase_shown core.phase
  pub offered_is : state.offered ≡ core.offered
  pub client_flags_are : state.client_flags ≡ core.client_flags
  pub structured_is : state.structured ≡ core.structured
  pub extended_is : state.extended ≡ core.extended
  pub selection_is : HasSelection state.selection core.selection
  pub brings_contexts_is : state.brings_contexts ≡ core.brings_contexts
  pub sizing_is : state.sizing ≡ core.sizing
  pub disconnected_is : state.disconnected ≡ core.disconnected
  pub asked_with : AreAskedWith (in_force core) core.entries
  pub are_shown : AreShown (export_in core.phase) core.entries state.exchanges.items
  pub shown : (place : ℕ) → core.shown (suc place) ≡ shown_if (slice_get state.exchanges.items place)
  pub ended : (place : ℕ) → core.ended_at (suc place) ≡ ended_if (slice_get state.exchanges.items place)
  pub places : (cookie : ℕ) → place_at state.outstanding cookie ≡ place_of (target cookie core.entries)

-- how many requests had completed when the first reply to the request of an exchange started, if there is one
abbrev pub known_if : Option Exchange → Option ℕ
known_if (Some e) = e.asked.known_at
known_if None = None

-- the exchanges have what is known of the numbered requests
abbrev pub AreKnown : (ℕ → Option ℕ) → List Exchange → Type 0
AreKnown known exchanges = (place : ℕ) → known (suc place) ≡ known_if (slice_get exchanges place)

-- the message may complete where a session can stand of which the state shows what it has led to
pub record MayTake (state : State) (message : Message) : Type 0 where
  pub core : Core
  pub reached : IsReached core
  pub shows : Shows state core
  pub completes : MayComplete core core.phase message

-- where the message is a reply, the request that it answers has its exchange at this place
abbrev pub Answers : State → Message → ℕ → Type 0
Answers state message place = (cookie : ℕ) → cookie_of message ≡ Some cookie
    → place_at state.outstanding cookie ≡ Some place
