-- Extended headers are in force behind an ACK to their option.
use Rattle.nbd_laws.proofs.{Common.{arith, ◌≡◌, ◌||◌, List, [], ◌∷◌, sym, or-false, Message, Item, Completes, Serves, completed_messages, Side, Exporting, MayStartIn, after, complete, ends_at, is_extended, Core, State, Transmission, start_of, HeadersAreGranted, HeadsAreInForce, any_grant, is_grant}, runs.PartLemmas.obeys_back}

granted : (core : Core) (m : Message) → (complete core m).extended ≡ (core.extended || is_grant m)
unfolding complete
granted core m = grind (arith, or-false)

led : (state : State) (items : List Item) → (ends_at state items).core.extended ≡ (state.core.extended || any_grant (completed_messages items))
led state [] = sym (or-false state.core.extended)
led state (Completes s m ∷ items) = grind (arith, granted, led (after state (Completes s m)) items)
led state (Serves e ∷ items) = led (after state (Serves e)) items
led state (item ∷ items) = led state items

pub headers_are_granted : HeadersAreGranted
headers_are_granted profile items = led (start_of profile) items

starts_in : (core : Core) (export : Exporting) (s : Side) (m : Message) → MayStartIn (Transmission export) core s m → is_extended m ≡ core.extended
unfolding MayStartIn
starts_in core export s m h = grind arith

pub heads_are_in_force : HeadsAreInForce
heads_are_in_force profile prefix back s m export phase run = grind (arith, obeys_back, starts_in, headers_are_granted)
