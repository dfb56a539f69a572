-- Nothing of the client comes after a DISC.
use Rattle.nbd_laws.proofs.Common.{arith, ◌≡◌, ℕ, List, [], ◌∷◌, ◌++◌, ◌∙◌, true, Client, Message, Request, ExtendedRequest, Item, Starts, Completes, Serves, Exporting, MayComplete, MayStartIn, Obeys, after, complete, ends_at, Core, Phase, State, Transmission, start_of, DisconnectsAreEmpty, IsDisconnect, NothingAfterDisconnect}
use Rattle.nbd_laws.proofs.{judge.{WholeLemmas.allowed, AllowLemmas.{MayAsk, ask_allow, extended_ask_allow}}, runs.{PrefixLemmas.{InTransmission, asks, in_transmission, phase-complete}, PartLemmas.{obeys_back, obeys_prefix}}}
unfoldable use Rattle.nbd_laws.proofs.judge.WholeLemmas.{IsAllowed}
use Rattle.nbd_wire.specs.declared.commands.TheConstants as commands

-- a DISC completes in transmission alone
record IsAsked (core : Core) (phase : Phase) (cookie offset len : ℕ) : Type 0 where
  export : Exporting
  phase_is : phase ≡ Transmission export
  asks_it : MayAsk true core cookie offset len

short_row : (core : Core) (phase : Phase) (flags cookie offset len : ℕ) (p : List ℕ) → MayComplete core phase (Request flags commands.DISC cookie offset len p) → IsAsked core phase cookie offset len
unfolding IsAllowed
short_row core phase flags cookie offset len p ok = grind (arith, ask_allow, allowed core phase (Request flags commands.DISC cookie offset len p) ok)

extended_row : (core : Core) (phase : Phase) (flags cookie offset len : ℕ) (p : List ℕ) → MayComplete core phase (ExtendedRequest flags commands.DISC cookie offset len p) → IsAsked core phase cookie offset len
unfolding IsAllowed
extended_row core phase flags cookie offset len p ok = grind (arith, extended_ask_allow, allowed core phase (ExtendedRequest flags commands.DISC cookie offset len p) ok)

-- in transmission, with the client gone
record IsGone (core : Core) : Type 0 where
  export : Exporting
  phase_is : core.phase ≡ Transmission export
  gone : core.disconnected ≡ true

stays_gone : (items : List Item) (state : State) → Obeys state items → IsGone state.core → IsGone (ends_at state items).core
unfolding complete
stays_gone [] state ob g = g
stays_gone (Completes s m ∷ items) state ob g =
    let i : InTransmission state.core g.export m = in_transmission g.phase_is ob.0.0 in
    stays_gone items (after state (Completes s m)) ob.1 (record {
      export = g.export;
      phase_is = phase-complete state.core g.export m i ∙ g.phase_is;
      gone = grind (arith, asks);
    })
stays_gone (Serves k ∷ items) state ob g = stays_gone items (after state (Serves k)) ob.1 g
stays_gone (item ∷ items) state ob g = stays_gone items state ob.1 g

pub disconnects_are_empty : DisconnectsAreEmpty
disconnects_are_empty profile prefix back h k q r run = grind (arith, short_row, obeys_back, extended_row)

gone_behind : (core : Core) (disc : Message) (offset len : ℕ) → IsDisconnect disc offset len → MayComplete core core.phase disc → IsGone (complete core disc)
unfolding complete
gone_behind core disc offset len h ok = grind (arith, short_row, extended_row)

not_gone : (core : Core) (m : Message) → IsGone core → MayStartIn core.phase core Client m → ⊥
unfolding MayStartIn
not_gone core m g h = grind arith

pub nothing_after_disconnect : NothingAfterDisconnect
nothing_after_disconnect profile prefix middle back disc offset len m is run =
    let state : State = ends_at (start_of profile) prefix in
    let ob : Obeys state (Completes Client disc ∷ (middle ++ Starts Client m ∷ back)) = obeys_back (start_of profile) prefix (Completes Client disc ∷ (middle ++ Starts Client m ∷ back)) run.obeys in
    grind (arith, state, ob, obeys_back, stays_gone, obeys_prefix, gone_behind, not_gone)
