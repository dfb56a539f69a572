-- What completes in transmission is a request, a simple reply or a chunk, and transmission goes on.
use Rattle.nbd_laws.proofs.{Common.{arith, ◌≡◌, ℕ, ◌==◌, List, subst, Message, Request, Simple, Chunk, ExtendedRequest, ExtendedChunk, Exporting, MayComplete, complete, Core, Transmission}, judge.{WholeLemmas.{AnswersOne, allowed}, AllowLemmas.{MayAsk, ask_allow, extended_ask_allow}, PhaseLemmas.phase-requested}}
unfoldable use Rattle.nbd_laws.proofs.judge.WholeLemmas.{IsAllowed}
use Rattle.nbd_wire.specs.declared.commands.TheConstants as commands

-- in transmission a request, a simple reply or a chunk may complete
pub data InTransmission (core : Core) (export : Exporting) : Message → Type 0 where
  asks : (flags command cookie offset len : ℕ) (p : List ℕ) → MayAsk (command == commands.DISC) core cookie offset len → InTransmission core export (Request flags command cookie offset len p)
  replies : (error cookie : ℕ) (p : List ℕ) → AnswersOne core export cookie (Simple error cookie p) → InTransmission core export (Simple error cookie p)
  gives : (flags kind cookie : ℕ) (p : List ℕ) → AnswersOne core export cookie (Chunk flags kind cookie p) → InTransmission core export (Chunk flags kind cookie p)
  asks_more : (flags command cookie offset len : ℕ) (p : List ℕ) → MayAsk (command == commands.DISC) core cookie offset len → InTransmission core export (ExtendedRequest flags command cookie offset len p)
  gives_more : (flags kind cookie at : ℕ) (p : List ℕ) → AnswersOne core export cookie (ExtendedChunk flags kind cookie at p) → InTransmission core export (ExtendedChunk flags kind cookie at p)

pub transmission_row : (core : Core) (export : Exporting) (m : Message) → IsAllowed core (Transmission export) m → InTransmission core export m
unfolding IsAllowed
transmission_row core export (Request flags command cookie offset len p) ok = asks flags command cookie offset len p (ask_allow core command cookie offset len ok.0 ok.1)
transmission_row core export m ok = search (replies, gives, asks_more, extended_ask_allow, gives_more)

-- transmission goes on
pub phase-complete : (core : Core) (export : Exporting) (m : Message) → InTransmission core export m → (complete core m).phase ≡ core.phase
unfolding complete
phase-complete core export m x = grind (arith, phase-requested)

pub in_transmission : {core : Core} {export : Exporting} {m : Message} → core.phase ≡ Transmission export → MayComplete core core.phase m → InTransmission core export m
in_transmission {core} {export} {m} t ok = transmission_row core export m (subst (λ phase. IsAllowed core phase m) t (allowed core core.phase m ok))
