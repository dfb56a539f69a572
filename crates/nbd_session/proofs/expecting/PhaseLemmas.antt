-- The phase that a state's phase shows.
use Rattle.nbd_session.proofs.Common.{arith, ◌≡◌, ℕ, List, Option, Exporting, Phase, Greet, Flags, Choosing, Naming, Aborting, Answering, Transmission, is_proper_option, takes_contexts, exporting_if, export_shown_if, phase_shown, Chosen, Export}
use Rattle.nbd_state.specs.declared.state.Phase.TheVariants as program

pub flags_of : (p : Phase) → program.Flags ≡ phase_shown p → p ≡ Flags
flags_of p e = grind arith

pub choosing_of : (p : Phase) → program.Choosing ≡ phase_shown p → p ≡ Choosing
choosing_of p e = grind arith

pub greet_of : (p : Phase) → program.Greet ≡ phase_shown p → p ≡ Greet
greet_of p e = grind arith

pub aborting_of : (p : Phase) → program.Aborting ≡ phase_shown p → p ≡ Aborting
aborting_of p e = grind arith

pub transmission_of : (p : Phase) (x : Export) → program.Transmission x ≡ phase_shown p → (export : Exporting) × (p ≡ Transmission export)
transmission_of p x e = grind arith

pub answering_of : (p : Phase) (c : Chosen) → program.Answering c ≡ phase_shown p →
    (option : ℕ) × (given : List ℕ) × (info : Option Exporting) × (p ≡ Answering option given info) × (c ≡ record { option = option; proper = is_proper_option option given; takes = takes_contexts option given; info = export_shown_if info }) × (exporting_if c.info ≡ info)
answering_of p c e = grind arith

pub naming_of : (p : Phase) → program.Naming ≡ phase_shown p → p ≡ Naming
naming_of p e = grind arith
