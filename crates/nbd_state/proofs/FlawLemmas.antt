-- What is wrong with a request, and whether a client should send it.
use Rattle.nbd_state.proofs.Common.{Bool, not, ◌&&◌, ◌||◌, ◌==◌, ◌-◌, ◌≡◌, ◌∙◌, ℕ, ap, arith, rules, tests, nat_le, ◌+◌, Exporting, Operation, has, is_known, is_proper}
use Rattle.nbd_state.specs.Flaws.{flaws, is_none}
use Rattle.nbd_state.specs.declared.proper.Flaws.{Flaws}
use Rattle.nbd_wire.specs.protocol.{Flags.has_only, Operations.{allowed_flags, has_range, is_change, is_offered, may_carry}}
use Rattle.nbd_wire.specs.declared.commands.TheConstants as commands
use Rattle.nbd_wire.specs.declared.transmission.TheConstants as transmission
use Rattle.std.proofs.lemmas.Nat.{and_le_l}
use Rattle.std.specs.Prelude.{bit_and}

-- records of the same parts are the same
pub same_flaws : (a b c d : Bool) (n : ℕ) (e : Bool) (f : Flaws) →
    a ≡ f.is_unknown → b ≡ f.is_beyond → c ≡ f.is_unoffered → d ≡ f.is_forbidden → n ≡ f.flags → e ≡ f.is_ranged →
    ◌≡◌ {A = Flaws} (record { is_unknown = a; is_beyond = b; is_unoffered = c; is_forbidden = d; flags = n; is_ranged = e }) f
same_flaws a b c d n e f pa pb pc pd pn pe = search rules

-- no other flag is set where none is left without the allowed ones
no_others : (flags allowed : ℕ) → (flags - bit_and flags allowed == 0) ≡ has_only flags allowed
unfolding has_only
no_others flags allowed = grind (arith, and_le_l flags allowed)

-- none of the conditions is broken
unbroken : (k h l o c r d f z : Bool) →
    (not (not k || (h && not l) || not o || (c && r)) && d && not (f && not z)) ≡ (k && (not h || l) && o && (not c || not r) && d && (not f || z))
unbroken k h l o c r d f z = search (tests, rules)

-- a request with which nothing is wrong is one that a client should send
pub flawless : (export : Exporting) (e : Operation) → is_none (flaws export e) ≡ is_proper export e
unfolding is_proper
flawless export e =
    let allowed : ℕ = allowed_flags (may_carry export.flags e) export.flags e.command in
    unbroken (is_known e) (has_range e.command) (nat_le (e.offset + e.length) export.size) (is_offered export.flags e.command) (is_change e.command) (has export.flags transmission.READ_ONLY) (e.flags - bit_and e.flags allowed == 0) (e.command == commands.FLUSH) ((e.offset == 0) && (e.length == 0))
    ∙ ap (λ d. is_known e && (not (has_range e.command) || nat_le (e.offset + e.length) export.size) && is_offered export.flags e.command && (not (is_change e.command) || not (has export.flags transmission.READ_ONLY)) && d && (not (e.command == commands.FLUSH) || ((e.offset == 0) && (e.length == 0)))) (no_others e.flags allowed)
