-- What is held of each side.
use Rattle.nbd_session.proofs.Common.{arith, ◌≡◌, Option, Side, Expected, IncomingView, Monitor, Past, bytes_come, holding_of, incoming_of, with_expected, with_incoming, rest_of}

-- what was taken of a side, as it is held
pub rest_is : (held : Monitor) (past : Past) (s : Side) → rest_of (holding_of held past) s ≡ bytes_come (incoming_of held s)
rest_is held past s = grind arith

-- a side's bytes replaced
pub incoming_here : (held : Monitor) (s : Side) (v : IncomingView) → incoming_of (with_incoming held s v) s ≡ v
incoming_here held s v = grind arith

pub incoming_other : (held : Monitor) (s u : Side) (v : IncomingView) → (s ≡ u → ⊥) → incoming_of (with_incoming held s v) u ≡ incoming_of held u
incoming_other held s u v ne = grind arith

-- and nothing else
pub same_but : (held : Monitor) (s : Side) (v : IncomingView) → with_incoming held s v ≡ record held { client = (with_incoming held s v).client; server = (with_incoming held s v).server }
same_but held s v = grind arith

-- what a head says is no byte
pub holding_expected : (held : Monitor) (past : Past) (s : Side) (e : Option Expected) → holding_of (with_expected held s e) past ≡ holding_of held past
holding_expected held past s e = grind arith

pub same_if_expected : (held : Monitor) (s : Side) (e : Option Expected) → (incoming_of held s).expected ≡ e → held ≡ with_expected held s e
same_if_expected held s e is = grind arith
