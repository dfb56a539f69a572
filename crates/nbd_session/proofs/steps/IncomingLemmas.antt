-- The bytes that have come of a side, with more.
use Rattle.nbd_session.proofs.Common.{arith, eqb-true, no_length, ◌==◌, length, ◌≡◌, ℕ, List, [], ◌++◌, Option, None, true, false, is_some, Core, Decision, Expected, IncomingView, bytes_come, incoming_with, IsKnown}

pub none_of : {A : Type 0} (o : Option A) → is_some o ≡ false → o ≡ None
none_of o e = grind arith

-- more bytes of a head
pub head_with : (e : Option Expected) (head longer more payload : List ℕ) → e ≡ None → longer ≡ head ++ more →
    record { head = longer; expected = e; payload = payload } ≡ incoming_with (record { head = head; expected = e; payload = payload }) more
head_with e head longer more payload n is = grind arith

-- where no byte of a head has come none has
pub none_of_known : (decided : List ℕ → Option Decision) (core : Core) (v : IncomingView) → IsKnown decided core v → (length v.head == 0) ≡ true → bytes_come v ≡ []
none_of_known decided core v known e = grind (arith, no_length, eqb-true)
