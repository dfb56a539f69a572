-- A request with one more reply message.
use Rattle.nbd_state.proofs.Common.{arith, ◌≡◌, List, [], ◌∷◌, ◌++◌, refl, Bool, false, ◌||◌, Message, Operation, Exporting, list_any, is_proper, with_reply}

pub or-false : (b : Bool) → (b || false) ≡ b
or-false b = grind arith

pub any-snoc : (p : Message → Bool) (ms : List Message) (m : Message) → list_any p (ms ++ m ∷ []) ≡ (list_any p ms || p m)
any-snoc p [] m = or-false (p m)
any-snoc p (n ∷ ms) m = grind (arith, or-false, any-snoc p ms m)

pub proper-same : (export : Exporting) (e : Operation) (m : Message) → is_proper export (with_reply e m) ≡ is_proper export e
unfolding is_proper
proper-same export e m = refl
