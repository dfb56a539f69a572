-- A message answers the same request while its side is in it.
use Rattle.nbd_laws.proofs.{Common.{arith, ◌≡◌, ◌⊎◌, List, ◌++◌, sym, ◌∙◌, ap, inl, inr, Option, Some, None, is_some, IsTrue, ℕ, Side, Client, Server, Message, turn, Operation, MayComplete, MayStartIn, request_of_reply, complete, cookie_of, option_and_then, target, side, Core, Phase, Both, get, put}, reading.ReaderLemmas.{put_both, Busy, Idle, Later, Later-trans, Loose, Open, at_once, behind}}
use Rattle.nbd_laws.proofs.{runs.FollowLemmas.IsBegun, judge.PhaseLemmas.{IsAppended, IsTransmitting, Later-appended, Later-turn, target-append}}

-- a side's message begins in its turn, or in transmission
starts_in : (phase : Phase) (core : Core) (s : Side) (m : Message) → MayStartIn phase core s m → (turn phase ≡ Some s) ⊎ IsTransmitting phase
unfolding MayStartIn
starts_in phase core s m h = grind arith

target_stays : (c : Option ℕ) (es more : List Operation) → IsTrue (is_some (option_and_then (λ k. target k es) c)) → option_and_then (λ k. target k es) c ≡ option_and_then (λ k. target k (es ++ more)) c
target_stays c es more h = grind (arith, target-append)

-- while the server is in a message, that message answers the same request
pub answers_same : {old now : Core} (m : Message) → Later Server old now → IsBegun old Server m → request_of_reply old m ≡ request_of_reply now m
unfolding MayStartIn
answers_same {old} {now} m l b = elim (starts_in old.phase old Server m b.starts) [
  | inl t ↦ ap (λ (c : Core). request_of_reply c m) (Later-turn l t)
  | inr (export, t) ↦ (let a : IsAppended old now = Later-appended l export t in
      target_stays (cookie_of m) old.entries a.more ((grind arith)) ∙ ap (λ es. option_and_then (λ k. target k es) (cookie_of m)) (sym a.entries_are))
]

-- the client's messages answer nothing
pub asks_only : (core : Core) (m : Message) → side m ≡ Client → request_of_reply core m ≡ None
asks_only core m e = grind arith

-- an open message of a side began in its place
abbrev pub BegunOpen : Core → Side → Open → Type 0
BegunOpen core s Idle = Unit {0}
BegunOpen core s (Busy m left) = (old : Core) × IsBegun old s m × Later s old core
BegunOpen core s Loose = Unit {0}

abbrev pub AreBegun : Core → Both Open → Type 0
AreBegun core o = (s : Side) → BegunOpen core s (get o s)

-- where a message of side s completes
pub begun_completed : (core : Core) (o : Both Open) (s : Side) (m : Message) → side m ≡ s → MayComplete core core.phase m → AreBegun core o → AreBegun (complete core m) (put o s Idle)
begun_completed core o s m sd ok all u = put_both (λ u x _. BegunOpen (complete core m) u x) o o s Idle Idle tt (λ u ne. moved u (get o u) ne (all u)) u
  where
    moved : (u : Side) (x : Open) → (s ≡ u → ⊥) → BegunOpen core u x → BegunOpen (complete core m) u x
    moved u Idle ne h = tt
    moved u (Busy n left) ne h = (h.0, h.1, Later-trans h.2 (behind m (λ q. ne (sym sd ∙ q)) ok at_once))
    moved u Loose ne h = tt
