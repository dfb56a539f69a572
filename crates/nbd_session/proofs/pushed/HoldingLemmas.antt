-- What a session holds gives back the bytes of each side.
use Rattle.nbd_session.proofs.Common.{arith, ◌≡◌, ℕ, List, [], ◌∷◌, ◌++◌, take, refl, ◌∙◌, ap, Bool, if◌then◌else◌, take-add, take-length, Side, Client, Server, Pair, side_pairs, same_side, bytes_from, of_two, PushedHoldsEachSide, Stretch, bytes_after_stretch, mixture, stretch_bytes}

if-append : (c : Bool) (b : ℕ) (xs ys : List ℕ) → (if c then b ∷ (xs ++ ys) else xs ++ ys) ≡ (if c then b ∷ xs else xs) ++ ys
if-append c b xs ys = grind arith

pub from-append : (s : Side) (ps qs : List Pair) → bytes_from s (ps ++ qs) ≡ bytes_from s ps ++ bytes_from s qs
from-append s [] qs = refl
from-append s (p ∷ ps) qs = ap (λ l. if same_side s p.from then p.byte ∷ l else l) (from-append s ps qs) ∙ if-append (same_side s p.from) p.byte (bytes_from s ps) (bytes_from s qs)

-- a side's own bytes, and the other's
pub from-sent_same : (s : Side) (bytes : List ℕ) → bytes_from s (side_pairs s bytes) ≡ bytes
from-sent_same s [] = refl
from-sent_same Client (b ∷ bytes) = ap (λ l. b ∷ l) (from-sent_same Client bytes)
from-sent_same Server (b ∷ bytes) = ap (λ l. b ∷ l) (from-sent_same Server bytes)

pub from-client_sent : (bytes : List ℕ) → bytes_from Client (side_pairs Server bytes) ≡ []
from-client_sent [] = refl
from-client_sent (b ∷ bytes) = from-client_sent bytes

pub from-server_sent : (bytes : List ℕ) → bytes_from Server (side_pairs Client bytes) ≡ []
from-server_sent [] = refl
from-server_sent (b ∷ bytes) = from-server_sent bytes

-- each side's bytes in the mixture are as many of its bytes as the stretches give it
from_mixed : (s : Side) (stretches : List Stretch) (client server : List ℕ) → bytes_from s (mixture stretches client server) ≡ take (stretch_bytes s stretches) (of_two s client server)
from_mixed s [] client server = refl
from_mixed s (stretch ∷ stretches) client server = grind (arith, from-append, from-sent_same, take-add, from-client_sent, from-server_sent, from_mixed s stretches (bytes_after_stretch Client stretch client) (bytes_after_stretch Server stretch server))

pub pushed_holds_each_side : PushedHoldsEachSide
pushed_holds_each_side = grind (arith, from_mixed, take-length)
