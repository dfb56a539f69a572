-- What the bytes of a run are, and what a run but for open bytes is worth.
use Rattle.std.specs.Prelude.{◌≡◌, ◌++◌, ◌∷◌, ◌-◌, ℕ, List, [], nat_lt, length, if◌then◌else◌}
use Rattle.nbd_wire.specs.{declared.{message.{Side.{Side, TheVariants.{Client, Server}}, Message.Message}, profile.Profile.Profile}, Prelude.{Item, completed_messages, pairs, Pair, enc, IsRunOf, IsRunBut, same_side, side}}

-- the bytes of one side, in order
abbrev pub bytes_from : Side → List Pair → List ℕ
bytes_from s [] = []
bytes_from s (p ∷ ps) = if same_side s p.from then p.byte ∷ bytes_from s ps else bytes_from s ps

-- the encodings of a side's messages, in order
abbrev pub bytes_of : Side → List Message → List ℕ
bytes_of s [] = []
bytes_of s (m ∷ messages) = if same_side s (side m) then enc m ++ bytes_of s messages else bytes_of s messages

-- a side's bytes of two
abbrev pub of_two : Side → (client server : List ℕ) → List ℕ
of_two Client client server = client
of_two Server client server = server

-- each side's bytes in a run but for open bytes are its completed messages' encodings, and the open ones after them
abbrev pub RunsHoldEachSide : Type 0
RunsHoldEachSide = (profile : Profile) (items : List Item) (client server : List ℕ)
    → IsRunBut profile items client server → (s : Side) →
    bytes_from s (pairs items) ≡ bytes_of s (completed_messages items) ++ of_two s client server

-- the first so many bytes of each side
abbrev pub first_bytes : (client server : ℕ) → List Pair → List Pair
first_bytes client server [] = []
first_bytes client server (p ∷ ps) =
    if same_side Client p.from then
    (if nat_lt 0 client then p ∷ first_bytes (client - 1) server ps else first_bytes client server ps)
    else (if nat_lt 0 server then p ∷ first_bytes client (server - 1) ps else first_bytes client server ps)

-- a run but for open bytes is worth a run: one with the same completed messages, whose bytes are those without the open
-- ones, of each side as many as its messages have
abbrev pub OpenBytesEndRuns : Type 0
OpenBytesEndRuns = (profile : Profile) (items : List Item) (client server : List ℕ)
    → IsRunBut profile items client server →
    (others : List Item) × IsRunOf profile others × (completed_messages others ≡ completed_messages items)
    × (pairs others ≡ first_bytes (length (bytes_of Client (completed_messages items)))
    (length (bytes_of Server (completed_messages items))) (pairs items))
