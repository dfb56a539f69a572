-- What a session holds of the bytes that it was given: messages and what came after them, and how the sides alternated.
use Rattle.std.specs.Prelude.{◌≡◌, ◌+◌, ℕ, List, [], ◌∷◌, ◌++◌, take, drop, length, if◌then◌else◌}
use Rattle.nbd_wire.specs.{declared.message.{Side.{Side, TheVariants.{Client, Server}}, Message.Message}, Prelude.{Pair, side_pairs, same_side}}
use Rattle.nbd_laws.specs.Bytes.{bytes_from, bytes_of, of_two}

-- bytes of one side that follow each other, by their number
pub record Stretch : Type 0 where
  pub from : Side
  pub length : ℕ

-- what a stretch leaves of the bytes of side s
abbrev pub bytes_after_stretch : Side → Stretch → List ℕ → List ℕ
bytes_after_stretch s stretch bytes = if same_side s stretch.from then drop stretch.length bytes else bytes

-- the two sides' bytes, mixed as the stretches say
abbrev pub mixture : List Stretch → (client server : List ℕ) → List Pair
mixture [] client server = []
mixture (stretch ∷ stretches) client server =
    side_pairs stretch.from (take stretch.length (of_two stretch.from client server))
    ++ mixture stretches (bytes_after_stretch Client stretch client) (bytes_after_stretch Server stretch server)

-- the pushed pairs: each side's bytes are its messages' encodings and a rest, mixed as the stretches say
abbrev pub pushed_pairs : List Message → (client server : List ℕ) → List Stretch → List Pair
pushed_pairs messages client server stretches =
    mixture stretches (bytes_of Client messages ++ client) (bytes_of Server messages ++ server)

-- how many bytes the stretches give to a side
abbrev pub stretch_bytes : Side → List Stretch → ℕ
stretch_bytes s [] = 0
stretch_bytes s (stretch ∷ stretches) = if same_side s stretch.from then stretch.length
    + stretch_bytes s stretches else stretch_bytes s stretches

-- where the stretches give each side as many bytes as it has, each side's bytes in the pushed pairs are its messages'
-- encodings and its rest
abbrev pub PushedHoldsEachSide : Type 0
PushedHoldsEachSide = (messages : List Message) (client server : List ℕ) (stretches : List Stretch) (s : Side) →
    stretch_bytes s stretches ≡ length (bytes_of s messages ++ of_two s client server) →
    bytes_from s (pushed_pairs messages client server stretches) ≡ bytes_of s messages ++ of_two s client server
