-- A capture with the marks of its messages: where each starts and completes, and where requests or parts are served.
use Rattle.std.specs.Prelude.{ℕ, List, [], ◌∷◌, ◌++◌, map, flat_map, ◌≡◌, if◌then◌else◌}
use Rattle.nbd_wire.specs.{declared.{message.{Side.{Side, TheVariants.{Client, Server}}, Message.Message}, entry.Entry.Entry}, protocol.{Encoding.enc, Sides.same_side, Captures.Pair}}

-- a byte of a side, or a mark between two bytes: a message starts, a message completes, or the
-- server carries out what an entry names (this project's choice)
pub data Item : Type 0 where
  Byte : (side : Side) (byte : ℕ) → Item
  Starts : (side : Side) (message : Message) → Item
  Completes : (side : Side) (message : Message) → Item
  Serves : (entry : Entry) → Item

-- the bytes alone
abbrev pub pairs : List Item → List Pair
pairs [] = []
pairs (Byte s b ∷ items) = record { from = s; byte = b } ∷ pairs items
pairs (item ∷ items) = pairs items

-- what is served, in order
abbrev pub service_order : List Item → List Entry
service_order [] = []
service_order (Serves e ∷ items) = e ∷ service_order items
service_order (item ∷ items) = service_order items

-- the messages that complete, in order
abbrev pub completed_messages : List Item → List Message
completed_messages [] = []
completed_messages (Completes s m ∷ items) = m ∷ completed_messages items
completed_messages (item ∷ items) = completed_messages items

-- all but the moments of service
abbrev pub without_service : List Item → List Item
without_service [] = []
without_service (Serves e ∷ items) = without_service items
without_service (Byte s b ∷ items) = Byte s b ∷ without_service items
without_service (Starts s m ∷ items) = Starts s m ∷ without_service items
without_service (Completes s m ∷ items) = Completes s m ∷ without_service items

-- the bytes and marks of one side
abbrev pub of_side : Side → List Item → List Item
of_side s [] = []
of_side s (Byte t b ∷ items) = if same_side s t then Byte t b ∷ of_side s items else of_side s items
of_side s (Starts t m ∷ items) = if same_side s t then Starts t m ∷ of_side s items else of_side s items
of_side s (Completes t m ∷ items) = if same_side s t then Completes t m ∷ of_side s items else of_side s items
of_side s (Serves e ∷ items) = of_side s items

-- a whole message of a side: its start, the bytes of its encoding, its completion
abbrev pub block : Side → Message → List Item
block s m = Starts s m ∷ map (λ b. Byte s b) (enc m) ++ Completes s m ∷ []

-- a side's bytes and marks, taken alone, are whole messages, one after the other, and after them
-- bytes of no completed message
pub record IsSided (s : Side) (items : List Item) (rest : List ℕ) : Type 0 where
  pub messages : List Message
  pub blocks : of_side s items ≡ flat_map (block s) messages ++ map (λ b. Byte s b) rest

-- which items may stand beside each other: a message starts directly before its first byte and
-- completes directly after its last
abbrev pub MayFollow : Item → Item → Type 0
MayFollow (Starts s m) (Byte t b) = s ≡ t
MayFollow (Starts s m) next = ⊥
MayFollow (Byte s b) (Completes t m) = s ≡ t
MayFollow item (Completes t m) = ⊥
MayFollow item _ = Unit {0}

-- each mark of a message stands directly beside its byte
abbrev pub IsTight : List Item → Type 0
IsTight [] = Unit {0}
IsTight (item ∷ []) = Unit {0}
IsTight (item ∷ next ∷ items) = MayFollow item next × IsTight (next ∷ items)

-- a marked capture, but for bytes of each side that belong to no completed message
pub record IsMarkedBut (items : List Item) (client server : List ℕ) : Type 0 where
  pub client_side : IsSided Client items client
  pub server_side : IsSided Server items server
  pub tight : IsTight items
