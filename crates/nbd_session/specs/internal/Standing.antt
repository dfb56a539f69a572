-- What a monitor of a session under way holds, and what the reading reader has read of it.
use Rattle.std.specs.Prelude.{◌≡◌, ℕ, List, [], ◌∷◌, ◌++◌, if◌then◌else◌, length, Ok, Option, Some, None}
use Rattle.nbd_wire.specs.{declared.{profile.Profile.Profile, message.{Side.{Side, TheVariants.{Client, Server}}, Message.Message}}, Prelude.{Pair, ArePairs, side_pairs, same_side, Reader, get, reads, fresh_of, IsFilled}}

-- what was given so far: the bytes with their senders, and the messages that completed
pub record Past : Type 0 where
  pub pairs : List Pair
  pub messages : List Message

-- with more bytes of a side
abbrev pub sent : Past → Side → List ℕ → Past
sent past s more = record { pairs = past.pairs ++ side_pairs s more; messages = past.messages }

-- with the message that completed, if one did
abbrev pub completed : Past → Option Message → Past
completed past (Some m) = record { pairs = past.pairs; messages = past.messages ++ m ∷ [] }
completed past None = past

-- what is held, and the past: the session's profile, each side's bytes after the messages, and how many requests had
-- completed before the first of the server's
pub record Holding : Type 0 where
  pub profile : Profile
  pub past : Past
  pub client : List ℕ
  pub server : List ℕ
  pub counted : ℕ

abbrev pub rest_of : Holding → Side → List ℕ
rest_of h Client = h.client
rest_of h Server = h.server

-- the reader has read the past, without a fault, and its rests are what is held
pub record IsReadTo (h : Holding) (reader : Reader) : Type 0 where
  pub are_pairs : ArePairs h.past.pairs
  pub reads_it : reads (fresh_of h.profile) h.past.pairs ≡ Ok reader
  pub messages_are : reader.messages ≡ h.past.messages
  pub rests_are : (s : Side) → (get reader.rests s).bytes ≡ rest_of h s
  pub count_is : IsFilled h.server → h.counted ≡ length (get reader.rests Server).since.entries

-- a side's bytes with more
abbrev pub with_more : Side → Side → List ℕ → List ℕ → List ℕ
with_more s t more bytes = if same_side s t then bytes ++ more else bytes

-- the count at the server's first byte
abbrev pub count_at_server : Side → (server : List ℕ) → (counted entries : ℕ) → ℕ
count_at_server Client server counted entries = counted
count_at_server Server [] counted entries = entries
count_at_server Server (b ∷ bytes) counted entries = counted

-- with more bytes of a side, where so many requests have completed
abbrev pub with_bytes : Holding → Side → List ℕ → (entries : ℕ) → Holding
with_bytes h s more entries = record {
  profile = h.profile;
  past = sent h.past s more;
  client = with_more s Client more h.client;
  server = with_more s Server more h.server;
  counted = count_at_server s h.server h.counted entries;
}
