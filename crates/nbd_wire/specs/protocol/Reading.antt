-- Reading: byte after byte, what is decided of a side's bytes (`Decisions`). A head is judged at its last byte, and a
-- message at the last of all.
use Rattle.std.specs.Prelude.{ℕ, List, [], ◌∷◌, ◌++◌, Option, None, Result, Ok, Err, length, ◌==◌, if◌then◌else◌}
use Rattle.nbd_wire.specs.{declared.{fault.WireFault.WireFault, message.{Message.Message, Side.{Side, TheVariants.{Client, Server}}}, profile.Profile.Profile}, protocol.{Captures.Pair, Decisions.{Reading, More, Whole, Bad, judge_in}, Rules.{complete, is_reply_to, noted}, States.{Core, start_of}}}

-- one of each side
pub record Both (A : Type 0) : Type 0 where
  pub client : A
  pub server : A

-- the one of a side
abbrev pub get : {A : Type 0} → Both A → Side → A
get p Client = p.client
get p Server = p.server

-- with another one of a side
abbrev pub put : {A : Type 0} → Both A → Side → A → Both A
put p Client a = record { client = a; server = p.server }
put p Server a = record { client = p.client; server = a }

-- there are bytes
abbrev pub IsFilled : List ℕ → Type 0
IsFilled [] = ⊥
IsFilled (b ∷ bs) = Unit {0}

-- the bytes of a side that belong to no completed message, and what had completed before the first of them
pub record Rest : Type 0 where
  pub bytes : List ℕ
  pub since : Core

-- what was read: what the completed messages have led to, each side's bytes after them, the messages, and how many
-- numbered requests had completed when the first reply to each request started, where that reply has completed
pub record Reader : Type 0 where
  pub core : Core
  pub rests : Both Rest
  pub messages : List Message
  pub known : ℕ → Option ℕ

-- what had completed before the first of a side's bytes, or now where there is none
abbrev pub old_of : Core → Rest → Core
old_of core rest = if length rest.bytes == 0 then core else rest.since

-- once a message of a side is whole
abbrev pub with_message : Reader → Side → Rest → Message → Reader
with_message reader s rest m = record {
  core = complete reader.core m;
  rests = put reader.rests s (record rest { bytes = [] });
  messages = reader.messages ++ m ∷ [];
  known = λ k. noted (reader.known k) (is_reply_to reader.core m k) (length rest.since.entries);
}

-- what is left after a byte, by what reading says of its side's bytes
abbrev pub settle : Reader → Side → Rest → Reading → Result Reader WireFault
settle reader s rest More = Ok (record reader { rests = put reader.rests s rest })
settle reader s rest (Whole m) = Ok (with_message reader s rest m)
settle reader s rest (Bad fault) = Err fault

-- a side's bytes with one more
abbrev pub rest_with : Core → Rest → ℕ → Rest
rest_with core rest b = record { bytes = rest.bytes ++ b ∷ []; since = old_of core rest }

-- one byte of a side is read
abbrev pub step : Reader → Side → ℕ → Result Reader WireFault
step reader s b =
    let rest : Rest = rest_with reader.core (get reader.rests s) b in
    settle reader s rest (judge_in reader.core.phase rest.since reader.core s rest.bytes)

-- goes on where nothing is refused
abbrev pub on_ok : Result Reader WireFault → (Reader → Result Reader WireFault) → Result Reader WireFault
on_ok (Ok next) f = f next
on_ok (Err fault) f = Err fault

-- bytes are read one after the other
abbrev pub reads : Reader → List Pair → Result Reader WireFault
reads reader [] = Ok reader
reads reader (p ∷ ps) = on_ok (step reader p.from p.byte) (λ next. reads next ps)

-- before the first byte of a session that is held to a profile
abbrev pub fresh_of : Profile → Reader
fresh_of profile =
    let rest : Rest = record { bytes = []; since = (start_of profile).core } in
    record { core = rest.since; rests = record { client = rest; server = rest }; messages = []; known = λ k. None }
