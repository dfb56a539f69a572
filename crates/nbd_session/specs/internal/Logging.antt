-- What a session's monitor and log hold together.
use Rattle.std.specs.Prelude.{◌≡◌, ℕ, ◌+◌, List, [], ◌∷◌, if◌then◌else◌, length, Bool, false, Option, Some, None, ◌++◌}
use Rattle.nbd_wire.specs.{declared.message.Side.{Side, TheVariants.{Client, Server}}, Prelude.same_side}
use Rattle.nbd_session.specs.{Pushed.{Stretch, stretch_bytes}, Following.Follows, Sessions.SessionView, Views.session_view, declared.{log.Log.Log, monitor.Monitor.Monitor}}
use Rattle.nbd_session.specs.declared.stretches.Stretch as program
use Rattle.nbd_laws.specs.Bytes.{bytes_of}

-- the stretches are of exactly these bytes
pub record AreStretchesOf (stretches : List Stretch) (client server : List ℕ) : Type 0 where
  pub of_client : stretch_bytes Client stretches ≡ length client
  pub of_server : stretch_bytes Server stretches ≡ length server

-- the stretches with so many more bytes of a side
abbrev pub stretches_with : List Stretch → Side → ℕ → List Stretch
stretches_with [] s n = record { from = s; length = n } ∷ []
stretches_with (stretch ∷ []) s n =
    if same_side s stretch.from then record {
      from = stretch.from;
      length = stretch.length + n;
    } ∷ [] else stretch ∷ record { from = s; length = n } ∷ []
stretches_with (stretch ∷ next ∷ stretches) s n = stretch ∷ stretches_with (next ∷ stretches) s n

-- the stretch, if any, is of this side
abbrev pub is_of : Side → Option program.Stretch → Bool
is_of s (Some stretch) = same_side s stretch.from
is_of s None = false

-- the stretches of a session are those of its bytes
abbrev pub HasStretches : SessionView → Type 0
HasStretches r =
    AreStretchesOf r.stretches (bytes_of Client r.messages ++ r.client) (bytes_of Server r.messages ++ r.server)

-- the monitor follows the session that it is with this log
pub record IsLogged (held : Monitor) (log : Log) : Type 0 where
  pub follows : Follows held (session_view held log)
  pub stretches : HasStretches (session_view held log)
