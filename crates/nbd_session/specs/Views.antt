-- A session as the program has it.
use Rattle.std.specs.Prelude.{List, map}
use Rattle.nbd_session.specs.{Incoming.bytes_come, Pushed.Stretch, declared.{log.Log.Log, monitor.Monitor.Monitor}, Sessions.SessionView}
use Rattle.nbd_session.specs.declared.stretches.Stretch as program

-- a stretch as the program has it
abbrev pub stretch_of : program.Stretch → Stretch
stretch_of s = record { from = s.from; length = s.length }

abbrev pub stretches_of : List program.Stretch → List Stretch
stretches_of stretches = map stretch_of stretches

-- what a monitor holds and a log has, as a session states it
abbrev pub session_view : Monitor → Log → SessionView
session_view held log = record {
  profile = held.state.profile;
  messages = log.messages.items;
  client = bytes_come held.client;
  server = bytes_come held.server;
  stretches = stretches_of log.stretches.items;
  closed = held.closed;
}
