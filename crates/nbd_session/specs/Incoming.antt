-- The bytes of a side after its messages, as a session holds them.
use Rattle.std.specs.Prelude.{ℕ, List, [], ◌++◌, Option, Some, None}
use Rattle.nbd_session.specs.declared.expected.Expected.{Expected}

-- the bytes of the head, what it says once it is whole, and the bytes after it
pub record IncomingView : Type 0 where
  pub head : List ℕ
  pub expected : Option Expected
  pub payload : List ℕ

-- before the first byte of a message
abbrev pub nothing_come : IncomingView
nothing_come = record { head = []; expected = None; payload = [] }

-- all of them
abbrev pub bytes_come : IncomingView → List ℕ
bytes_come v = v.head ++ v.payload

abbrev pub incoming_with_by : Option Expected → IncomingView → List ℕ → IncomingView
incoming_with_by (Some x) v more = record v { payload = v.payload ++ more }
incoming_with_by None v more = record v { head = v.head ++ more }

-- with more bytes: of the head until it has said what it is, and then after it
abbrev pub incoming_with : IncomingView → List ℕ → IncomingView
incoming_with v more = incoming_with_by v.expected v more
