-- What the requests of a session tell of an offset.
use Rattle.std.specs.{Prelude.{ℕ, ◌+◌, List, [], ◌∷◌, ◌||◌, Bool, false, nat_le, nat_lt, Option, Some, None, if◌then◌else◌, max, min}, Option.{option_or, unwrap_or}}
use Rattle.nbd_order.specs.{Common.{Piece, is_change, holds, is_in, Asked}, Leaving.is_open, Sure.{is_read, leaves_unknown}, declared.{here.{Got.Got, Here.Here, Holds.{Holds, TheVariants.{Change, First, Read, Unknown}}}, stretches.Stretch.Stretch, touches.Touch.Touch}}

-- no request tells anything
abbrev pub nothing : Here
nothing = record { any_open = false; last = None; latest = 0; second = 0; vague = 0; read = None }

-- what earlier requests tell, and later ones
abbrev pub joined : Here → Here → Here
joined earlier later = record {
  any_open = earlier.any_open || later.any_open;
  last = option_or later.last earlier.last;
  latest = max earlier.latest later.latest;
  second = max (max earlier.second later.second) (min earlier.latest later.latest);
  vague = max earlier.vague later.vague;
  read = option_or later.read earlier.read;
}

-- how many requests had completed when its first reply began, 0 where none did
abbrev pub known : Asked → ℕ
known a = unwrap_or a.known_at 0

-- what request k tells, a change
abbrev pub of_change : (k : ℕ) → Asked → Here
of_change k a = record {
  any_open = is_open a;
  last = Some k;
  latest = known a;
  second = 0;
  vague = if leaves_unknown a then known a else 0;
  read = None;
}

-- what piece i of request k tells, a READ
abbrev pub of_piece : (k i : ℕ) → Here
of_piece k i = record {
  any_open = false;
  last = None;
  latest = 0;
  second = 0;
  vague = 0;
  read = Some (record { number = k; piece = i });
}

-- the same, or nothing
abbrev pub here_if : Bool → Here → Here
here_if is_told here = if is_told then here else nothing

-- what these pieces of request k tell of x, of which the first has place i
abbrev pub pieces_here : (k i : ℕ) → List Piece → (x : ℕ) → Here
pieces_here k i [] x = nothing
pieces_here k i (p ∷ pieces) x = joined (here_if (holds p x) (of_piece k i)) (pieces_here k (i + 1) pieces x)

-- what request k tells of x
abbrev pub request_here : (k : ℕ) → Asked → (x : ℕ) → Here
request_here k a x =
    if is_change a.command then here_if (is_in a.offset a.length x) (of_change k a)
    else here_if (is_read a) (pieces_here k 0 a.pieces x)

-- what these requests tell of x, behind k others
abbrev pub requests_here : (k : ℕ) → List Asked → (x : ℕ) → Here
requests_here k [] x = nothing
requests_here k (a ∷ asked) x = joined (request_here (k + 1) a x) (requests_here (k + 1) asked x)

-- what all of these requests tell of x
abbrev pub here_at : List Asked → (x : ℕ) → Here
here_at asked x = requests_here 0 asked x

-- what an offset holds where several changes may be the last
abbrev pub held_by_read : (latest : ℕ) → Option Got → Holds
held_by_read latest (Some got) = if nat_lt latest got.number then Read got else Unknown
held_by_read latest None = Unknown

-- what an offset holds, by the last change
abbrev pub held_behind : Here → Option ℕ → Holds
held_behind here (Some last) =
    if here.any_open || nat_le last here.vague then Unknown
    else if nat_lt here.second last then Change last else held_by_read here.latest here.read
held_behind here None = First

-- what an offset holds of which this is told
abbrev pub held_by : Here → Holds
held_by here = held_behind here here.last

-- what it tells of x
abbrev pub touch_here : Touch → (x : ℕ) → Here
touch_here touch x = here_if (is_in touch.span.offset touch.span.size x) touch.here

-- what they tell of x, the earlier ones first
abbrev pub touches_here : List Touch → (x : ℕ) → Here
touches_here [] x = nothing
touches_here (touch ∷ touches) x = joined (touch_here touch x) (touches_here touches x)

-- what is told of x, where x lies in a stretch: in the first that ends behind it
abbrev pub stretch_here : List Stretch → (x : ℕ) → Option Here
stretch_here [] x = None
stretch_here (stretch ∷ stretches) x = if nat_lt x stretch.end then Some stretch.here else stretch_here stretches x

-- both joined, where there are both
abbrev pub joined_if : Option Here → Option Here → Option Here
joined_if (Some earlier) (Some later) = Some (joined earlier later)
joined_if (Some earlier) None = None
joined_if None later = None
