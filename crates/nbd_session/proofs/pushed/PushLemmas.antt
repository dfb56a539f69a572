-- The pushed pairs: one more piece of a side, and a message that completes.
use Rattle.nbd_session.proofs.Common.{no_length, ◌≡◌, ℕ, ◌+◌, ◌≤◌, List, [], ◌∷◌, ◌++◌, length, take, refl, sym, ap, subst, append_assoc, append-nil, arith, length-append, length-drop, if◌then◌else◌, take-append-le, drop-append-le, take-length, Side, Client, Server, Message, enc, side_pairs, bytes_of, of_two, Stretch, bytes_after_stretch, mixture, side, same_side, stretch_bytes, AreStretchesOf, stretches_with, with_more}

take_whole : (xs : List ℕ) (n : ℕ) → n ≡ length xs → take n xs ≡ xs
take_whole xs n e = subst (λ m. take m xs ≡ xs) (sym e) (take-length xs)

pub sent-append : (s : Side) (xs ys : List ℕ) → side_pairs s (xs ++ ys) ≡ side_pairs s xs ++ side_pairs s ys
sent-append s [] ys = refl
sent-append s (x ∷ xs) ys = ap (λ ps. record { from = s; byte = x } ∷ ps) (sent-append s xs ys)

-- the first stretch leaves what it left, with more after it
left_alike : (s u t : Side) (n : ℕ) (more bytes : List ℕ) → (u ≡ t → n ≤ length bytes) →
    bytes_after_stretch u (record { from = t; length = n }) (with_more s u more bytes) ≡ with_more s u more (bytes_after_stretch u (record { from = t; length = n }) bytes)
left_alike s u t n more bytes l = grind (arith, drop-append-le)

-- after the first stretch the others are of what is left
pub left_stretches : (t : Side) (n : ℕ) (stretches : List Stretch) (client server : List ℕ) → AreStretchesOf (record { from = t; length = n } ∷ stretches) client server →
    AreStretchesOf stretches (bytes_after_stretch Client (record { from = t; length = n }) client) (bytes_after_stretch Server (record { from = t; length = n }) server)
left_stretches t n stretches client server h = grind (arith, length-drop)

pub first_fits : (t u : Side) (n : ℕ) (stretches : List Stretch) (client server : List ℕ) → AreStretchesOf (record { from = t; length = n } ∷ stretches) client server → u ≡ t → n ≤ length (of_two u client server)
first_fits t u n stretches client server h e = grind arith

-- no stretch: all bytes are these
mixed_first : (s : Side) (more client server : List ℕ) → client ≡ [] → server ≡ [] →
    mixture (record { from = s; length = length more } ∷ []) (with_more s Client more client) (with_more s Server more server) ≡ side_pairs s more
mixed_first s more client server e f = grind (arith, append-nil, take-length)

-- a stretch before those that change
module _ (s t : Side) (n : ℕ) (more client server : List ℕ) (stretches next : List Stretch) (h : AreStretchesOf (record { from = t; length = n } ∷ stretches) client server) where
  abbrev here : Stretch
  here = record { from = t; length = n }

  mixed_behind : mixture next (with_more s Client more (bytes_after_stretch Client here client)) (with_more s Server more (bytes_after_stretch Server here server))
      ≡ mixture stretches (bytes_after_stretch Client here client) (bytes_after_stretch Server here server) ++ side_pairs s more →
      mixture (here ∷ next) (with_more s Client more client) (with_more s Server more server) ≡ mixture (here ∷ stretches) client server ++ side_pairs s more
  mixed_behind ih = grind (arith, first_fits, left_alike, append_assoc, take-append-le)

-- after a stretch of the other side
mixed_other : (s t : Side) (n : ℕ) (more client server : List ℕ) → AreStretchesOf (record { from = t; length = n } ∷ []) client server →
    mixture (record { from = t; length = n } ∷ record { from = s; length = length more } ∷ []) (with_more s Client more client) (with_more s Server more server)
    ≡ mixture (record { from = t; length = n } ∷ []) client server ++ side_pairs s more
mixed_other s t n more client server h =
    let rest = left_stretches t n [] client server h in
    mixed_behind s t n more client server [] (record { from = s; length = length more } ∷ []) h
    (mixed_first s more (bytes_after_stretch Client (record { from = t; length = n }) client) (bytes_after_stretch Server (record { from = t; length = n }) server)
    (no_length (bytes_after_stretch Client (record { from = t; length = n }) client) (sym rest.of_client)) (no_length (bytes_after_stretch Server (record { from = t; length = n }) server) (sym rest.of_server)))

mixed_one : (s t : Side) (n : ℕ) (more client server : List ℕ) → AreStretchesOf (record { from = t; length = n } ∷ []) client server →
    mixture (stretches_with (record { from = t; length = n } ∷ []) s (length more)) (with_more s Client more client) (with_more s Server more server)
    ≡ mixture (record { from = t; length = n } ∷ []) client server ++ side_pairs s more
mixed_one s t n more client server h = grind (arith, mixed_other, append-nil, take_whole, length-append, sent-append)

-- one more piece of a side
pub mixed-noted : (stretches : List Stretch) (client server : List ℕ) (s : Side) (more : List ℕ) → AreStretchesOf stretches client server →
    mixture (stretches_with stretches s (length more)) (with_more s Client more client) (with_more s Server more server) ≡ mixture stretches client server ++ side_pairs s more
mixed-noted [] client server s more h = mixed_first s more client server (no_length client (sym h.of_client)) (no_length server (sym h.of_server))
mixed-noted (stretch ∷ []) client server s more h = mixed_one s stretch.from stretch.length more client server h
mixed-noted (stretch ∷ next ∷ stretches) client server s more h =
    mixed_behind s stretch.from stretch.length more client server (next ∷ stretches) (stretches_with (next ∷ stretches) s (length more)) h
    (mixed-noted (next ∷ stretches) (bytes_after_stretch Client stretch client) (bytes_after_stretch Server stretch server) s more (left_stretches stretch.from stretch.length (next ∷ stretches) client server h))

total-noted : (u : Side) (stretches : List Stretch) (s : Side) (m : ℕ) → stretch_bytes u (stretches_with stretches s m) ≡ stretch_bytes u stretches + (if same_side u s then m else 0)
total-noted u (stretch ∷ next ∷ stretches) s m = grind (arith, total-noted u (next ∷ stretches) s m)
total-noted u stretches s m = grind arith

-- they are the stretches of the longer bytes
pub stretches-noted : (stretches : List Stretch) (client server : List ℕ) (s : Side) (more : List ℕ) → AreStretchesOf stretches client server →
    AreStretchesOf (stretches_with stretches s (length more)) (with_more s Client more client) (with_more s Server more server)
stretches-noted stretches client server s more h = grind (arith, total-noted, length-append)

pub bytes_of-snoc : (s : Side) (messages : List Message) (m : Message) → bytes_of s (messages ++ m ∷ []) ≡ bytes_of s messages ++ (if same_side s (side m) then enc m else [])
bytes_of-snoc s [] m = grind (arith, append-nil)
bytes_of-snoc s (n ∷ messages) m = grind (arith, append_assoc, bytes_of-snoc s messages m)
