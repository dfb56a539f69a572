-- What one more reply message notes.
use Rattle.nbd_state.proofs.Common.{◌≡◌, ℕ, suc, List, [], ◌∷◌, ◌++◌, ◌==◌, ◌&&◌, append-nil, length, map, refl, ◌∙◌, ap, Bool, false, not, if◌then◌else◌, Option, Some, None, is_some, length-append, arith, take, eqb-true, eq-eqb, ne_eqb, slice_get, slice_set, Message, Piece, Exporting, Operation, ends_reply, is_finished, is_proper, flat_map, option_to_list, piece_of, piece_offset, piece_size, noted, shown_with, Shown, status_in, zeroes, zeroes_told, Exchange, shown_in, with_counts, IsShown, ended_if, shown_if, noted_none, same_number}
use Rattle.nbd_wire.specs.declared.commands.TheConstants as commands

-- the range of a piece, with a count
abbrev pub span_at : ℕ → Piece → Shown
span_at n p = record { offset = piece_offset p; size = piece_size p; count = n }

without_counts : (ps : List Piece) → with_counts ps [] ≡ []
without_counts [] = refl
without_counts (p ∷ ps) = refl

with_more : (ps qs : List Piece) (cs : List ℕ) (n : ℕ) → length cs ≡ length ps → with_counts (ps ++ qs) (cs ++ map (λ p. n) qs) ≡ with_counts ps cs ++ map (span_at n) qs
with_more [] [] [] n e = refl
with_more [] (q ∷ qs) [] n e = ap (λ l. span_at n q ∷ l) (with_more [] qs [] n refl)
with_more [] qs (c ∷ cs) n e = absurd (omega (arith, e))
with_more (p ∷ ps) qs [] n e = absurd (omega (arith, e))
with_more (p ∷ ps) qs (c ∷ cs) n e = ap (λ l. span_at c p ∷ l) (with_more ps qs cs n (let q : suc (length cs) ≡ suc (length ps) = e in omega (arith, q)))

with_same : (ps qs : List Piece) (cs : List ℕ) → length cs ≡ length ps → with_counts (ps ++ qs) cs ≡ with_counts ps cs
with_same [] qs [] e = without_counts qs
with_same [] qs (c ∷ cs) e = absurd (omega (arith, e))
with_same (p ∷ ps) qs [] e = refl
with_same (p ∷ ps) qs (c ∷ cs) e = ap (λ l. span_at c p ∷ l) (with_same ps qs cs (let q : suc (length cs) ≡ suc (length ps) = e in omega (arith, q)))

-- a message with a piece or none
abbrev pub more_counts : Option Piece → Bool → ℕ → List ℕ
more_counts piece ends n = if is_some piece && not ends then n ∷ [] else []

with_piece : (ps : List Piece) (cs : List ℕ) (piece : Option Piece) (ends : Bool) (n : ℕ) → length cs ≡ length ps →
    with_counts (ps ++ option_to_list piece) (cs ++ more_counts piece ends n) ≡ with_counts ps cs ++ (if not ends then map (span_at n) (option_to_list piece) else [])
with_piece ps cs (Some p) false n e = with_more ps (p ∷ []) cs n e
with_piece ps cs piece ends n e = grind (arith, append-nil, with_same, with_more)

-- after a message that does not end the reply each piece has its count
pub counted_more : (ps : List Piece) (cs : List ℕ) (piece : Option Piece) (ends : Bool) (n : ℕ) → ends ≡ false → length cs ≡ length ps → length (cs ++ more_counts piece ends n) ≡ length (ps ++ option_to_list piece)
counted_more ps cs piece ends n f e = grind (arith, length-append)

-- a READ has no zeroes that a status told
pub none_told : (export : Exporting) (e : Operation) → e.command ≡ commands.READ → zeroes export e ≡ []
none_told export e q = ap (λ c. if (c == commands.BLOCK_STATUS) && is_proper export e then zeroes_told e (flat_map status_in (take 1 e.replies)) else []) q

-- before the first reply nothing is noted
pub none_noted : (export : Exporting) (e : Operation) (x : Exchange) → IsShown export e x → is_finished e ≡ false → e.replies ≡ [] → e.command ≡ commands.READ → x.asked.pieces.counts ≡ []
none_noted export e x s u none q = empty x.asked.pieces.counts ((s.is_open u).1 q ∙ ap length (s.pieces_are ∙ (λ i. none_told export e q i ++ flat_map (piece_of e.offset) (none i))))
  where
    empty : (cs : List ℕ) → length cs ≡ 0 → cs ≡ []
    empty [] h = refl
    empty (c ∷ cs) h = absurd (omega (arith, h))

-- a message with this piece is noted
pub noted_piece : (export : Exporting) (e : Operation) (m : Message) (x : Exchange) (piece : Option Piece) (ends : Bool) (n : ℕ) (ps : List Piece) (cs : List ℕ) → IsShown export e x → is_finished e ≡ false → ends_reply m ≡ ends → piece_of e.offset m ≡ option_to_list piece →
    ps ≡ x.asked.pieces.items ++ option_to_list piece → cs ≡ x.asked.pieces.counts ++ more_counts piece ends n →
    (if x.asked.command == commands.READ then with_counts ps cs else []) ≡ shown_in x.asked ++ shown_with (Some e) m n
noted_piece export e m x piece ends n ps cs s u d p pieces_are counts_are = grind (arith, with_piece, eqb-true)

pub shows_none : (e : Operation) (m : Message) (n : ℕ) → piece_of e.offset m ≡ [] → shown_with (Some e) m n ≡ []
shows_none e m n p = grind arith

-- a status is noted, which gives no piece of a READ
pub noted_status : (e : Operation) (m : Message) (x : Exchange) (n : ℕ) (ps : List Piece) (cs : List ℕ) (more : List Piece) → ps ≡ x.asked.pieces.items ++ more → cs ≡ x.asked.pieces.counts → (x.asked.command ≡ commands.READ → more ≡ []) → piece_of e.offset m ≡ [] →
    (if x.asked.command == commands.READ then with_counts ps cs else []) ≡ shown_in x.asked ++ shown_with (Some e) m n
noted_status e m x n ps cs more is counts none p = grind (arith, append-nil, shows_none, eqb-true)

-- what has not ended has no end noted
pub open_still : (o : Option ℕ) (ends : Bool) (n : ℕ) → o ≡ None → ends ≡ false → noted o ends n ≡ None
open_still o ends n q f = (λ i. noted (q i) (f i) n)

-- of a request without a reply nothing is noted
pub fresh : (export : Exporting) (e : Operation) (x : Exchange) → IsShown export e x → e.replies ≡ [] → (x.asked.ended_at ≡ None) × (shown_in x.asked ≡ [])
fresh export e x s none = grind (arith, none_noted, eqb-true, without_counts)

-- one more exchange of which nothing is noted
pub shown_added : (xs : List Exchange) (x : Exchange) (place : ℕ) → shown_in x.asked ≡ [] → shown_if (slice_get xs place) ≡ shown_if (slice_get (xs ++ x ∷ []) place)
shown_added (z ∷ xs) x (suc place) e = shown_added xs x place e
shown_added xs x place e = grind arith

pub ended_added : (xs : List Exchange) (x : Exchange) (place : ℕ) → x.asked.ended_at ≡ None → ended_if (slice_get xs place) ≡ ended_if (slice_get (xs ++ x ∷ []) place)
ended_added (z ∷ xs) x (suc place) e = ended_added xs x place e
ended_added xs x place e = grind arith

-- the element at one place of a list with another one there
get_same : (xs : List Exchange) (place : ℕ) (x y : Exchange) → slice_get xs place ≡ Some x → slice_get (slice_set xs place y) place ≡ Some y
get_same (z ∷ xs) (suc place) x y i = get_same xs place x y i
get_same xs place x y i = grind arith

get_other : (xs : List Exchange) (place p : ℕ) (y : Exchange) → (place ≡ p → ⊥) → slice_get (slice_set xs place y) p ≡ slice_get xs p
get_other (z ∷ xs) (suc place) (suc p) y ne = get_other xs place p y (λ e. ne (ap suc e))
get_other xs place p y ne = grind arith

-- one exchange with another reply message
pub shown_set : (xs : List Exchange) (place p : ℕ) (x y : Exchange) (more : List Shown) → slice_get xs place ≡ Some x → shown_in y.asked ≡ shown_in x.asked ++ more →
    shown_if (slice_get xs p) ++ (if suc place == suc p then more else []) ≡ shown_if (slice_get (slice_set xs place y) p)
shown_set xs place p x y more i e = grind (arith, same_number, eq-eqb, get_same, ne_eqb, append-nil, get_other)

pub ended_set : (xs : List Exchange) (place p : ℕ) (x y : Exchange) (ends : Bool) (n : ℕ) → slice_get xs place ≡ Some x → y.asked.ended_at ≡ noted x.asked.ended_at ends n →
    noted (ended_if (slice_get xs p)) ((suc place == suc p) && ends) n ≡ ended_if (slice_get (slice_set xs place y) p)
ended_set xs place p x y ends n i e = grind (arith, same_number, eq-eqb, get_same, ne_eqb, noted_none, get_other)
