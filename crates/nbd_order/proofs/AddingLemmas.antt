-- Ranges, added request by request.
use Rattle.nbd_order.proofs.{Common.{◌≡◌, ℕ, ◌+◌, List, [], ◌∷◌, sym, ◌∙◌, ap, Some, drop, slice_get, Asked, Piece, Span, is_in}, HereLemmas.joined_assoc, LeavingLemmas.drop_next, StretchLemmas.touches_push}
use Rattle.std.specs.Prelude.{◌++◌}
use Rattle.nbd_state.specs.Places.{span_of}
use Rattle.nbd_wire.specs.Prelude.{holds}
use Rattle.nbd_order.specs.{declared.{here.Here.Here, touches.Touch.Touch}, internal.Here.{here_if, joined, of_piece, pieces_here, request_here, requests_here, touch_here, touches_here}}

-- one piece more of a READ
pub piece_added : (touches : List Touch) (k : ℕ) (pieces : List Piece) (x i : ℕ) (p : Piece) (t : Touch) → slice_get pieces i ≡ Some p → t.span ≡ span_of p → t.here ≡ of_piece k i
    → joined (touches_here (touches ++ t ∷ []) x) (pieces_here k (i + 1) (drop (i + 1) pieces) x) ≡ joined (touches_here touches x) (pieces_here k i (drop i pieces) x)
piece_added touches k pieces x i p t at lies tells =
    let rest = pieces_here k (i + 1) (drop (i + 1) pieces) x in
    ap (λ h. joined h rest) (touches_push touches t x) ∙ joined_assoc (touches_here touches x) (touch_here t x) rest
    ∙ ap (λ h. joined (touches_here touches x) (joined h rest)) (ap (λ (s : Span). here_if (is_in s.offset s.size x) t.here) lies ∙ ap (here_if (holds p x)) tells)
    ∙ ap (λ l. joined (touches_here touches x) (pieces_here k i l x)) (sym (drop_next pieces i p at))

-- one request more
pub request_added : (asked : List Asked) (x i : ℕ) (a : Asked) (g h : Here) → slice_get asked i ≡ Some a → g ≡ joined h (request_here (i + 1) a x)
    → joined g (requests_here (i + 1) (drop (i + 1) asked) x) ≡ joined h (requests_here i (drop i asked) x)
request_added asked x i a g h at so =
    let rest = requests_here (i + 1) (drop (i + 1) asked) x in
    ap (λ y. joined y rest) so ∙ joined_assoc h (request_here (i + 1) a x) rest ∙ ap (λ l. joined h (requests_here i l x)) (sym (drop_next asked i a at))
