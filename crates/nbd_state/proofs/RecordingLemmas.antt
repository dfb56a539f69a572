-- An exchange after one more reply message.
use Rattle.nbd_state.proofs.Common.{◌≡◌, ℕ, List, [], ◌∷◌, ◌++◌, ◌==◌, append_assoc, append-nil, refl, sym, ◌∙◌, ap, Bool, true, false, ◌&&◌, ◌||◌, if◌then◌else◌, Some, None, is_some, Result, IfOk, nat_lt, eqb-true, arith, take, Message, Operation, Exporting, ends_reply, is_failing, is_finished, is_proper, pieces, Piece, is_at, nat_cmp, eqb-false, Status, has_id, piece_of, is_allocation, is_settled, status_in, tells, zeroes, zeroes_in, zeroes_told, with_reply, Exchange, Success, Failure, AreCounted, IsShown, is_settled_by, TellsThese, Telling, pieces-snoc, length, flat_map}
use Rattle.nbd_state.proofs.ReplyLemmas.{any-snoc, proper-same}
use Rattle.std.proofs.Common.{ltb-true, ltb-false}
use Rattle.nbd_wire.specs.declared.commands.TheConstants as commands

-- what stays as it was
pub record IsKept (x y : Exchange) : Type 0 where
  pub flags : y.asked.flags ≡ x.asked.flags
  pub command : y.asked.command ≡ x.asked.command
  pub cookie : y.asked.cookie ≡ x.asked.cookie
  pub offset : y.asked.offset ≡ x.asked.offset
  pub length : y.asked.length ≡ x.asked.length
  pub payload : y.asked.payload ≡ x.asked.payload
  pub proper : y.asked.proper ≡ x.asked.proper
  pub outside : y.asked.outside ≡ x.asked.outside

pub exchange_shows_reply : (export : Exporting) (e : Operation) (m : Message) (x y : Exchange) (ends fails : Bool) (known : ℕ) → IsShown export e x → is_finished e ≡ false → ends_reply m ≡ ends → is_failing m ≡ fails → IsKept x y →
    y.asked.known_at ≡ (if is_some x.asked.known_at then x.asked.known_at else Some known) →
    y.asked.failed ≡ (x.asked.failed || fails) →
    y.asked.outcome ≡ (if ends then (if y.asked.failed then Failure else Success) else x.asked.outcome) →
    y.asked.pieces.items ≡ zeroes export (with_reply e m) ++ pieces (with_reply e m) →
    (is_finished (with_reply e m) ≡ false → (id : ℕ) → has_id e.contexts id ≡ true → is_settled_by y.asked.pieces.told id ≡ is_settled (with_reply e m) id) →
    (ends ≡ false → (y.asked.ended_at ≡ None) × (e.command ≡ commands.READ → AreCounted y.asked)) →
    IsShown export (with_reply e m) y
exchange_shows_reply export e m x y ends fails known s u n f k known_is failed_is outcome_is pieces_are told_are is_open = grind (arith, any-snoc, proper-same)

pub at-same : (k q : ℕ) → is_at (nat_cmp k) q ≡ (k == q)
at-same k q = grind (arith, nat_lt, eqb-true, ltb-true, eqb-false, ltb-false)

statuses-snoc : (ms : List Message) (m : Message) → flat_map status_in (ms ++ m ∷ []) ≡ flat_map status_in ms ++ status_in m
statuses-snoc [] m = append-nil (status_in m)
statuses-snoc (n ∷ ms) m = ap (λ l. status_in n ++ l) (statuses-snoc ms m) ∙ sym (append_assoc (status_in n) (flat_map status_in ms) (status_in m))

tells-snoc : (ss : List Status) (s : Status) (id : ℕ) → tells (ss ++ s ∷ []) id ≡ (if s.id == id then true else tells ss id)
tells-snoc [] s id = grind arith
tells-snoc (t ∷ ss) s id = grind (arith, tells-snoc ss s id)

module _ (export : Exporting) (e : Operation) (m : Message) (x : Exchange) (ends : Bool) (s : IsShown export e x) (u : is_finished e ≡ false) (n : ends_reply m ≡ ends) where
  not_yet : is_finished (with_reply e m) ≡ false → ends ≡ false
  not_yet f = sym (any-snoc ends_reply e.replies m ∙ ap (λ b. b || ends_reply m) u ∙ n) ∙ f

  -- what is told with the message
  pub told_without : status_in m ≡ [] → TellsThese (is_settled (with_reply e m)) e.contexts x.asked.pieces.told None
  told_without none i h = grind (arith, statuses-snoc, append-nil)

  pub told_with : (status : Status) → status_in m ≡ status ∷ [] → TellsThese (is_settled (with_reply e m)) e.contexts x.asked.pieces.told (Some status.id)
  told_with status is i h = grind (arith, statuses-snoc, tells-snoc)

  -- a message without a status leaves what is settled
  pub told_kept : (told : Telling) → status_in m ≡ [] → (ends ≡ false → (id : ℕ) → is_settled_by told id ≡ is_settled_by x.asked.pieces.told id) → is_finished (with_reply e m) ≡ false → (id : ℕ) → has_id e.contexts id ≡ true → is_settled_by told id ≡ is_settled (with_reply e m) id
  told_kept told none kept f id h = grind (arith, not_yet, statuses-snoc, append-nil)

  -- a status settles its context
  pub told_more : (told : Telling) (status : Status) → status_in m ≡ status ∷ [] → (ends ≡ false → (id : ℕ) → is_settled_by told id ≡ (if status.id == id then true else is_settled_by x.asked.pieces.told id)) →
      is_finished (with_reply e m) ≡ false → (id : ℕ) → has_id e.contexts id ≡ true → is_settled_by told id ≡ is_settled (with_reply e m) id
  told_more told status is added f id h = grind (arith, not_yet, statuses-snoc, tells-snoc)

-- the zeroes of a request look at the first message of its reply alone
module _ (export : Exporting) (e : Operation) (m : Message) where
  first_stays : (ms : List Message) → (ms ≡ [] → status_in m ≡ []) → zeroes_told e (flat_map status_in (take 1 (ms ++ m ∷ []))) ≡ zeroes_told e (flat_map status_in (take 1 ms))
  first_stays ms n = grind arith

  stay : (e.replies ≡ [] → status_in m ≡ []) → zeroes export (with_reply e m) ≡ zeroes export e
  stay n = grind (arith, first_stays, proper-same)

  -- a message that is no first status
  pub pieces_kept : (x y : List Piece) → x ≡ zeroes export e ++ pieces e → (e.replies ≡ [] → status_in m ≡ []) → y ≡ x ++ piece_of e.offset m → y ≡ zeroes export (with_reply e m) ++ pieces (with_reply e m)
  pieces_kept x y is n q = grind (arith, append_assoc, stay, pieces-snoc)

  -- before the first message there is none
  pub none_before : e.replies ≡ [] → zeroes export e ++ pieces e ≡ []
  none_before none = grind arith

  -- a first status
  pub pieces_first : (y : List Piece) (s : Status) → e.replies ≡ [] → status_in m ≡ s ∷ [] → piece_of e.offset m ≡ [] →
      y ≡ (if is_allocation e.contexts s.id && ((e.command == commands.BLOCK_STATUS) && is_proper export e) then zeroes_in e.offset e.length s.extents else []) → y ≡ zeroes export (with_reply e m) ++ pieces (with_reply e m)
  pieces_first y s none is p q = grind (arith, append-nil, pieces-snoc, proper-same)

  -- a status, which tells zeroes where it is the first message
  pub pieces_more : (x more y : List Piece) (s : Status) (told : Bool) → x ≡ zeroes export e ++ pieces e → status_in m ≡ s ∷ [] → piece_of e.offset m ≡ [] → told ≡ (is_allocation e.contexts s.id && (length e.replies == 0)) →
      more ≡ (if told && ((e.command == commands.BLOCK_STATUS) && is_proper export e) then zeroes_in e.offset e.length s.extents else []) → y ≡ x ++ more → y ≡ zeroes export (with_reply e m) ++ pieces (with_reply e m)
  pieces_more x more y s told was is p first q now = go e.replies refl
    where
      go : (ms : List Message) → e.replies ≡ ms → y ≡ zeroes export (with_reply e m) ++ pieces (with_reply e m)
      go [] none = pieces_first y s none is p (grind (arith, none_before, was, now, first, q, none))
      go (n ∷ ms) some = pieces_kept x y was (λ none. absurd (let w : n ∷ ms ≡ [] = sym some ∙ none in cc)) (grind (arith, now, first, q, some, p))

-- what follows from what an Ok gives
pub weaken : {A E : Type 0} {P Q : A → Type 0} (r : Result A E) → ((x : A) → P x → Q x) → IfOk r P → IfOk r Q
weaken r f h = grind arith

pub weaken_all : {A E : Type 0} {P Q R S : A → Type 0} (r : Result A E) → ((x : A) → P x → Q x → R x → S x) → IfOk r P → IfOk r Q → IfOk r R → IfOk r S
weaken_all r f p q h = grind arith
