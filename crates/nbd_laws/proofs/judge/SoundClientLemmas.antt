-- What the judge takes for a request is one that the rules allow.
use Rattle.nbd_laws.proofs.Common.{request_of, true, ◌≡◌, ℕ, ◌<◌, ◌≤◌, ◌+◌, ◌^◌, ◌&&◌, if◌then◌else◌, None, List, length, drop, refl, Bool, false, arith, length-drop, ltb-false, OutOfProfile, EXTENDED_REQUEST_MAGIC, REQUEST_MAGIC, Client, Message, enc, head, tail, AreBytes, with_number, number_at-lt, AreBytes-drop, number_at, is_extended, IsSendable, carries_payload, Core, reading_by_decision, Whole, request_fault, is_too_large, request_payload_length}
use Rattle.nbd_laws.proofs.judge.{DecideLemmas.request_unless, BoolLemmas.fault_none, SoundNegotiationLemmas.{IsFit, magic_there}, WholeLemmas.{IsRequest, as_long, as_short, request_read}}

request_is : (bytes : List ℕ) → AreBytes bytes → 28 ≤ length bytes → number_at 0 4 bytes ≡ REQUEST_MAGIC → bytes ≡ enc (request_of false bytes)
unfolding enc head tail
request_is bytes a l m =
    with_number 0 4 bytes REQUEST_MAGIC _ a (omega arith) m (with_number 4 2 bytes (number_at 4 2 bytes) _ a (omega (arith, length-drop 4 bytes)) refl
    (with_number 6 2 bytes (number_at 6 2 bytes) _ a (omega (arith, length-drop 6 bytes)) refl
    (with_number 8 8 bytes (number_at 8 8 bytes) _ a (omega (arith, length-drop 8 bytes)) refl
    (with_number 16 8 bytes (number_at 16 8 bytes) _ a (omega (arith, length-drop 16 bytes)) refl
    (with_number 24 4 bytes (number_at 24 4 bytes) (drop 28 bytes) a (omega (arith, length-drop 24 bytes)) refl refl)))))

request_sendable : (bytes : List ℕ) → AreBytes bytes → length bytes ≡ 28 + request_payload_length false (number_at 4 2 bytes) (number_at 6 2 bytes) (number_at 24 4 bytes) → IsSendable (request_of false bytes)
unfolding IsSendable
request_sendable bytes a l =
    let p : length (drop 28 bytes) ≡ request_payload_length false (number_at 4 2 bytes) (number_at 6 2 bytes) (number_at 24 4 bytes) = omega (arith, length-drop 28 bytes, l) in
    (number_at-lt 4 2 bytes a, number_at-lt 6 2 bytes a, number_at-lt 8 8 bytes a, number_at-lt 16 8 bytes a, number_at-lt 24 4 bytes a, p, AreBytes-drop 28 bytes a)

extended_is : (bytes : List ℕ) → AreBytes bytes → 32 ≤ length bytes → number_at 0 4 bytes ≡ EXTENDED_REQUEST_MAGIC → bytes ≡ enc (request_of true bytes)
unfolding enc head tail
extended_is bytes a l m =
    with_number 0 4 bytes EXTENDED_REQUEST_MAGIC _ a (omega arith) m (with_number 4 2 bytes (number_at 4 2 bytes) _ a (omega (arith, length-drop 4 bytes)) refl
    (with_number 6 2 bytes (number_at 6 2 bytes) _ a (omega (arith, length-drop 6 bytes)) refl
    (with_number 8 8 bytes (number_at 8 8 bytes) _ a (omega (arith, length-drop 8 bytes)) refl
    (with_number 16 8 bytes (number_at 16 8 bytes) _ a (omega (arith, length-drop 16 bytes)) refl
    (with_number 24 8 bytes (number_at 24 8 bytes) (drop 32 bytes) a (omega (arith, length-drop 24 bytes)) refl refl)))))

-- what is not too large
pub not_large : (carries large : Bool) (len n : ℕ) → large ≡ is_too_large len → (carries && large) ≡ false → n ≡ (if carries then len else 0) → n < 2 ^ 32
not_large carries large len n q e l = grind (arith, ltb-false)

extended_sendable : (bytes : List ℕ) → AreBytes bytes → length bytes ≡ 32 + request_payload_length true (number_at 4 2 bytes) (number_at 6 2 bytes) (number_at 24 8 bytes) →
    request_fault true (number_at 4 2 bytes) (number_at 6 2 bytes) (number_at 16 8 bytes) (number_at 24 8 bytes) ≡ None → IsSendable (request_of true bytes)
unfolding IsSendable
extended_sendable bytes a l clean =
    let carries : Bool = carries_payload (number_at 4 2 bytes) (number_at 6 2 bytes) in
    let len : ℕ = number_at 24 8 bytes in
    let p : length (drop 32 bytes) ≡ request_payload_length true (number_at 4 2 bytes) (number_at 6 2 bytes) len = omega (arith, length-drop 32 bytes, l) in
    let small = (fault_none _ OutOfProfile _ clean).0 in (
      number_at-lt 4 2 bytes a,
      number_at-lt 6 2 bytes a,
      number_at-lt 8 8 bytes a,
      number_at-lt 16 8 bytes a,
      number_at-lt 24 8 bytes a,
      p,
      (not_large carries (is_too_large len) len (length (drop 32 bytes)) refl small p, AreBytes-drop 32 bytes a),
    )

pub record IsAsked (now : Core) (bytes : List ℕ) (m : Message) : Type 0 where
  pub fit : IsFit Client bytes m
  pub headed : is_extended m ≡ now.extended
  pub open_still : now.disconnected ≡ false

pub request_sound : (now : Core) (bytes : List ℕ) (m : Message) → AreBytes bytes → reading_by_decision (request_unless now.disconnected now bytes) bytes ≡ Whole m → IsAsked now bytes m
request_sound now bytes m a e = go (request_read now bytes m e).1
  where
    still : now.disconnected ≡ false
    still = (request_read now bytes m e).0

    go : IsRequest now bytes m → IsAsked now bytes m
    go (as_short x w) = grind (arith, w, magic_there, request_is, request_sendable, still)
    go (as_long x w) = grind (arith, w, magic_there, extended_is, extended_sendable, still)
