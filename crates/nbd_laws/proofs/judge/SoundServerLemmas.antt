-- What the judge takes for a reply is one that the rules allow.
use Rattle.nbd_laws.proofs.Common.{true, ◌≡◌, ℕ, ◌≤◌, ◌+◌, List, length, drop, refl, sym, ◌∙◌, ap, subst, Some, Bool, false, is_some, arith, length-drop, IsTrue, ltb-false, EXTENDED_CHUNK_MAGIC, SIMPLE_MAGIC, CHUNK_MAGIC, LONGEST_PAYLOAD, Server, Message, enc, head, tail, AreBytes, with_number, number_at-lt, AreBytes-drop, number_at, chunk_of, option_and_then, operation_of, simple_of, read_by, Whole, is_too_large, is_extended, request_of_reply, Operation, Exporting, IsSendable, Transmission, Core, target, operation, OutOfProfile}
use Rattle.nbd_laws.proofs.{judge.{DecideLemmas.{simple_length, reply}, BoolLemmas.fault_none, PhaseLemmas.{IsAppended, Later-appended, target-append}, SoundNegotiationLemmas.IsFit, WholeLemmas.{IsReply, as_chunk, as_extended, as_simple, cookie_read, reply_read}, TidyLemmas.IsTidy}, reading.ReaderLemmas.Later, requests.EachLemmas.{Each, each_entry}}

-- the request that a cookie names
pub record IsFound (old now : Core) (cookie : ℕ) (e : Operation) : Type 0 where
  pub k : ℕ
  pub was : target cookie old.entries ≡ Some k
  pub still : target cookie now.entries ≡ Some k
  pub is : operation k now.entries ≡ Some e

pub operation_is_found : (old now : Core) (cookie : ℕ) (e : Operation) → IsAppended old now → operation_of old now cookie ≡ Some e → IsFound old now cookie e
operation_is_found old now cookie e a h = grind (arith, target-append)

simple_is : (bytes : List ℕ) → AreBytes bytes → 16 ≤ length bytes → number_at 0 4 bytes ≡ SIMPLE_MAGIC → bytes ≡ enc (simple_of bytes)
unfolding enc head tail
simple_is bytes a l m =
    with_number 0 4 bytes SIMPLE_MAGIC _ a (omega arith) m (with_number 4 4 bytes (number_at 4 4 bytes) _ a (omega (arith, length-drop 4 bytes)) refl
    (with_number 8 8 bytes (number_at 8 8 bytes) (drop 16 bytes) a (omega (arith, length-drop 8 bytes)) refl refl))

simple_sendable : {x : Bool} (bytes : List ℕ) (e : Operation) → x ≡ false → AreBytes bytes → length bytes ≡ 16 + simple_length e (number_at 4 4 bytes) → IsTidy x e → IsSendable (simple_of bytes)
unfolding IsSendable
simple_sendable bytes e q a l t =
    let p : length (drop 16 bytes) ≡ simple_length e (number_at 4 4 bytes) = omega (arith, length-drop 16 bytes, l) in
    grind (arith, p, length-drop, number_at-lt, AreBytes-drop)

chunk_is : (bytes : List ℕ) → AreBytes bytes → length bytes ≡ 20 + number_at 16 4 bytes → number_at 0 4 bytes ≡ CHUNK_MAGIC → bytes ≡ enc (chunk_of false bytes)
unfolding enc head tail
chunk_is bytes a l m =
    let n : number_at 16 4 bytes ≡ length (drop 20 bytes) = omega (arith, length-drop 20 bytes, l) in
    with_number 0 4 bytes CHUNK_MAGIC _ a (omega (arith, l)) m (with_number 4 2 bytes (number_at 4 2 bytes) _ a (omega (arith, l, length-drop 4 bytes)) refl
    (with_number 6 2 bytes (number_at 6 2 bytes) _ a (omega (arith, l, length-drop 6 bytes)) refl
    (with_number 8 8 bytes (number_at 8 8 bytes) _ a (omega (arith, l, length-drop 8 bytes)) refl
    (with_number 16 4 bytes (length (drop 20 bytes)) (drop 20 bytes) a (omega (arith, l, length-drop 16 bytes)) n refl))))

chunk_sendable : (bytes : List ℕ) → AreBytes bytes → length bytes ≡ 20 + number_at 16 4 bytes → IsSendable (chunk_of false bytes)
unfolding IsSendable
chunk_sendable bytes a l = grind (arith, number_at-lt, length-drop)

extended_chunk_is : (bytes : List ℕ) → AreBytes bytes → length bytes ≡ 32 + number_at 24 8 bytes → number_at 0 4 bytes ≡ EXTENDED_CHUNK_MAGIC → bytes ≡ enc (chunk_of true bytes)
unfolding enc head tail
extended_chunk_is bytes a l m =
    let n : number_at 24 8 bytes ≡ length (drop 32 bytes) = omega (arith, length-drop 32 bytes, l) in
    with_number 0 4 bytes EXTENDED_CHUNK_MAGIC _ a (omega (arith, l)) m (with_number 4 2 bytes (number_at 4 2 bytes) _ a (omega (arith, l, length-drop 4 bytes)) refl
    (with_number 6 2 bytes (number_at 6 2 bytes) _ a (omega (arith, l, length-drop 6 bytes)) refl
    (with_number 8 8 bytes (number_at 8 8 bytes) _ a (omega (arith, l, length-drop 8 bytes)) refl
    (with_number 16 8 bytes (number_at 16 8 bytes) _ a (omega (arith, l, length-drop 16 bytes)) refl
    (with_number 24 8 bytes (length (drop 32 bytes)) (drop 32 bytes) a (omega (arith, l, length-drop 24 bytes)) n refl)))))

extended_chunk_sendable : (bytes : List ℕ) → AreBytes bytes → length bytes ≡ 32 + number_at 24 8 bytes → is_too_large (number_at 24 8 bytes) ≡ false → IsSendable (chunk_of true bytes)
unfolding IsSendable
extended_chunk_sendable bytes a l small =
    let lt : number_at 24 8 bytes ≤ LONGEST_PAYLOAD = ltb-false LONGEST_PAYLOAD (number_at 24 8 bytes) small in
    (number_at-lt 4 2 bytes a, number_at-lt 6 2 bytes a, number_at-lt 8 8 bytes a, number_at-lt 16 8 bytes a, (omega (arith, length-drop 32 bytes, l, lt), AreBytes-drop 32 bytes a))

pub record IsReplying (old now : Core) (export : Exporting) (bytes : List ℕ) (m : Message) : Type 0 where
  pub fit : IsFit Server bytes m
  pub starts : IsTrue (is_some (request_of_reply old m))
  pub headed : is_extended m ≡ now.extended
  pub named : operation_of old now (number_at 8 8 bytes) ≡ operation_of now now (number_at 8 8 bytes)

pub reply_sound : (old now : Core) (export : Exporting) (bytes : List ℕ) (m : Message) → Later Server old now → old.phase ≡ Transmission export → Each (IsTidy now.extended) now.entries → AreBytes bytes →
    read_by (reply export old now bytes) bytes ≡ Whole m → IsReplying old now export bytes m
reply_sound old now export bytes m l t0 t a e = go (reply_read export (operation_of old now) now bytes m e)
  where
    is_found : (e : Operation) → operation_of old now (number_at 8 8 bytes) ≡ Some e → IsFound old now (number_at 8 8 bytes) e
    is_found e is = operation_is_found old now (number_at 8 8 bytes) e (Later-appended l export t0) is

    replying : (e : Operation) → operation_of old now (number_at 8 8 bytes) ≡ Some e → IsFit Server bytes m → IsReply export (operation_of old now) now bytes m → IsReplying old now export bytes m
    replying e is fit r =
        let f = is_found e is in
        record {
          fit = fit;
          starts = subst (λ o. IsTrue (is_some o)) (sym (ap (λ c. option_and_then (λ k. target k old.entries) c) (cookie_read r).0 ∙ f.was)) refl;
          headed = (cookie_read r).1;
          named = is ∙ sym (ap (λ o. option_and_then (λ k. operation k now.entries) o) f.still ∙ f.is);
        }

    go : IsReply export (operation_of old now) now bytes m → IsReplying old now export bytes m
    go (as_simple e is x mg w) =
        let tidy = each_entry (IsTidy now.extended) (is_found e is).k now.entries e t (is_found e is).is in
        replying e is (subst (IsFit Server bytes) w.is (record { encodes = simple_is bytes a (omega (arith, w.long)) mg; sided = refl; sendable = simple_sendable bytes e x a w.long tidy })) (as_simple e is x mg w)
    go (as_chunk e is x mg w) = replying e is (subst (IsFit Server bytes) w.is (record { encodes = chunk_is bytes a w.long mg; sided = refl; sendable = chunk_sendable bytes a w.long })) (as_chunk e is x mg w)
    go (as_extended e is x mg w) =
        let clean = (fault_none _ OutOfProfile _ w.at_head).0 in
        replying e is (subst (IsFit Server bytes) w.is (record { encodes = extended_chunk_is bytes a w.long mg; sided = refl; sendable = extended_chunk_sendable bytes a w.long clean })) (as_extended e is x mg w)
