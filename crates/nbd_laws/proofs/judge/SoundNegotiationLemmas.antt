-- What the judge takes for a message of the negotiation is one that the rules allow.
use Rattle.nbd_laws.proofs.Common.{and_parts, not-false, ◌≡◌, ℕ, ◌≤◌, ◌+◌, ◌==◌, List, [], length, drop, refl, subst, Option, Some, None, Bool, true, false, not, eqb-true, arith, length-drop, GREETING_MAGIC, OPTION_MAGIC, ANSWER_MAGIC, Side, Client, Server, Message, Greeting, ClientFlags, Choice, Exported, enc, head, tail, AreBytes, is_proper_option, turn, takes_contexts, with_number, number_at-lt, AreBytes-drop, number_at, Exporting, has, IsSendable, side, Phase, Greet, Flags, Choosing, Naming, Aborting, Answering, Core, WireFault, BadMagic, BadExport, Decision, greeting, client_flags, choice, export_answer, answer_of, abort_answer, answer, are_zeroes, read_by, judge_in, Whole, fault_if}
use Rattle.nbd_laws.proofs.judge.{AllowLemmas.no_length, BoolLemmas.{fault_none, are_zeroes-replicate}, WholeLemmas.{IsWhole, whole}}
use Rattle.nbd_wire.specs.declared.handshake.TheConstants as handshake

pub record IsFit (s : Side) (bytes : List ℕ) (m : Message) : Type 0 where
  pub encodes : bytes ≡ enc m
  pub sided : side m ≡ s
  pub sendable : IsSendable m

pub drop_none : (n : ℕ) (xs : List ℕ) → length xs ≡ n → drop n xs ≡ []
drop_none n xs e = no_length (drop n xs) (omega (arith, length-drop n xs))

pub magic_there : (a b : ℕ) (rest : Option WireFault) → fault_if (not (a == b)) BadMagic rest ≡ None → (a ≡ b) × (rest ≡ None)
magic_there a b rest e = let h : (not (a == b) ≡ false) × (rest ≡ None) = fault_none (not (a == b)) BadMagic rest e in (eqb-true a b (not-false (a == b) h.0), h.1)

greeting_is : (bytes : List ℕ) → AreBytes bytes → length bytes ≡ 18 → number_at 0 8 bytes ≡ GREETING_MAGIC → number_at 8 8 bytes ≡ OPTION_MAGIC → bytes ≡ enc (Greeting (number_at 16 2 bytes))
unfolding enc head tail
greeting_is bytes a l m n =
    with_number 0 8 bytes GREETING_MAGIC _ a (omega arith) m (with_number 8 8 bytes OPTION_MAGIC _ a (omega (arith, length-drop 8 bytes)) n
    (with_number 16 2 bytes (number_at 16 2 bytes) [] a (omega (arith, length-drop 16 bytes)) refl (drop_none 18 bytes l)))

greeting_sound : (now : Core) (bytes : List ℕ) (m : Message) → AreBytes bytes → read_by (greeting bytes) bytes ≡ Whole m → IsFit Server bytes m
unfolding IsSendable
greeting_sound now bytes m a e =
    let w : IsWhole (greeting bytes) bytes m = whole (greeting bytes) bytes m e in
    grind (arith, w, whole, fault_none, and_parts, not-false, greeting_is, eqb-true, number_at-lt)

flags_is : (bytes : List ℕ) → AreBytes bytes → length bytes ≡ 4 → bytes ≡ enc (ClientFlags (number_at 0 4 bytes))
unfolding enc head tail
flags_is bytes a l = with_number 0 4 bytes (number_at 0 4 bytes) [] a (omega arith) refl (drop_none 4 bytes l)

flags_sound : (now : Core) (bytes : List ℕ) (m : Message) → AreBytes bytes → read_by (client_flags now.offered bytes) bytes ≡ Whole m → IsFit Client bytes m
unfolding IsSendable
flags_sound now bytes m a e =
    let w : IsWhole (client_flags now.offered bytes) bytes m = whole (client_flags now.offered bytes) bytes m e in
    subst (IsFit Client bytes) w.is (record {
      encodes = flags_is bytes a w.long;
      sided = refl;
      sendable = number_at-lt 0 4 bytes a;
    })

choice_is : (bytes : List ℕ) → AreBytes bytes → length bytes ≡ 16 + number_at 12 4 bytes → number_at 0 8 bytes ≡ OPTION_MAGIC → bytes ≡ enc (Choice (number_at 8 4 bytes) (drop 16 bytes))
unfolding enc head tail
choice_is bytes a l m =
    let n : number_at 12 4 bytes ≡ length (drop 16 bytes) = omega (arith, length-drop 16 bytes) in
    with_number 0 8 bytes OPTION_MAGIC _ a (omega arith) m (with_number 8 4 bytes (number_at 8 4 bytes) _ a (omega (arith, length-drop 8 bytes)) refl
    (with_number 12 4 bytes (length (drop 16 bytes)) (drop 16 bytes) a (omega (arith, length-drop 12 bytes)) n refl))

choice_sound : (now : Core) (bytes : List ℕ) (m : Message) → AreBytes bytes → read_by (choice bytes) bytes ≡ Whole m → IsFit Client bytes m
unfolding IsSendable
choice_sound now bytes m a e =
    let w : IsWhole (choice bytes) bytes m = whole (choice bytes) bytes m e in
    grind (arith, w, whole, number_at-lt, choice_is, magic_there, length-drop, AreBytes-drop)

exported_is : (bytes : List ℕ) (padded : Bool) → AreBytes bytes → 10 ≤ length bytes → drop 10 bytes ≡ tail (Exported (number_at 0 8 bytes) (number_at 8 2 bytes) padded) → bytes ≡ enc (Exported (number_at 0 8 bytes) (number_at 8 2 bytes) padded)
unfolding enc head
exported_is bytes padded a l t = grind (arith, with_number, length-drop)

exported_sound : (now : Core) (c : Bool) (bytes : List ℕ) (m : Message) → has now.client_flags handshake.C_NO_ZEROES ≡ c → AreBytes bytes → read_by (export_answer c bytes) bytes ≡ Whole m → IsFit Server bytes m
unfolding IsSendable tail
exported_sound now true bytes m is_c a e =
    let w : IsWhole (export_answer true bytes) bytes m = whole (export_answer true bytes) bytes m e in
    let long : length bytes ≡ 10 = w.long in
    subst (IsFit Server bytes) w.is (record {
      encodes = exported_is bytes false a (omega (arith, long)) (drop_none 10 bytes long);
      sided = refl;
      sendable = (number_at-lt 0 8 bytes a, number_at-lt 8 2 bytes a);
    })
exported_sound now false bytes m is_c a e =
    let w : IsWhole (export_answer false bytes) bytes m = whole (export_answer false bytes) bytes m e in
    let long : length bytes ≡ 10 + 124 = w.long in
    let g : (not (are_zeroes (drop 10 bytes)) ≡ false) × (None ≡ None) = fault_none _ BadExport None w.at_last in
    subst (IsFit Server bytes) w.is (record {
      encodes = exported_is bytes true a (omega (arith, long)) (are_zeroes-replicate 124 (drop 10 bytes) (omega (arith, long, length-drop 10 bytes)) (not-false _ g.0));
      sided = refl;
      sendable = (number_at-lt 0 8 bytes a, number_at-lt 8 2 bytes a);
    })

answer_is : (bytes : List ℕ) → AreBytes bytes → length bytes ≡ 20 + number_at 16 4 bytes → number_at 0 8 bytes ≡ ANSWER_MAGIC → bytes ≡ enc (answer_of bytes)
unfolding enc head tail
answer_is bytes a l m =
    let n : number_at 16 4 bytes ≡ length (drop 20 bytes) = omega (arith, length-drop 20 bytes) in
    with_number 0 8 bytes ANSWER_MAGIC _ a (omega arith) m (with_number 8 4 bytes (number_at 8 4 bytes) _ a (omega (arith, length-drop 8 bytes)) refl
    (with_number 12 4 bytes (number_at 12 4 bytes) _ a (omega (arith, length-drop 12 bytes)) refl
    (with_number 16 4 bytes (length (drop 20 bytes)) (drop 20 bytes) a (omega (arith, length-drop 16 bytes)) n refl)))

answer_sendable : (bytes : List ℕ) → AreBytes bytes → length bytes ≡ 20 + number_at 16 4 bytes → IsSendable (answer_of bytes)
unfolding IsSendable
answer_sendable bytes a l = grind (arith, number_at-lt, length-drop)

abort_sound : (now : Core) (bytes : List ℕ) (m : Message) → AreBytes bytes → read_by (abort_answer bytes) bytes ≡ Whole m → IsFit Server bytes m
abort_sound now bytes m a e =
    let w : IsWhole (abort_answer bytes) bytes m = whole (abort_answer bytes) bytes m e in
    grind (arith, w, whole, magic_there, answer_is, answer_sendable)

answer_sound : (now : Core) (option : ℕ) (given : List ℕ) (info : Option Exporting) (bytes : List ℕ) (m : Message) → AreBytes bytes → read_by (answer now.profile option (is_proper_option option given) (takes_contexts option given) info now.selection bytes) bytes ≡ Whole m → IsFit Server bytes m
answer_sound now option given info bytes m a e =
    let proper : Bool = is_proper_option option given in
    let takes : Bool = takes_contexts option given in
    let d : Decision = answer now.profile option proper takes info now.selection bytes in
    let w : IsWhole d bytes m = whole d bytes m e in
    let mg = magic_there (number_at 0 8 bytes) ANSWER_MAGIC _ w.at_head in
    subst (IsFit Server bytes) w.is (record {
      encodes = answer_is bytes a w.long mg.0;
      sided = refl;
      sendable = answer_sendable bytes a w.long;
    })

-- in its turn a side's whole message is one that the phase allows
pub negotiation_sound : (phase : Phase) (now : Core) (s : Side) (bytes : List ℕ) (m : Message) → AreBytes bytes → turn phase ≡ Some s → judge_in phase now now s bytes ≡ Whole m → IsFit s bytes m
negotiation_sound Greet now Server bytes m a t e = greeting_sound now bytes m a e
negotiation_sound Flags now Client bytes m a t e = flags_sound now bytes m a e
negotiation_sound Choosing now Client bytes m a t e = choice_sound now bytes m a e
negotiation_sound Naming now Server bytes m a t e = exported_sound now (has now.client_flags handshake.C_NO_ZEROES) bytes m refl a e
negotiation_sound Aborting now Server bytes m a t e = abort_sound now bytes m a e
negotiation_sound (Answering option given info) now Server bytes m a t e = answer_sound now option given info bytes m a e
negotiation_sound phase now s bytes m a t e = grind (arith, greeting_sound, flags_sound, choice_sound, exported_sound, abort_sound, answer_sound)
