-- An option, or an option reply, whose head has come.
use Rattle.nbd_session.proofs.Common.{◌≡◌, ℕ, ◌==◌, not, List, ◌++◌, length, refl, sym, ◌∙◌, ap, Option, Some, None, Bool, true, false, eqb-true, arith, if◌then◌else◌, WireFault, BadMagic, AnswerHead, ChoiceHead, ANSWER_MAGIC, OPTION_MAGIC, Profile, Exporting, is_error, number_at, Core, abort_answer, answer, choice, abort_fault, answer_fault, answer_head_fault, answer_last_fault, earlier_to, magic_fault, payload_fault, fault_if, Answer, Choice, expected_decision, some_if, success_fault_if, then_some}
use Rattle.nbd_session.proofs.{parsing.LeadingLemmas.{answer_fields, choice_fields}, expecting.HeadLemmas.{after_head, fields_stay, none_read, some_read}}
use Rattle.nbd_wire.specs.declared.message.Message.TheVariants as messages
use Rattle.nbd_wire.specs.declared.options.TheConstants as options

pub no_choice : (head : List ℕ) → None ≡ some_if (number_at 0 8 head == OPTION_MAGIC) (choice_fields head) → (choice head).head_fault ≡ Some BadMagic
no_choice head e = ap (λ b. fault_if (not b) BadMagic None) (none_read (number_at 0 8 head == OPTION_MAGIC) (choice_fields head) e)

pub good_choice : (head payload : List ℕ) (h : ChoiceHead) (now : Core) → length head ≡ 16 → Some h ≡ some_if (number_at 0 8 head == OPTION_MAGIC) (choice_fields head) → choice (head ++ payload) ≡ expected_decision now (Choice h) 16 payload
good_choice head payload h now len e =
    let r = some_read (number_at 0 8 head == OPTION_MAGIC) (choice_fields head) h e in
    let at = fields_stay 16 head payload len in
    let same : choice_fields (head ++ payload) ≡ h =
    (λ i. record { id = at 8 4 (omega arith) i; length = at 12 4 (omega arith) i }) ∙ sym r.1 in
    let magic : (number_at 0 8 (head ++ payload) == OPTION_MAGIC) ≡ true = ap (λ n. n == OPTION_MAGIC) (at 0 8 (omega arith)) ∙ r.0 in
    (λ i. record {
      head_length = 16;
      head_fault = fault_if (not (magic i)) BadMagic None;
      payload_length = (same i).length;
      last_fault = None;
      message = messages.Choice (same i).id (after_head 16 head payload len i);
    })

-- an answer whose head has no fault has the option's number
right_option : (asked option : ℕ) (next : Option WireFault) → answer_fault asked option next ≡ None → option ≡ asked
right_option asked option next fits = grind (arith, eqb-true)

-- an answer whose head reads, with more bytes after it
module _ (head payload : List ℕ) (h : AnswerHead) (len : length head ≡ 20) (e : Some h ≡ some_if (number_at 0 8 head == ANSWER_MAGIC) (answer_fields head)) where
  well_begun : (number_at 0 8 (head ++ payload) == ANSWER_MAGIC) ≡ true
  well_begun = ap (λ n. n == ANSWER_MAGIC) (fields_stay 20 head payload len 0 8 (omega arith)) ∙ (some_read (number_at 0 8 head == ANSWER_MAGIC) (answer_fields head) h e).0

  fields_are : answer_fields (head ++ payload) ≡ h
  fields_are =
      let at = fields_stay 20 head payload len in
      (λ i. record { option = at 8 4 (omega arith) i; kind = at 12 4 (omega arith) i; length = at 16 4 (omega arith) i })
      ∙ sym (some_read (number_at 0 8 head == ANSWER_MAGIC) (answer_fields head) h e).1

  pub good_abort : (now : Core) → answer_fault options.ABORT h.option (abort_fault h.kind h.length) ≡ None → abort_answer (head ++ payload) ≡ expected_decision now (Answer h None) 20 payload
  good_abort now fits = λ i. record {
    head_length = 20;
    head_fault = ((λ j. magic_fault (well_begun j) (answer_fault options.ABORT (fields_are j).option (abort_fault (fields_are j).kind (fields_are j).length))) ∙ fits) i;
    payload_length = (fields_are i).length;
    last_fault = None;
    message = messages.Answer (fields_are i).option (fields_are i).kind (after_head 20 head payload len i);
  }

  -- an error is not judged at its last byte
  pub good_answer : (profile : Profile) (asked : ℕ) (proper takes : Bool) (info : Option Exporting) (now : Core) → now.profile ≡ profile → answer_head_fault profile asked proper takes info h.option h.kind h.length ≡ None →
      answer profile asked proper takes info now.selection (head ++ payload) ≡ expected_decision now (Answer h (then_some (not (is_error h.kind)) proper)) 20 payload
  good_answer profile asked proper takes info now held fits = λ i. record {
    head_length = 20;
    head_fault = ((λ j. magic_fault (well_begun j) (answer_head_fault profile asked proper takes info (fields_are j).option (fields_are j).kind (fields_are j).length)) ∙ fits) i;
    payload_length = (fields_are i).length;
    last_fault = ((λ j. answer_last_fault (sym held j) (sym (right_option asked h.option _ fits) j) proper now.selection (fields_are j).kind (after_head 20 head payload len j)) ∙ last (is_error h.kind)) i;
    message = messages.Answer (fields_are i).option (fields_are i).kind (after_head 20 head payload len i);
  }
    where
      last : (error : Bool) → (if error then None else payload_fault now.profile (earlier_to h.option now.selection) proper h.kind payload) ≡ success_fault_if now.profile (earlier_to h.option now.selection) (then_some (not error) proper) h.kind payload
      last true = refl
      last false = refl

module _ (head : List ℕ) where
  -- by what stands behind the number that it begins with
  pub no_answer : (next : Option WireFault) → None ≡ some_if (number_at 0 8 head == ANSWER_MAGIC) (answer_fields head) → magic_fault (number_at 0 8 head == ANSWER_MAGIC) next ≡ Some BadMagic
  no_answer next e = ap (λ b. magic_fault b next) (none_read (number_at 0 8 head == ANSWER_MAGIC) (answer_fields head) e)

  pub bad_answer : (h : AnswerHead) (next : AnswerHead → Option WireFault) (f : WireFault) → Some h ≡ some_if (number_at 0 8 head == ANSWER_MAGIC) (answer_fields head) → next h ≡ Some f → magic_fault (number_at 0 8 head == ANSWER_MAGIC) (next (answer_fields head)) ≡ Some f
  bad_answer h next f e bad = grind (arith, some_read)
