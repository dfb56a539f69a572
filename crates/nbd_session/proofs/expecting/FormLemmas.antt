-- What is decided of a side's head, by its form.
use Rattle.nbd_session.proofs.Common.{arith, ◌≡◌, ◌∙◌, ℕ, List, Bool, length, refl, sym, ap, subst, Option, Some, WireFault, Side, Client, Server, Exporting, Core, Phase, Greet, Flags, Choosing, Naming, Aborting, Answering, Transmission, decision_by_count, operation_counted, Decision, decision_with, exporting_if, Shows, State, Chosen, Form, InTransmission, IsFormFound, IsFormOf, IsReplyForm, HasHeadLength, form_length, IsRefusedHead, abort_answer, answer, choice, client_flags, export_answer, greeting, request_by, request_unless, reply_in, has, is_proper_option, takes_contexts, number_at, no_chunk, request_head_length, Operation}
use Rattle.nbd_session.proofs.expecting.PhaseLemmas.{aborting_of, answering_of, choosing_of, flags_of, greet_of, naming_of, transmission_of}
use Rattle.nbd_wire.specs.declared.handshake.TheConstants as handshake
use Rattle.nbd_session.specs.declared.deciding.Form.TheVariants as forms

module _ (state : State) (s : Side) (core : Core) (shows : Shows state core) (counted : ℕ) where
  decided_in : (t : Side) (p : Phase) (d : Decision) (bytes : List ℕ) → s ≡ t → core.phase ≡ p → decision_with p (operation_counted counted core) core t bytes ≡ Some d → decision_by_count counted core s bytes ≡ Some d
  decided_in t p d bytes e q is = (λ i. decision_with (q i) (operation_counted counted core) core (e i) bytes) ∙ is

  module _ (head bytes : List ℕ) where
    pub in_greeting : IsFormOf state s head forms.Greeting → decision_by_count counted core s bytes ≡ Some (greeting bytes)
    in_greeting f = decided_in Server Greet (greeting bytes) bytes f.0 (greet_of core.phase (sym f.1 ∙ shows.phase_is)) refl

    pub in_client_flags : IsFormOf state s head forms.ClientFlags → decision_by_count counted core s bytes ≡ Some (client_flags state.offered bytes)
    in_client_flags f = decided_in Client Flags (client_flags core.offered bytes) bytes f.0 (flags_of core.phase (sym f.1 ∙ shows.phase_is)) refl ∙ ap (λ n. Some (client_flags n bytes)) (sym shows.offered_is)

    pub in_choice : IsFormOf state s head forms.Choice → decision_by_count counted core s bytes ≡ Some (choice bytes)
    in_choice f = decided_in Client Choosing (choice bytes) bytes f.0 (choosing_of core.phase (sym f.1 ∙ shows.phase_is)) refl

    pub in_exported : IsFormOf state s head forms.Exported → decision_by_count counted core s bytes ≡ Some (export_answer (has state.client_flags handshake.C_NO_ZEROES) bytes)
    in_exported f = decided_in Server Naming (export_answer (has core.client_flags handshake.C_NO_ZEROES) bytes) bytes f.0 (naming_of core.phase (sym f.1 ∙ shows.phase_is)) refl
        ∙ ap (λ n. Some (export_answer (has n handshake.C_NO_ZEROES) bytes)) (sym shows.client_flags_are)

    pub in_aborted : IsFormOf state s head forms.Aborted → decision_by_count counted core s bytes ≡ Some (abort_answer bytes)
    in_aborted f = decided_in Server Aborting (abort_answer bytes) bytes f.0 (aborting_of core.phase (sym f.1 ∙ shows.phase_is)) refl

    pub in_answer : (chosen : Chosen) → IsFormOf state s head (forms.Answer chosen) → decision_by_count counted core s bytes ≡ Some (answer state.profile chosen.option chosen.proper chosen.takes (exporting_if chosen.info) core.selection bytes)
    in_answer chosen f =
        let a = answering_of core.phase chosen (sym f.1 ∙ shows.phase_is) in
        decided_in Server (Answering a.0 a.1 a.2) (answer core.profile a.0 (is_proper_option a.0 a.1) (takes_contexts a.0 a.1) a.2 core.selection bytes) bytes f.0 a.3 refl
        ∙ (λ i. Some (answer (sym shows.profile_is i) (sym a.4 i).option (sym a.4 i).proper (sym a.4 i).takes (sym a.5 i) core.selection bytes))

    pub in_request : (x : Bool) → IsFormOf state s head (forms.Request x) → decision_by_count counted core s bytes ≡ Some (request_by x core bytes)
    in_request x f =
        let t = transmission_of core.phase f.1.0 (sym f.1.1 ∙ shows.phase_is) in
        decided_in Client (Transmission t.0) (request_by core.extended core bytes) bytes f.0 t.1 (ap (λ b. request_unless b core bytes) (sym shows.disconnected_is ∙ f.2))
        ∙ ap (λ x. Some (request_by x core bytes)) (sym shows.extended_is ∙ f.3)

    -- a reply
    pub in_reply : (s ≡ Server) → InTransmission state.phase → (export : Exporting) × (core.phase ≡ Transmission export) × (decision_by_count counted core s bytes ≡ Some (reply_in state.extended export core (operation_counted counted core (number_at 8 8 bytes)) bytes))
    in_reply e p =
        let t = transmission_of core.phase p.0 (sym p.1 ∙ shows.phase_is) in (
          t.0,
          t.1,
          decided_in Server (Transmission t.0) (reply_in core.extended t.0 core (operation_counted counted core (number_at 8 8 bytes)) bytes) bytes e t.1 refl
              ∙ ap (λ x. Some (reply_in x t.0 core (operation_counted counted core (number_at 8 8 bytes)) bytes)) (sym shows.extended_is),
        )

  pub reply_length : (x : Bool) (export : Exporting) (to : Option Operation) (head : List ℕ) (form : Form) → IsReplyForm x head form → (reply_in x export core to head).head_length ≡ form_length form
  reply_length x export to head form is = grind (arith, no_chunk)

  pub request_length : (x : Bool) (bytes : List ℕ) → (request_by x core bytes).head_length ≡ request_head_length x
  request_length x bytes = grind arith

  -- the head of a form has this length
  length_in_reply : (head : List ℕ) (form : Form) → s ≡ Server → InTransmission state.phase → IsReplyForm state.extended head form → (d : Decision) × (decision_by_count counted core s head ≡ Some d) × (d.head_length ≡ form_length form)
  length_in_reply head form e p is =
      let r = in_reply head head e p in
      (reply_in state.extended r.0 core (operation_counted counted core (number_at 8 8 head)) head, r.2, reply_length state.extended r.0 (operation_counted counted core (number_at 8 8 head)) head form is)

  pub length_in : (head : List ℕ) (form : Form) → IsFormOf state s head form → (d : Decision) × (decision_by_count counted core s head ≡ Some d) × (d.head_length ≡ form_length form)
  length_in head forms.Greeting f = (greeting head, in_greeting head head f, refl)
  length_in head forms.ClientFlags f = (client_flags state.offered head, in_client_flags head head f, refl)
  length_in head forms.Choice f = (choice head, in_choice head head f, refl)
  length_in head forms.Exported f = (export_answer (has state.client_flags handshake.C_NO_ZEROES) head, in_exported head head f, refl)
  length_in head forms.Aborted f = (abort_answer head, in_aborted head head f, refl)
  length_in head (forms.Answer chosen) f = (answer state.profile chosen.option chosen.proper chosen.takes (exporting_if chosen.info) core.selection head, in_answer head head chosen f, refl)
  length_in head (forms.Request x) f = (request_by x core head, in_request head head x f, request_length x head)
  length_in head forms.Reply f = length_in_reply head forms.Reply f.0 f.1 f.2
  length_in head forms.Simple f = length_in_reply head forms.Simple f.0 f.1 f.2
  length_in head (forms.Chunk x) f = length_in_reply head (forms.Chunk x) f.0 f.1 f.2

-- the length of the form that was found
pub found_length : (state : State) (s : Side) (head : List ℕ) (o : Option Form) (form : Form) → IsFormFound state s head o → o ≡ Some form → (n : ℕ) → n ≡ form_length form → HasHeadLength state s head n
found_length state s head o form is e n len core counted shows =
    let d = length_in state s core shows counted head form (subst (IsFormFound state s head) e is) in
    (d.0, d.1, d.2 ∙ sym len)

-- a head of this form is refused where what is decided of it has the fault
pub refused_as : (state : State) (head : List ℕ) (counted : ℕ) (form found : Form) → found ≡ form → length head ≡ form_length found → (fault : WireFault) →
    ((s : Side) (core : Core) → Shows state core → IsFormOf state s head form → (d : Decision) × (decision_by_count counted core s head ≡ Some d) × (d.head_length ≡ form_length form) × (d.head_fault ≡ Some fault)) →
    (s : Side) → IsFormOf state s head found → (core : Core) → Shows state core → IsRefusedHead counted core s head fault
refused_as state head counted form found is whole fault bad s o core shows =
    let d = bad s core shows (subst (IsFormOf state s head) is o) in
    record { decision = d.0; decided = d.1; length_is = d.2 ∙ sym (whole ∙ ap form_length is); fault_is = d.3 }
