-- The messages before the options whose heads have come, and the answer to EXPORT_NAME.
use Rattle.nbd_session.proofs.Common.{◌≡◌, ℕ, ◌==◌, ◌&&◌, not, List, ◌++◌, length, refl, sym, ◌∙◌, ap, Some, None, Bool, true, false, nat_lt, arith, BadMagic, NotFixedNewstyle, BadClientFlags, BadExport, ExportTooLarge, WireFault, EXPORT_SIZE, GREETING_MAGIC, OPTION_MAGIC, has, number_at, Core, client_flags, export_answer, greeting, client_flags_fault, export_fault, padding_fault, sets_more, fault_if, Greeting, ClientFlags, Exported, expected_decision, some_if}
use Rattle.nbd_session.proofs.{parsing.LeadingLemmas.begins_well, expecting.HeadLemmas.{after_head, fields_stay, none_read, some_read}}
use Rattle.nbd_wire.specs.declared.handshake.TheConstants as handshake
use Rattle.nbd_wire.specs.declared.message.Message.TheVariants as messages
use Rattle.nbd_wire.specs.declared.transmission.TheConstants as transmission

-- at a greeting's head, by whether it begins well and has fixed newstyle
greeting_by : (well fixed : Bool) (head : List ℕ) → begins_well head ≡ well → has (number_at 16 2 head) handshake.FIXED_NEWSTYLE ≡ fixed →
    (greeting head).head_fault ≡ fault_if (not well) BadMagic (fault_if (not fixed) NotFixedNewstyle None)
greeting_by well fixed head w f = (λ i. fault_if (not (w i)) BadMagic (fault_if (not (f i)) NotFixedNewstyle None))

pub no_greeting : (head : List ℕ) → None ≡ some_if (begins_well head) (number_at 16 2 head) → (greeting head).head_fault ≡ Some BadMagic
no_greeting head e = greeting_by false (has (number_at 16 2 head) handshake.FIXED_NEWSTYLE) head (none_read (begins_well head) (number_at 16 2 head) e) refl

pub old_greeting : (head : List ℕ) (flags : ℕ) → Some flags ≡ some_if (begins_well head) (number_at 16 2 head) → has flags handshake.FIXED_NEWSTYLE ≡ false → (greeting head).head_fault ≡ Some NotFixedNewstyle
old_greeting head flags e f = grind (arith, some_read, greeting_by)

pub good_greeting : (head payload : List ℕ) (flags : ℕ) (now : Core) → length head ≡ 18 → Some flags ≡ some_if (begins_well head) (number_at 16 2 head) → has flags handshake.FIXED_NEWSTYLE ≡ true →
    greeting (head ++ payload) ≡ expected_decision now (Greeting flags) 18 payload
good_greeting head payload flags now len e f =
    let r = some_read (begins_well head) (number_at 16 2 head) flags e in
    let at = fields_stay 18 head payload len in
    let same : number_at 16 2 (head ++ payload) ≡ flags = at 16 2 (omega arith) ∙ sym r.1 in
    let well : begins_well (head ++ payload) ≡ true = (λ i. (at 0 8 (omega arith) i == GREETING_MAGIC) && (at 8 8 (omega arith) i == OPTION_MAGIC)) ∙ r.0 in
    let none = greeting_by true true (head ++ payload) well (ap (λ n. has n handshake.FIXED_NEWSTYLE) same ∙ f) in
    (λ i. record { head_length = 18; head_fault = none i; payload_length = 0; last_fault = None; message = messages.Greeting (same i) })

pub good_client_flags : (head payload : List ℕ) (offered flags : ℕ) (now : Core) → length head ≡ 4 → flags ≡ number_at 0 4 head → client_flags_fault offered flags ≡ None →
    client_flags offered (head ++ payload) ≡ expected_decision now (ClientFlags flags) 4 payload
good_client_flags head payload offered flags now len e none =
    let same : number_at 0 4 (head ++ payload) ≡ flags = fields_stay 4 head payload len 0 4 (omega arith) ∙ sym e in
    (λ i. record { head_length = 4; head_fault = (ap (client_flags_fault offered) same ∙ none) i; payload_length = 0; last_fault = None; message = messages.ClientFlags (same i) })

pub bad_client_flags : (head : List ℕ) (offered flags : ℕ) (fault : WireFault) → flags ≡ number_at 0 4 head → client_flags_fault offered flags ≡ Some fault → (client_flags offered head).head_fault ≡ Some fault
bad_client_flags head offered flags fault e is = ap (client_flags_fault offered) (sym e) ∙ is

pub bad_export : (head : List ℕ) (no_zeroes : Bool) (size flags : ℕ) (fault : WireFault) → size ≡ number_at 0 8 head → flags ≡ number_at 8 2 head → export_fault size flags ≡ Some fault →
    (export_answer no_zeroes head).head_fault ≡ Some fault
bad_export head no_zeroes size flags fault s f is = grind arith

pub good_export : (head payload : List ℕ) (no_zeroes : Bool) (size flags : ℕ) (now : Core) → length head ≡ 10 → size ≡ number_at 0 8 head → flags ≡ number_at 8 2 head → export_fault size flags ≡ None →
    export_answer no_zeroes (head ++ payload) ≡ expected_decision now (Exported size flags (not no_zeroes)) 10 payload
good_export head payload no_zeroes size flags now len s f none = go no_zeroes
  where
    sized : number_at 0 8 (head ++ payload) ≡ size
    sized = fields_stay 10 head payload len 0 8 (omega arith) ∙ sym s

    flagged : number_at 8 2 (head ++ payload) ≡ flags
    flagged = fields_stay 10 head payload len 8 2 (omega arith) ∙ sym f

    fault : export_fault (number_at 0 8 (head ++ payload)) (number_at 8 2 (head ++ payload)) ≡ None
    fault = (λ i. export_fault (sized i) (flagged i)) ∙ none

    go : (nz : Bool) → export_answer nz (head ++ payload) ≡ expected_decision now (Exported size flags (not nz)) 10 payload
    go true = (λ i. record { head_length = 10; head_fault = fault i; payload_length = 0; last_fault = None; message = messages.Exported (sized i) (flagged i) false })
    go false = (λ i. record { head_length = 10; head_fault = fault i; payload_length = 124; last_fault = padding_fault (after_head 10 head payload len i); message = messages.Exported (sized i) (flagged i) true })

-- at the client's flags, by whether they have fixed newstyle and set more than may be
pub flags_fault : (offered flags : ℕ) (fixed more : Bool) → has flags handshake.C_FIXED_NEWSTYLE ≡ fixed → sets_more offered flags ≡ more →
    client_flags_fault offered flags ≡ fault_if (not fixed) NotFixedNewstyle (fault_if more BadClientFlags None)
flags_fault offered flags fixed more f m = (λ i. fault_if (not (f i)) NotFixedNewstyle (fault_if (m i) BadClientFlags None))

-- at an export's size and flags
pub fault_of_export : (size flags : ℕ) (flagged large : Bool) → has flags transmission.HAS_FLAGS ≡ flagged → nat_lt EXPORT_SIZE size ≡ large →
    export_fault size flags ≡ fault_if (not flagged) BadExport (fault_if large ExportTooLarge None)
fault_of_export size flags flagged large f l = (λ i. fault_if (not (f i)) BadExport (fault_if (l i) ExportTooLarge None))
