-- A request whose head has come.
use Rattle.nbd_session.proofs.Common.{◌≡◌, ℕ, ◌==◌, not, List, ◌++◌, length, min, sym, ◌∙◌, ap, Option, Some, None, Bool, true, false, arith, WireFault, BadMagic, BadDisconnect, OutOfProfile, RequestHead, Message, AreBytes, number_at, Core, target, Decision, request_by, fault_if, cookie_fault, number_at-lt, Request, is_bad_disconnect, is_beyond, expected_decision, message_of, request_payload_length, request_fields, request_head_length, request_head_of, request_magic}
use Rattle.nbd_session.proofs.expecting.HeadLemmas.{after_head, fields_stay, none_read, some_read}
use Rattle.nbd_wire.specs.declared.message.Message.TheVariants as messages

-- what is refused of a head with these fields, by whether it begins with its number
abbrev head_fault : (magic : Bool) → RequestHead → Option WireFault
head_fault magic h = fault_if (not magic) BadMagic (fault_if (is_beyond h) OutOfProfile (fault_if (is_bad_disconnect h) BadDisconnect None))

-- what is decided of a request, by its fields
abbrev by_fields : (x : Bool) → Core → (magic : Bool) → RequestHead → Message → Decision
by_fields x now magic h message = record {
  head_length = request_head_length x;
  head_fault = head_fault magic h;
  payload_length = request_payload_length x h.flags h.command h.length;
  last_fault = cookie_fault h.command (target h.cookie now.entries);
  message = message;
}

module _ (x : Bool) (now : Core) where
  request_decided : (bytes : List ℕ) → request_by x now bytes ≡ by_fields x now (number_at 0 4 bytes == request_magic x) (request_fields x bytes) ((request_by x now bytes).message)
  request_decided bytes = grind arith

  fault_is : (bytes : List ℕ) → (request_by x now bytes).head_fault ≡ head_fault (number_at 0 4 bytes == request_magic x) (request_fields x bytes)
  fault_is bytes = ap (λ (d : Decision). d.head_fault) (request_decided bytes)

  module _ (head : List ℕ) where
    pub no_request : None ≡ request_head_of x head → (request_by x now head).head_fault ≡ Some BadMagic
    no_request e = grind (arith, none_read, fault_is)

    module _ (h : RequestHead) (e : Some h ≡ request_head_of x head) where
      fault_here : (request_by x now head).head_fault ≡ head_fault true h
      fault_here =
          let r = some_read (number_at 0 4 head == request_magic x) (request_fields x head) h e in
          fault_is head ∙ (λ i. head_fault (r.0 i) (sym r.1 i))

      pub beyond_request : is_beyond h ≡ true → (request_by x now head).head_fault ≡ Some OutOfProfile
      beyond_request b = fault_here ∙ ap (λ t. fault_if t OutOfProfile (fault_if (is_bad_disconnect h) BadDisconnect None)) b

      pub bad_request : is_beyond h ≡ false → is_bad_disconnect h ≡ true → (request_by x now head).head_fault ≡ Some BadDisconnect
      bad_request b d = fault_here ∙ (λ i. fault_if (b i) OutOfProfile (fault_if (d i) BadDisconnect None))

-- the same fields, with more bytes after the head
same_fields : (x : Bool) (head payload : List ℕ) → length head ≡ request_head_length x → request_fields x (head ++ payload) ≡ request_fields x head
same_fields false head payload len =
    let at = fields_stay 28 head payload len in
    λ i. record { extended = false; flags = at 4 2 (omega arith) i; command = at 6 2 (omega arith) i; cookie = at 8 8 (omega arith) i; offset = at 16 8 (omega arith) i; length = at 24 4 (omega arith) i }
same_fields true head payload len =
    let at = fields_stay 32 head payload len in
    λ i. record { extended = true; flags = at 4 2 (omega arith) i; command = at 6 2 (omega arith) i; cookie = at 8 8 (omega arith) i; offset = at 16 8 (omega arith) i; length = at 24 8 (omega arith) i }

magic_stays : (x : Bool) (head payload : List ℕ) → length head ≡ request_head_length x → number_at 0 4 (head ++ payload) ≡ number_at 0 4 head
magic_stays false head payload len = fields_stay 28 head payload len 0 4 (omega arith)
magic_stays true head payload len = fields_stay 32 head payload len 0 4 (omega arith)

same_message : (x : Bool) (now : Core) (head payload : List ℕ) → AreBytes head → length head ≡ request_head_length x → (request_by x now (head ++ payload)).message ≡ message_of (Request (request_fields x head)) payload
same_message false now head payload b len =
    let at = fields_stay 28 head payload len in
    let short = number_at-lt 24 4 head b in
    let least : number_at 24 4 head ≡ min (number_at 24 4 head) 0xffffffff = omega (arith, short) in
    (λ i. messages.Request (at 4 2 (omega arith) i) (at 6 2 (omega arith) i) (at 8 8 (omega arith) i) (at 16 8 (omega arith) i) ((at 24 4 (omega arith) ∙ least) i) (after_head 28 head payload len i))
same_message true now head payload b len =
    let at = fields_stay 32 head payload len in
    (λ i. messages.ExtendedRequest (at 4 2 (omega arith) i) (at 6 2 (omega arith) i) (at 8 8 (omega arith) i) (at 16 8 (omega arith) i) (at 24 8 (omega arith) i) (after_head 32 head payload len i))

pub good_request : (x : Bool) (now : Core) (head payload : List ℕ) (h : RequestHead) → AreBytes head → length head ≡ request_head_length x → Some h ≡ request_head_of x head →
    is_beyond h ≡ false → is_bad_disconnect h ≡ false → request_by x now (head ++ payload) ≡ expected_decision now (Request h) (length head) payload
good_request x now head payload h b len e within good =
    let r = some_read (number_at 0 4 head == request_magic x) (request_fields x head) h e in
    let magic : (number_at 0 4 (head ++ payload) == request_magic x) ≡ true = ap (λ n. n == request_magic x) (magic_stays x head payload len) ∙ r.0 in
    let fields : request_fields x (head ++ payload) ≡ h = same_fields x head payload len ∙ sym r.1 in
    let message = same_message x now head payload b len ∙ ap (λ f. message_of (Request f) payload) (sym r.1) in
    let extended_is : x ≡ h.extended = ap (λ (f : RequestHead). f.extended) (sym r.1) in
    request_decided x now (head ++ payload)
    ∙ (λ i. by_fields x now (magic i) (fields i) (message i))
    ∙ (λ i. record { head_length = sym len i; head_fault = fault_if (within i) OutOfProfile (fault_if (good i) BadDisconnect None); payload_length = request_payload_length (extended_is i) h.flags h.command h.length; last_fault = cookie_fault h.command (target h.cookie now.entries); message = message_of (Request h) payload })
