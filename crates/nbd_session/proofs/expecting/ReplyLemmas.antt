-- A reply whose head has come.
use Rattle.nbd_session.proofs.Common.{◌≡◌, ℕ, suc, ◌<◌, ◌∷◌, ◌==◌, ◌&&◌, ◌++◌, List, length, drop, arith, Result, IfOk, IfErr, sym, ◌∙◌, ap, Option, Some, None, Bool, true, false, if◌then◌else◌, slice_get, WireFault, SimpleForbidden, SIMPLE_MAGIC, number_at, ChunkHead, SimpleHead, Exporting, Operation, Core, Transmission, in_force, operation, target, find, operation_counted, Decision, begins, reply_by, reply_in, simple_to, simple_fault, simple_last_fault, simple_payload_length, begun_true, no_chunk, IsShown, AreAskedWith, asked_at, is_simple_forbidden, Exchange, Expected, Simple, Chunk, IsChunkOf, IsPlaceOf, IsReplyForm, IsSimpleOf, BadMagic, chunk_fault_to, expected_decision, head_fault_by, is_too_long, last_fault_by, chunk_fields, chunk_head_length, chunk_magic, chunk_of}
use Rattle.nbd_session.proofs.expecting.HeadLemmas.{after_head, fields_stay}
use Rattle.nbd_wire.specs.declared.commands.TheConstants as commands
use Rattle.nbd_wire.specs.declared.message.Message.TheVariants as messages
use Rattle.nbd_session.specs.declared.deciding.Form.TheVariants as forms

-- a number of a request is at most the count of all
pub operation_within : (es : List Operation) (k : ℕ) (e : Operation) → operation (suc k) es ≡ Some e → k < length es
operation_within (x ∷ es) (suc k) e h = let l : k < length es = operation_within es k e h in omega (arith, l)
operation_within es k e h = grind arith

-- and so is that of an outstanding one
pub placed_within : (es : List Operation) (cookie place : ℕ) → target cookie es ≡ Some (suc place) → place < length es
placed_within es cookie place t = let f = find cookie es (suc place) t in operation_within es place f.found f.numbered

module _ (export : Exporting) (core : Core) (counted place : ℕ) (exchanges : List Exchange) (x : Exchange) (stands : slice_get exchanges place ≡ Some x) (asked_with : AreAskedWith (in_force core) core.entries) where
  shown_here : (h : SimpleHead) (found : IsPlaceOf export core counted h.cookie exchanges (Some place)) → IsShown export found.0 x
  shown_here h found = grind arith

  pub forbidden_of : (h : SimpleHead) (found : IsPlaceOf export core counted h.cookie exchanges (Some place)) → is_simple_forbidden core x.asked h.error ≡ true →
      simple_fault core.structured (operation_counted counted core h.cookie) h.error ≡ Some SimpleForbidden
  forbidden_of h found is = grind (arith, shown_here, asked_at)

  pub simple_is : (h : SimpleHead) (len : ℕ) → IsPlaceOf export core counted h.cookie exchanges (Some place) → is_simple_forbidden core x.asked h.error ≡ false →
      len ≡ (if (x.asked.command == commands.READ) && (h.error == 0) then x.asked.length else 0) → IsSimpleOf export core (operation_counted counted core h.cookie) h.error h.cookie (Simple h place len)
  simple_is h len found free is = grind (arith, shown_here, asked_at)

module _ (export : Exporting) (core : Core) (counted place : ℕ) (exchanges : List Exchange) where
  pub chunk_is : (h : ChunkHead) → is_too_long h.at h.length ≡ false → IsPlaceOf export core counted h.cookie exchanges (Some place) → core.structured ≡ true → IsChunkOf export core (operation_counted counted core h.cookie) h (Chunk h place)
  chunk_is h short found structured = grind arith

-- what is decided of a reply, with extended headers or not
abbrev pub reply_to : Exporting → Core → (counted : ℕ) (x : Bool) → List ℕ → Decision
reply_to export core counted x bytes = reply_in x export core (operation_counted counted core (number_at 8 8 bytes)) bytes

-- bytes that begin with another number than a reply's
pub no_reply_bad : (export : Exporting) (core : Core) (counted : ℕ) (x : Bool) (head : List ℕ) → IsReplyForm x head forms.Reply → (reply_to export core counted x head).head_fault ≡ Some BadMagic
no_reply_bad export core counted x head o = grind arith

module _ (export : Exporting) (core : Core) (counted : ℕ) (head : List ℕ) (h : SimpleHead) (begun : begins SIMPLE_MAGIC head ≡ true) (len : length head ≡ 16) (is : h ≡ record { error = number_at 4 4 head; cookie = number_at 8 8 head }) where
  by_simple : (bytes : List ℕ) → begins SIMPLE_MAGIC bytes ≡ true → reply_to export core counted false bytes ≡ simple_to export core (operation_counted counted core (number_at 8 8 bytes)) bytes
  by_simple bytes b = (λ i. reply_by (no_chunk bytes b i) (b i) export core (operation_counted counted core (number_at 8 8 bytes)) bytes)

  pub simple_refused : (fault : WireFault) → simple_fault core.structured (operation_counted counted core h.cookie) h.error ≡ Some fault → (reply_to export core counted false head).head_fault ≡ Some fault
  simple_refused fault bad = ap (λ (d : Decision). d.head_fault) (by_simple head begun) ∙ ap (λ (g : SimpleHead). simple_fault core.structured (operation_counted counted core g.cookie) g.error) (sym is) ∙ bad

  pub simple_decision : (payload : List ℕ) (x : Expected) → core.phase ≡ Transmission export → IsSimpleOf export core (operation_counted counted core h.cookie) h.error h.cookie x →
      reply_to export core counted false (head ++ payload) ≡ expected_decision core x 16 payload
  simple_decision payload x phase o =
      let at = fields_stay 16 head payload len in
      let cookie : number_at 8 8 (head ++ payload) ≡ h.cookie = at 8 8 (omega arith) ∙ ap (λ (g : SimpleHead). g.cookie) (sym is) in
      let error : number_at 4 4 (head ++ payload) ≡ h.error = at 4 4 (omega arith) ∙ ap (λ (g : SimpleHead). g.error) (sym is) in
      let to : operation_counted counted core (number_at 8 8 (head ++ payload)) ≡ operation_counted counted core h.cookie = ap (operation_counted counted core) cookie in
      let fault = (λ i. simple_fault core.structured (to i) (error i)) ∙ o.no_fault in
      let more = (λ i. simple_payload_length (to i) (error i)) ∙ sym o.length_is in
      let last = (λ i. simple_last_fault export (to i) (error i)) ∙ sym (ap (λ p. last_fault_by p core x payload) phase ∙ o.last_is payload) in
      let message = (λ i. messages.Simple (error i) (cookie i) (after_head 16 head payload len i)) ∙ sym (o.message_is payload) in
      by_simple (head ++ payload) (begun_true SIMPLE_MAGIC head payload begun)
      ∙ (λ i. record { head_length = 16; head_fault = fault i; payload_length = more i; last_fault = last i; message = message i })

-- the same fields, with more bytes after the head
fields_same : (x : Bool) (head payload : List ℕ) → length head ≡ chunk_head_length x → chunk_fields x (head ++ payload) ≡ chunk_fields x head
fields_same false head payload len =
    let at = fields_stay 20 head payload len in
    λ i. record { at = None; flags = at 4 2 (omega arith) i; kind = at 6 2 (omega arith) i; cookie = at 8 8 (omega arith) i; length = at 16 4 (omega arith) i }
fields_same true head payload len =
    let at = fields_stay 32 head payload len in
    λ i. record { at = Some (at 16 8 (omega arith) i); flags = at 4 2 (omega arith) i; kind = at 6 2 (omega arith) i; cookie = at 8 8 (omega arith) i; length = at 24 8 (omega arith) i }

-- what is decided of a chunk, by whether its header is an extended one
module _ (export : Exporting) (core : Core) (counted : ℕ) where
  abbrev named : ℕ → Option Operation
  named cookie = operation_counted counted core cookie

  -- the same, by its fields and the bytes after its head
  abbrev by_fields : (x : Bool) → ChunkHead → List ℕ → Decision
  by_fields x h rest = record {
    head_length = chunk_head_length x;
    head_fault = head_fault_by h.at core.structured (named h.cookie) h.length;
    payload_length = h.length;
    last_fault = chunk_fault_to core.profile export (named h.cookie) h rest;
    message = chunk_of h rest;
  }

  by_chunk : (x : Bool) (bytes : List ℕ) → begins (chunk_magic x) bytes ≡ true → reply_to export core counted x bytes ≡ by_fields x (chunk_fields x bytes) (drop (chunk_head_length x) bytes)
  by_chunk x bytes b = grind arith

  module _ (x : Bool) (head : List ℕ) (h : ChunkHead) (begun : begins (chunk_magic x) head ≡ true) (len : length head ≡ chunk_head_length x) (is : h ≡ chunk_fields x head) where
    pub chunk_refused : (fault : WireFault) → head_fault_by h.at core.structured (named h.cookie) h.length ≡ Some fault → (reply_to export core counted x head).head_fault ≡ Some fault
    chunk_refused fault bad = grind (arith, by_chunk)

    pub chunk_decision : (payload : List ℕ) (y : Expected) → core.phase ≡ Transmission export → IsChunkOf export core (named h.cookie) h y → reply_to export core counted x (head ++ payload) ≡ expected_decision core y (length head) payload
    chunk_decision payload y phase o =
        let same : chunk_fields x (head ++ payload) ≡ h = fields_same x head payload len ∙ sym is in
        let last = sym (ap (λ p. last_fault_by p core y payload) phase ∙ o.last_is payload) in
        by_chunk x (head ++ payload) (begun_true (chunk_magic x) head payload begun)
        ∙ (λ i. by_fields x (same i) (after_head (chunk_head_length x) head payload len i))
        ∙ (λ i. record { head_length = sym len i; head_fault = o.no_fault i; payload_length = sym o.length_is i; last_fault = last i; message = sym (o.message_is payload) i })

pub if_ok : {A E : Type 0} (r : Result A E) (P Q : A → Type 0) → IfOk r P → ((x : A) → P x → Q x) → IfOk r Q
if_ok r P Q p f = grind arith

pub if_err : {A E : Type 0} (r : Result A E) (P Q : E → Type 0) → IfErr r P → ((e : E) → P e → Q e) → IfErr r Q
if_err r P Q p f = grind arith
