-- What a message has that is read to its end: neither of its lists has a hit, and as many bytes came as should.
use Rattle.nbd_laws.proofs.Common.{and_parts, ◌≡◌, ◌∙◌, reply_in, ℕ, ◌≤◌, ◌+◌, ◌==◌, List, length, drop, refl, sym, ap, subst, Option, Some, None, Bool, true, false, not, nat_le, nat_lt, eqb-true, leb-true, arith, length-drop, Profile, Message, Greeting, ClientFlags, Choice, Answer, Exported, Request, Simple, Chunk, ExtendedRequest, ExtendedChunk, number_at, CHUNK_MAGIC, EXTENDED_CHUNK_MAGIC, SIMPLE_MAGIC, WireFault, BadMagic, OutOfProfile, UnknownCookie, Exporting, Operation, Core, Phase, Greet, Flags, Choosing, Naming, Aborting, Answering, Transmission, Side, Client, Server, has, is_proper_option, takes_contexts, target, operation, with_reply, cookie_of, is_extended, abort_fault, answer_fault, answer_head_fault, answer_last_fault, client_flags_fault, export_fault, greeting_fault, Decision, abort_answer, answer, begins, choice, chunk_to, client_flags, export_answer, greeting, option_and_then, operation_of, reply_with, request_by, simple_to, judge_in, read_by, reading_by_decision, Whole, chunk_fault, chunk_head_fault, cookie_fault, offset_fault, read_as, request_fault, simple_fault, simple_last_fault, MayComplete, enc, side}
use Rattle.nbd_laws.proofs.judge.{DecideLemmas.{no_reply, simple_length, extended_request, extended_reply_by, reply_by, request_unless, short_request}, BoolLemmas.{fault_none, ended_whole}}
use Rattle.nbd_wire.specs.declared.chunks.TheConstants as chunks
use Rattle.nbd_wire.specs.declared.handshake.TheConstants as handshake
use Rattle.nbd_wire.specs.declared.options.TheConstants as options

-- what the judge calls whole has no fault
pub record IsWhole (d : Decision) (bytes : List ℕ) (m : Message) : Type 0 where
  pub long : length bytes ≡ d.head_length + d.payload_length
  pub at_head : d.head_fault ≡ None
  pub at_last : d.last_fault ≡ None
  pub is : d.message ≡ m

pub whole : (d : Decision) (bytes : List ℕ) (m : Message) → read_by d bytes ≡ Whole m → IsWhole d bytes m
whole d bytes m e = grind (arith, nat_lt, eqb-true, ended_whole)

-- a reply to this request: as many bytes as it asks for, and nothing is refused at its head or its last byte
unfoldable pub MayReply : Profile → Bool → Exporting → Operation → Message → Type 0
MayReply profile structured export e (Simple error cookie payload) = (length payload ≡ simple_length e error) × (simple_fault structured (Some e) error ≡ None) × (simple_last_fault export (Some e) error ≡ None)
MayReply profile structured export e (Chunk flags kind cookie payload) = (chunk_head_fault false structured (Some e) 0 ≡ None) × (chunk_fault false (kind == chunks.NONE) export e (with_reply e (Chunk flags kind cookie payload)) flags (read_as profile kind) payload ≡ None)
MayReply profile structured export e (ExtendedChunk flags kind cookie offset payload) = (chunk_head_fault false structured (Some e) 0 ≡ None) × (chunk_fault true (kind == chunks.NONE) export e (with_reply e (ExtendedChunk flags kind cookie offset payload)) flags (read_as profile kind) payload ≡ None) × (offset ≡ e.offset)
MayReply profile structured export e _ = ⊥

-- a reply answers the outstanding request with its cookie
abbrev pub AnswersOne : Core → Exporting → (cookie : ℕ) → Message → Type 0
AnswersOne core export cookie m = (k : ℕ) × (e : Operation) × (target cookie core.entries ≡ Some k) × (operation k core.entries ≡ Some e) × MayReply core.profile core.structured export e m

-- what a message that may complete has, message by message
unfoldable pub IsAllowed : Core → Phase → Message → Type 0
IsAllowed core Greet (Greeting flags) = greeting_fault flags ≡ None
IsAllowed core Flags (ClientFlags flags) = client_flags_fault core.offered flags ≡ None
IsAllowed core Choosing (Choice id payload) = Unit {0}
IsAllowed core Naming (Exported size flags padded) = (padded ≡ not (has core.client_flags handshake.C_NO_ZEROES)) × (export_fault size flags ≡ None)
IsAllowed core Aborting (Answer option kind payload) = answer_fault options.ABORT option (abort_fault kind (length payload)) ≡ None
IsAllowed core (Answering asked given info) (Answer option kind payload) = (answer_head_fault core.profile asked (is_proper_option asked given) (takes_contexts asked given) info option kind (length payload) ≡ None) × (answer_last_fault core.profile asked (is_proper_option asked given) core.selection kind payload ≡ None)
IsAllowed core (Transmission export) (Request flags command cookie offset len payload) = (request_fault false flags command offset len ≡ None) × (cookie_fault command (target cookie core.entries) ≡ None) × (core.extended ≡ false)
IsAllowed core (Transmission export) (Simple error cookie payload) = AnswersOne core export cookie (Simple error cookie payload)
IsAllowed core (Transmission export) (Chunk flags kind cookie payload) = AnswersOne core export cookie (Chunk flags kind cookie payload)
IsAllowed core (Transmission export) (ExtendedRequest flags command cookie offset len payload) = (request_fault true flags command offset len ≡ None) × (cookie_fault command (target cookie core.entries) ≡ None) × (core.extended ≡ true)
IsAllowed core (Transmission export) (ExtendedChunk flags kind cookie offset payload) = AnswersOne core export cookie (ExtendedChunk flags kind cookie offset payload)
IsAllowed _ _ _ = ⊥

-- the bytes begin with this number
pub magic_of : (magic : ℕ) (bytes : List ℕ) → begins magic bytes ≡ true → (4 ≤ length bytes) × (number_at 0 4 bytes ≡ magic)
magic_of magic bytes h = let b : (nat_le 4 (length bytes) ≡ true) × ((number_at 0 4 bytes == magic) ≡ true) = and_parts _ _ h in (leb-true 4 (length bytes) b.0, eqb-true _ _ b.1)

-- what was read as a request
pub data IsRequest (now : Core) (bytes : List ℕ) (m : Message) : Type 0 where
  as_short : now.extended ≡ false → IsWhole (short_request now bytes) bytes m → IsRequest now bytes m
  as_long : now.extended ≡ true → IsWhole (extended_request now bytes) bytes m → IsRequest now bytes m

pub request_read : (now : Core) (bytes : List ℕ) (m : Message) → reading_by_decision (request_unless now.disconnected now bytes) bytes ≡ Whole m → (now.disconnected ≡ false) × IsRequest now bytes m
request_read now bytes m e = go now.disconnected refl e
  where
    by : (x : Bool) → now.extended ≡ x → read_by (request_by x now bytes) bytes ≡ Whole m → IsRequest now bytes m
    by false x e = as_short x (whole (short_request now bytes) bytes m e)
    by true x e = as_long x (whole (extended_request now bytes) bytes m e)

    go : (d : Bool) → now.disconnected ≡ d → reading_by_decision (request_unless d now bytes) bytes ≡ Whole m → (now.disconnected ≡ false) × IsRequest now bytes m
    go true d e = absurd (cc)
    go false d e = (d, by now.extended refl e)

-- what was read as a reply to the request that its cookie names
pub data IsReply (export : Exporting) (to : ℕ → Option Operation) (now : Core) (bytes : List ℕ) (m : Message) : Type 0 where
  as_simple : (e : Operation) → to (number_at 8 8 bytes) ≡ Some e → now.extended ≡ false → number_at 0 4 bytes ≡ SIMPLE_MAGIC → IsWhole (simple_to export now (Some e) bytes) bytes m → IsReply export to now bytes m
  as_chunk : (e : Operation) → to (number_at 8 8 bytes) ≡ Some e → now.extended ≡ false → number_at 0 4 bytes ≡ CHUNK_MAGIC → IsWhole (chunk_to false export now (Some e) bytes) bytes m → IsReply export to now bytes m
  as_extended : (e : Operation) → to (number_at 8 8 bytes) ≡ Some e → now.extended ≡ true → number_at 0 4 bytes ≡ EXTENDED_CHUNK_MAGIC → IsWhole (chunk_to true export now (Some e) bytes) bytes m → IsReply export to now bytes m

-- what is decided of a reply, by its header and what it begins with
abbrev reply_as : (x chunk simple long : Bool) → Exporting → Core → Option Operation → List ℕ → Decision
reply_as false chunk simple long export now o bytes = reply_by chunk simple export now o bytes
reply_as true chunk simple long export now o bytes = extended_reply_by long export now o bytes

pub reply_read : (export : Exporting) (to : ℕ → Option Operation) (now : Core) (bytes : List ℕ) (m : Message) → read_by (reply_with export to now bytes) bytes ≡ Whole m → IsReply export to now bytes m
reply_read export to now bytes m e = by now.extended refl (to (number_at 8 8 bytes)) refl (begins CHUNK_MAGIC bytes) refl (begins SIMPLE_MAGIC bytes) refl (begins EXTENDED_CHUNK_MAGIC bytes) refl (ap (λ d. read_by d bytes) (sym (same now.extended)) ∙ e)
  where
    same : (x : Bool) → reply_in x export now (to (number_at 8 8 bytes)) bytes ≡ reply_as x (begins CHUNK_MAGIC bytes) (begins SIMPLE_MAGIC bytes) (begins EXTENDED_CHUNK_MAGIC bytes) export now (to (number_at 8 8 bytes)) bytes
    same false = refl
    same true = refl

    by : (x : Bool) → now.extended ≡ x → (o : Option Operation) → to (number_at 8 8 bytes) ≡ o → (chunk : Bool) → begins CHUNK_MAGIC bytes ≡ chunk → (simple : Bool) → begins SIMPLE_MAGIC bytes ≡ simple → (long : Bool) → begins EXTENDED_CHUNK_MAGIC bytes ≡ long →
        read_by (reply_as x chunk simple long export now o bytes) bytes ≡ Whole m → IsReply export to now bytes m
    by false x (Some o) is true c simple s long l e = as_chunk o is x (magic_of _ bytes c).1 (whole (chunk_to false export now (Some o) bytes) bytes m e)
    by false x None is true c simple s long l e = absurd (let q : Some UnknownCookie ≡ None = (whole (chunk_to false export now None bytes) bytes m e).at_head in (cc))
    by false x (Some o) is false c true s long l e = as_simple o is x (magic_of _ bytes s).1 (whole (simple_to export now (Some o) bytes) bytes m e)
    by false x None is false c true s long l e = absurd (let q : Some UnknownCookie ≡ None = (whole (simple_to export now None bytes) bytes m e).at_head in (cc))
    by false x o is false c false s long l e = absurd (let q : Some BadMagic ≡ None = (whole (no_reply bytes) bytes m e).at_head in (cc))
    by true x (Some o) is chunk c simple s true l e = as_extended o is x (magic_of _ bytes l).1 (whole (chunk_to true export now (Some o) bytes) bytes m e)
    by true x None is chunk c simple s true l e = absurd (let q : Some UnknownCookie ≡ None = (fault_none _ OutOfProfile _ (whole (chunk_to true export now None bytes) bytes m e).at_head).1 in (cc))
    by true x o is chunk c simple s false l e = absurd (let q : Some BadMagic ≡ None = (whole (no_reply bytes) bytes m e).at_head in (cc))

-- the cookie that it repeats, and its kind of header
pub cookie_read : {export : Exporting} {to : ℕ → Option Operation} {now : Core} {bytes : List ℕ} {m : Message} → IsReply export to now bytes m → (cookie_of m ≡ Some (number_at 8 8 bytes)) × (is_extended m ≡ now.extended)
cookie_read (as_simple e is x mg w) = (ap cookie_of (sym w.is), ap is_extended (sym w.is) ∙ sym x)
cookie_read (as_chunk e is x mg w) = (ap cookie_of (sym w.is), ap is_extended (sym w.is) ∙ sym x)
cookie_read (as_extended e is x mg w) = (ap cookie_of (sym w.is), ap is_extended (sym w.is) ∙ sym x)

-- a head states how many bytes come after it
pub stated : (h n : ℕ) (bytes : List ℕ) → length bytes ≡ h + n → n ≡ length (drop h bytes)
stated h n bytes l = omega (arith, length-drop h bytes, l)

found : (core : Core) (cookie : ℕ) (e : Operation) → operation_of core core cookie ≡ Some e → (k : ℕ) × (target cookie core.entries ≡ Some k) × (operation k core.entries ≡ Some e)
found core cookie e h = go (target cookie core.entries) refl h
  where
    go : (o : Option ℕ) → target cookie core.entries ≡ o → option_and_then (λ k. operation k core.entries) o ≡ Some e → (k : ℕ) × (target cookie core.entries ≡ Some k) × (operation k core.entries ≡ Some e)
    go None t h = absurd (cc)
    go (Some k) t h = (k, t, h)

-- the request that a reply's cookie names is outstanding
pub named_one : {export : Exporting} {core : Core} {bytes : List ℕ} {m : Message} → IsReply export (operation_of core core) core bytes m → (k : ℕ) × (target (number_at 8 8 bytes) core.entries ≡ Some k)
named_one {core = core} {bytes = bytes} (as_simple e is x mg w) = let f = found core (number_at 8 8 bytes) e is in (f.0, f.1)
named_one {core = core} {bytes = bytes} (as_chunk e is x mg w) = let f = found core (number_at 8 8 bytes) e is in (f.0, f.1)
named_one {core = core} {bytes = bytes} (as_extended e is x mg w) = let f = found core (number_at 8 8 bytes) e is in (f.0, f.1)

-- a chunk with an extended header is refused for its offset behind all else
pub no_offset_fault : (earlier : Option WireFault) (e : Operation) (offset : ℕ) → offset_fault earlier e offset ≡ None → (earlier ≡ None) × (offset ≡ e.offset)
no_offset_fault earlier e offset h = grind (arith, eqb-true, fault_none)

request_allowed : (now : Core) (export : Exporting) (bytes : List ℕ) (m : Message) → IsRequest now bytes m → IsAllowed now (Transmission export) m
unfolding IsAllowed
request_allowed now export bytes m (as_short x w) = subst (IsAllowed now (Transmission export)) w.is ((fault_none _ BadMagic _ w.at_head).1, w.at_last, x)
request_allowed now export bytes m (as_long x w) = subst (IsAllowed now (Transmission export)) w.is ((fault_none _ BadMagic _ w.at_head).1, w.at_last, x)

reply_allowed : (export : Exporting) (now : Core) (bytes : List ℕ) (m : Message) → IsReply export (operation_of now now) now bytes m → IsAllowed now (Transmission export) m
unfolding IsAllowed MayReply
reply_allowed export now bytes m (as_simple e is x mg w) =
    let f = found now (number_at 8 8 bytes) e is in
    subst (IsAllowed now (Transmission export)) w.is (f.0, e, f.1, f.2, (sym (stated 16 _ bytes w.long), w.at_head, w.at_last))
reply_allowed export now bytes m (as_chunk e is x mg w) =
    let f = found now (number_at 8 8 bytes) e is in
    subst (IsAllowed now (Transmission export)) w.is (f.0, e, f.1, f.2, (w.at_head, w.at_last))
reply_allowed export now bytes m (as_extended e is x mg w) =
    let f = found now (number_at 8 8 bytes) e is in
    let h = no_offset_fault _ e (number_at 16 8 bytes) w.at_last in
    subst (IsAllowed now (Transmission export)) w.is (f.0, e, f.1, f.2, ((fault_none _ OutOfProfile _ w.at_head).1, h.0, h.1))

read_allowed : (phase : Phase) (now : Core) (s : Side) (bytes : List ℕ) (m : Message) → judge_in phase now now s bytes ≡ Whole m → IsAllowed now phase m
unfolding IsAllowed
read_allowed Greet now Server bytes m e = let w = whole (greeting bytes) bytes m e in subst (IsAllowed now Greet) w.is (fault_none _ BadMagic _ w.at_head).1
read_allowed Flags now Client bytes m e = let w = whole (client_flags now.offered bytes) bytes m e in subst (IsAllowed now Flags) w.is w.at_head
read_allowed Choosing now Client bytes m e = let w = whole (choice bytes) bytes m e in subst (IsAllowed now Choosing) w.is tt
read_allowed Naming now Server bytes m e = let w = whole (export_answer (has now.client_flags handshake.C_NO_ZEROES) bytes) bytes m e in subst (IsAllowed now Naming) w.is (refl, w.at_head)
read_allowed Aborting now Server bytes m e =
    let w = whole (abort_answer bytes) bytes m e in
    subst (IsAllowed now Aborting) w.is (subst (λ n. answer_fault options.ABORT (number_at 8 4 bytes) (abort_fault (number_at 12 4 bytes) n) ≡ None) (stated 20 _ bytes w.long) (fault_none _ BadMagic _ w.at_head).1)
read_allowed (Answering option given info) now Server bytes m e =
    let proper : Bool = is_proper_option option given in
    let takes : Bool = takes_contexts option given in
    let w = whole (answer now.profile option proper takes info now.selection bytes) bytes m e in
    subst (IsAllowed now (Answering option given info)) w.is (
      subst (λ n. answer_head_fault now.profile option proper takes info (number_at 8 4 bytes) (number_at 12 4 bytes) n ≡ None) (stated 20 _ bytes w.long) (fault_none _ BadMagic _ w.at_head).1,
      w.at_last,
    )
read_allowed (Transmission export) now Client bytes m e = request_allowed now export bytes m (request_read now bytes m e).1
read_allowed (Transmission export) now Server bytes m e = reply_allowed export now bytes m (reply_read export (operation_of now now) now bytes m e)
read_allowed phase now s bytes m e = absurd (cc)

pub allowed : (core : Core) (phase : Phase) (m : Message) → MayComplete core phase m → IsAllowed core phase m
unfolding MayComplete
allowed core phase m ok = read_allowed phase core (side m) (enc m) m ok
