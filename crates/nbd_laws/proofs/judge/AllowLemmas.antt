-- What the lists of tests say, where none holds: in the words of relations.
use Rattle.nbd_laws.proofs.requests.LaidLemmas.{AreApart, AreInside}
use Rattle.nbd_laws.proofs.Common.{and_parts, not-false, or_cases, or_parts, ◌+◌, piece_offset, piece_size, SharesNone, IsStatus, answer_fault, answer_head_fault, greeting_fault, abort_fault, answers_option, is_followed, info_fault, is_good_info, earlier_to, is_good_context, answer_last_fault, cookie_fault, request_fault, chunk_fault, content_fault, done_fault, fits_failure, total, status_if, read_as, status_kind, Chunk, ExtendedChunk, Simple, ◌≡◌, ◌≢◌, ℕ, ◌≤◌, ◌⊎◌, ◌==◌, List, [], ◌∷◌, length, refl, sym, Option, Some, None, Bool, true, false, ◌&&◌, nat_le, nat_lt, eqb-true, arith, IsTrue, leb-true, leb-false, ltb-true, ne_eqb, is_error, is_proper_option, takes_contexts, info_of, context_of, content_of, failure_of, status_of, Exporting, Covers, Operation, has_failed, is_proper, pieces, has, Core, target, with_reply, NotFixedNewstyle, OutOfProfile, Profile, Selection, Context, Status, are_settled, is_settled, Failure, Piece, is_in}
use Rattle.nbd_laws.proofs.judge.{DecideLemmas.simple_length, BoolLemmas.{and_false, fault_none}, KindLemmas.{kind_content, kind_status}, CoverLemmas.{full_total_covers, apart_from-shares}}
unfoldable use Rattle.nbd_laws.proofs.judge.WholeLemmas.{MayReply}
use Rattle.std.proofs.lemmas.Bool.{eq-eqb}
use Rattle.nbd_wire.specs.protocol.Operations.{asks_status}
use Rattle.nbd_wire.specs.declared.answers.TheConstants as answers
use Rattle.nbd_wire.specs.declared.handshake.TheConstants as handshake
use Rattle.nbd_wire.specs.declared.options.TheConstants as options
use Rattle.nbd_wire.specs.declared.chunks.TheConstants as chunks
use Rattle.nbd_wire.specs.declared.command_flags.TheConstants as command_flags
use Rattle.nbd_wire.specs.declared.commands.TheConstants as commands

pub no_length : {A : Type 0} (xs : List A) → length xs ≡ 0 → xs ≡ []
no_length [] e = refl
no_length (x ∷ xs) e = absurd (omega arith)

pub greeting_allow : (flags : ℕ) → greeting_fault flags ≡ None → IsTrue (has flags handshake.FIXED_NEWSTYLE)
greeting_allow flags e = not-false _ (fault_none _ NotFixedNewstyle None e).0

pub abort_allow : (option kind : ℕ) (payload : List ℕ) → answer_fault options.ABORT option (abort_fault kind (length payload)) ≡ None → (option ≡ options.ABORT) × (IsTrue (is_error kind) ⊎ (kind ≡ answers.ACK) × (payload ≡ []))
abort_allow option kind payload e = grind (arith, fault_none, eqb-true, not-false, no_length, and_false)

-- what a success must be
pub record IsSuccess (profile : Profile) (option : ℕ) (given : List ℕ) (info : Option Exporting) (selection : Selection) (kind : ℕ) (payload : List ℕ) : Type 0 where
  pub followed : is_followed profile option ≡ true
  pub listed : answers_option option (takes_contexts option given) kind ≡ true
  pub acked : kind ≡ answers.ACK → (payload ≡ []) × (info_fault option true info ≡ None)
  pub proper : IsTrue (is_proper_option option given)
  pub infos : kind ≡ answers.INFO → is_good_info profile (info_of payload) ≡ true
  pub tells : kind ≡ answers.META_CONTEXT → is_good_context (earlier_to option selection) (context_of payload) ≡ true

pub answer_allow : (profile : Profile) (asked : ℕ) (given : List ℕ) (info : Option Exporting) (selection : Selection) (option kind : ℕ) (payload : List ℕ) →
    answer_head_fault profile asked (is_proper_option asked given) (takes_contexts asked given) info option kind (length payload) ≡ None →
    answer_last_fault profile asked (is_proper_option asked given) selection kind payload ≡ None → (option ≡ asked) × (IsTrue (is_error kind) ⊎ IsSuccess profile asked given info selection kind payload)
answer_allow profile asked given info selection option kind payload e f = grind (arith, fault_none, not-false, eqb-true, or_parts, no_length, and_false, eq-eqb)

-- a DISC has offset and length 0, and any other request has a cookie that no outstanding one has
abbrev pub MayAsk : (is_disc : Bool) → Core → (cookie offset len : ℕ) → Type 0
MayAsk true core cookie offset len = (offset ≡ 0) × (len ≡ 0)
MayAsk false core cookie offset len = target cookie core.entries ≡ None

pub ask_allow : (core : Core) (command cookie offset len : ℕ) → request_fault false 0 command offset len ≡ None → cookie_fault command (target cookie core.entries) ≡ None → MayAsk (command == commands.DISC) core cookie offset len
ask_allow core command cookie offset len e f = grind (arith, fault_none, and_parts, eqb-true)

pub extended_ask_allow : (core : Core) (flags command cookie offset len : ℕ) → request_fault true flags command offset len ≡ None → cookie_fault command (target cookie core.entries) ≡ None → MayAsk (command == commands.DISC) core cookie offset len
extended_ask_allow core flags command cookie offset len e f = ask_allow core command cookie offset len (fault_none _ OutOfProfile (request_fault false 0 command offset len) e).1 f

pub simple_allow : (profile : Profile) (structured : Bool) (export : Exporting) (e : Operation) (error cookie : ℕ) (payload : List ℕ) → MayReply profile structured export e (Simple error cookie payload) →
    (e.replies ≡ []) × (e.command ≡ commands.READ → structured ≡ false) × (IsTrue (asks_status e) → error ≢ 0) × (length payload ≡ simple_length e error) × (error ≡ 0 → IsTrue (is_proper export e))
unfolding MayReply
simple_allow profile structured export e error cookie payload (l, at_head, at_last) = grind (arith, or_parts, fault_none, is_proper, not-false, and_false, eq-eqb, eqb-true, no_length)

-- a content chunk answers a READ, lies in its range, shares no offset with an earlier one, and is the only one of a
-- proper READ with DF
abbrev pub IsContent : Exporting → Operation → Piece → Type 0
IsContent export e piece =
    (e.command ≡ commands.READ)
    × (e.offset ≤ piece_offset piece) × (piece_offset piece + piece_size piece ≤ e.offset + e.length)
    × SharesNone piece (pieces e)
    × (IsTrue (is_proper export e && has e.flags command_flags.DF) → pieces e ≡ [])

pub in_range : (e : Operation) (o : Option ℕ) → fits_failure e o ≡ true → (x : ℕ) → o ≡ Some x → IsTrue (is_in e.offset e.length x)
in_range e o q x is = grind arith

-- what is told of status, where a context is in force
pub record IsTold (extended : Bool) (contexts : List Context) (kind : ℕ) (payload : List ℕ) (status : Status) : Type 0 where
  pub kind_is : kind ≡ status_kind extended
  pub some_in_force : contexts ≢ []
  pub is : status_of extended payload ≡ Some status

pub told_if : (extended : Bool) (contexts : List Context) (kind : ℕ) (payload : List ℕ) (status : Status) → status_if extended contexts kind payload ≡ Some status → IsTold extended contexts kind payload status
told_if extended contexts kind payload status e = grind (arith, eqb-true, ne_eqb)

-- the payload of a chunk has the form of its type: NONE is empty and the last of its reply, and content, an error and a
-- status fit the request
abbrev pub IsChunk : Profile → (extended : Bool) → Exporting → Operation → (flags kind : ℕ) (payload : List ℕ) → Type 0
IsChunk profile extended export e flags kind payload =
    (kind ≡ chunks.NONE) × (payload ≡ []) × IsTrue (has flags chunks.DONE)
    ⊎ ((piece : Piece) × (content_of kind payload ≡ Some piece) × IsContent export e piece)
    ⊎ ((failure : Failure) × (failure_of (read_as profile kind) payload ≡ Some failure) × ((x : ℕ) → failure.offset ≡ Some x → IsTrue (is_in e.offset e.length x)))
    ⊎ (kind ≡ status_kind extended) × ((status : Status) × (status_of extended payload ≡ Some status) × IsStatus e status)

-- a chunk's form, and what is left to judge of its reply's end
pub form_of : (extended : Bool) (profile : Profile) (export : Exporting) (e f : Operation) (flags kind : ℕ) (payload : List ℕ) (z : Bool) → (kind == chunks.NONE) ≡ z → chunk_fault extended z export e f flags (read_as profile kind) payload ≡ None →
    IsChunk profile extended export e flags kind payload × (done_fault (has flags chunks.DONE) export f ≡ None)
form_of extended profile export e f flags kind payload true z h = grind (arith, fault_none, or_parts, eqb-true, no_length, not-false)
form_of extended profile export e f flags kind payload false z h =
    go (content_of (read_as profile kind) payload) (failure_of (read_as profile kind) payload) (status_if extended e.contexts (read_as profile kind) payload) (sym (kind_content profile kind payload)) refl
    (sym (kind_status profile extended e.contexts kind payload)) h
  where
    go : (c : Option Piece) (g : Option Failure) (s : Option Status) → content_of kind payload ≡ c → failure_of (read_as profile kind) payload ≡ g → status_if extended e.contexts kind payload ≡ s →
        content_fault export e c g s (done_fault (has flags chunks.DONE) export f) ≡ None →
        IsChunk profile extended export e flags kind payload × (done_fault (has flags chunks.DONE) export f ≡ None)
    go c g s is_c is_g is_s h = grind (arith, fault_none, and_parts, nat_le, eqb-true, leb-true, apart_from-shares, or_cases, in_range, told_if, leb-false, no_length)

pub chunk_allow : (profile : Profile) (structured : Bool) (export : Exporting) (e : Operation) (flags kind cookie : ℕ) (payload : List ℕ) → MayReply profile structured export e (Chunk flags kind cookie payload) →
    (structured ≡ true) × IsChunk profile false export e flags kind payload × (done_fault (has flags chunks.DONE) export (with_reply e (Chunk flags kind cookie payload)) ≡ None)
unfolding MayReply
chunk_allow profile structured export e flags kind cookie payload (at_head, at_last) = grind (arith, form_of, not-false, fault_none)

pub extended_allow : (profile : Profile) (structured : Bool) (export : Exporting) (e : Operation) (flags kind cookie at : ℕ) (payload : List ℕ) → MayReply profile structured export e (ExtendedChunk flags kind cookie at payload) →
    (structured ≡ true) × IsChunk profile true export e flags kind payload × (done_fault (has flags chunks.DONE) export (with_reply e (ExtendedChunk flags kind cookie at payload)) ≡ None) × (at ≡ e.offset)
unfolding MayReply
extended_allow profile structured export e flags kind cookie at payload (at_head, at_last, here) = grind (arith, form_of, not-false, fault_none)

-- at the end of a reply that states no failure
pub finish_allow : (export : Exporting) (f : Operation) → has_failed f ≡ false → done_fault true export f ≡ None →
    IsTrue (is_proper export f) × (f.command ≡ commands.READ → total (pieces f) ≡ f.length) × (f.command ≡ commands.BLOCK_STATUS → f.length ≢ 0 → IsTrue (are_settled (is_settled f) f.contexts))
finish_allow export f well e = grind (arith, fault_none, is_proper, not-false, eqb-true, and_false, eq-eqb, ne_eqb)

-- pieces in a range that share no offset, and whose sizes add up to its length, cover it
pub total_covers : (e : Operation) → AreInside e.offset e.length (pieces e) → AreApart (pieces e) → total (pieces e) ≡ e.length → Covers e (pieces e)
total_covers e inside apart s x i = grind (arith, nat_le, nat_lt, and_parts, full_total_covers, leb-true, ltb-true)
