-- What a session that is held to one profile may do, it may do under the other too, but for answers of success to the options on metadata contexts.
use Rattle.nbd_laws.proofs.Common.{SIMPLE_MAGIC, reply_in, answer_head_fault, ◌&&◌, ne_eqb, enc, or_cases, side, IsTrue, not-false, ◌≡◌, ℕ, ◌==◌, Bool, true, false, List, [], ◌∷◌, length, refl, sym, ◌∙◌, ap, subst, Option, Some, All, not, if◌then◌else◌, Result, Ok, Err, inl, inr, nat_lt, drop, ◌+◌, append_assoc, arith, ◌≢◌, ◌++◌, ◌<◌, None, ◌||◌, eqb-true, All-head, All-tail, eqb-false, ltb-false, DuesAgree, RunsAgree, AnnouncesAllowed, BaseIsWide, IsParting, NothingFrom, NothingParts, PlacesAgree, UnderWayAgrees, with_profile, IsUnderWayOf, ArePairs, Pair, answer, answer_of, begins, chunk_last_fault, chunk_of, chunk_to, operation_of, answer_fault, is_wide, earlier_to, is_bad_payload, is_good_info, payload_fault, success_fault, Both, judge, judge_in, read_by, Reader, Reading, Rest, Whole, fresh_of, get, on_ok, reads, rest_with, settle, step, fault_if, IsExplainedOf, pairs, without_service, Item, Byte, Starts, Completes, Serves, completed_messages, report, Passes, Selection, Context, ANSWER_MAGIC, CHUNK_MAGIC, EXTENDED_CHUNK_MAGIC, WireFault, BadMagic, SuccessOfImproper, BadReplyPayload, number_at, info_of, Ended, Core, Phase, Greet, Flags, Choosing, Naming, Aborting, Answering, Transmission, start_of, with_reply, Info, BlockSize, Export, Other, is_proper_option, takes_contexts, is_error, Entry, Message, Answer, Side, Client, Server, Profile, Base, Wide, Exporting, Operation, is_error_chunk, chunk_fault, chunk_head_fault, offset_fault, read_as, Sizes, are_allowed, sizes_of, IsRunOf, MayComplete, MayStartIn, Obeys, complete}
use Rattle.nbd_laws.proofs.judge.{DecideLemmas.{extended_reply_by, reply_by, last_reading, staged_reading_by}, BlockLemmas.reads-append, ExactLemmas.exact, SoundLemmas.sound, BoolLemmas.fault_none, WholeLemmas.{IsReply, as_chunk, as_extended, as_simple, magic_of, no_offset_fault, reply_read, whole}, AllowLemmas.{IsChunk, form_of}, KindLemmas.{error_content, failure_kind, no_other, read_kind}}
use Rattle.nbd_laws.proofs.reading.{ReaderLemmas.{Busy, Open, Walk, ended, final, get-put_same, kept_next, loose, middle, opening, reads_held, serving, with_byte}, MarkLemmas.{AreInStep, InStep, in_step_completed, in_step_sided, in_step_with, judged_more, judged_whole, within_middle, within_opening}}
use Rattle.nbd_laws.proofs.{runs.{FollowLemmas.{Follows, IsSidedOpen, completes_later, each_with, follows, pairs_unserved}, CanonLemmas.{canon, canonical_run, unserved_canon}, RunLemmas.{fresh_held, walk_of}, ProfileLemmas.complete_with}, service.{DueProfileLemmas.{due_at_once, faultless_wide}, ExplainingLemmas.{explained_passes, passing_is_explained}, ServiceLemmas.reports_ignore_service}}
use Rattle.std.proofs.lemmas.Bool.{eq-eqb}
use Rattle.nbd_wire.specs.protocol.Negotiation.{extends}
use Rattle.nbd_laws.specs.Profiles.{IsUnknownError}
use Rattle.nbd_wire.specs.declared.chunks.TheConstants as chunks
use Rattle.nbd_wire.specs.declared.answers.TheConstants as answers

-- an answer that announces block sizes which a server may not announce
abbrev pub IsFalse : Message → Type 0
IsFalse (Answer answered kind given) = (kind ≡ answers.INFO) × ((sizes : Sizes) × (sizes_of (info_of given) ≡ Some sizes) × (are_allowed sizes ≡ false))
IsFalse m = ⊥

-- in Base a chunk is of a type that Wide reads as it is
known_kind : (extended : Bool) (export : Exporting) (e : Operation) (flags kind : ℕ) (payload : List ℕ) → IsChunk Base extended export e flags kind payload → read_as Wide kind ≡ kind
known_kind extended export e flags kind payload h = grind (arith, read_kind, error_content, failure_kind, eq-eqb, no_other)

-- each message that completes may do so in the profile
abbrev pub Carries : Profile → Core → List Item → Type 0
Carries q core [] = Unit {0}
Carries q core (Byte s b ∷ items) = Carries q core items
Carries q core (Starts s m ∷ items) = Carries q core items
Carries q core (Completes s m ∷ items) = MayComplete (with_profile q core) core.phase m × Carries q (complete core m) items
Carries q core (Serves k ∷ items) = Carries q core items

-- so the marks that were allowed are
follows_with : (q : Profile) (items : List Item) (core : Core) → Follows core items → Carries q core items → Follows (with_profile q core) items
unfolding MayStartIn
follows_with q [] core f c = tt
follows_with q (Starts s m ∷ items) core f c = (record { sided = f.0.sided; are_bytes = f.0.are_bytes; starts = (grind arith) }, follows_with q items core f.1 c)
follows_with q (Completes s m ∷ items) core f c = (c.0, subst (λ x. Follows x items) (sym (complete_with q core m)) (follows_with q items (complete core m) f.1 c.1))
follows_with q (item ∷ items) core f c = follows_with q items core f c

abbrev Quiet : Phase → Side → List ℕ → Type 0
Quiet phase s bytes = s ≡ Server → IsParting phase bytes → ⊥

staged_end : (fault : Option WireFault) (end other : Reading) → staged_reading_by false fault false end ≡ staged_reading_by false fault false other
staged_end fault end other = grind arith

info_either : (p q : Profile) (o : Option Info) → ((sizes : Sizes) → sizes_of o ≡ Some sizes → are_allowed sizes ≡ false → ⊥) → is_good_info p o ≡ is_good_info q o
info_either p q None fair = refl
info_either p q (Some (Export size flags)) fair = refl
info_either p q (Some (Other kind)) fair = refl
info_either p q (Some (BlockSize a b c)) fair = go (are_allowed (record { least = a; preferred = b; largest = c })) refl
  where
    all : (p : Profile) → (not (is_wide p) || true) ≡ true
    all p = grind arith

    go : (x : Bool) → are_allowed (record { least = a; preferred = b; largest = c }) ≡ x → (not (is_wide p) || x) ≡ (not (is_wide q) || x)
    go true e = all p ∙ sym (all q)
    go false e = absurd (fair (record { least = a; preferred = b; largest = c }) refl e)

bad_either : (p q : Profile) (earlier : List Context) (kind : ℕ) (payload : List ℕ) → (kind ≡ answers.INFO → (sizes : Sizes) → sizes_of (info_of payload) ≡ Some sizes → are_allowed sizes ≡ false → ⊥) →
    is_bad_payload p earlier kind payload ≡ is_bad_payload q earlier kind payload
bad_either p q earlier kind payload fair = grind (arith, info_either, eqb-true)

module _ (option : ℕ) (given : List ℕ) (proper takes : Bool) (info : Option Exporting) (selection : Selection) (bytes : List ℕ) where
  abbrev at_head : Profile → Bool → Option WireFault
  at_head v e = fault_if (not (number_at 0 8 bytes == ANSWER_MAGIC)) BadMagic (answer_fault option (number_at 8 4 bytes) (if e then None else (success_fault v option proper takes info (number_at 12 4 bytes) (number_at 16 4 bytes))))

  abbrev at_last : Profile → Bool → Reading
  at_last v e = last_reading (if e then None else (payload_fault v (earlier_to option selection) proper (number_at 12 4 bytes) (drop 20 bytes))) (answer_of bytes)

  answer_either : (p q : Profile) → (IsParting (Answering option given info) bytes → ⊥) → read_by (answer p option proper takes info selection bytes) bytes ≡ read_by (answer q option proper takes info selection bytes) bytes
  answer_either p q none = go (nat_lt (length bytes) 20) refl (is_error (number_at 12 4 bytes)) refl (length bytes == 20 + number_at 16 4 bytes) refl
    where
      head_same : nat_lt (length bytes) 20 ≡ false → is_error (number_at 12 4 bytes) ≡ false → at_head p false ≡ at_head q false
      head_same l e = grind (arith, ltb-false)

      last_same : length bytes ≡ 20 + number_at 16 4 bytes → at_last p false ≡ at_last q false
      last_same l = ap (λ b. last_reading (fault_if b BadReplyPayload (fault_if (not proper) SuccessOfImproper None)) (answer_of bytes))
          (bad_either p q (earlier_to option selection) (number_at 12 4 bytes) (drop 20 bytes) (λ k sizes is e. none (inr (inl (l, k, (sizes, is, e))))))

      go : (low : Bool) → nat_lt (length bytes) 20 ≡ low → (e : Bool) → is_error (number_at 12 4 bytes) ≡ e → (whole : Bool) → (length bytes == 20 + number_at 16 4 bytes) ≡ whole →
          staged_reading_by low (at_head p e) whole (at_last p e) ≡ staged_reading_by low (at_head q e) whole (at_last q e)
      go true l e x w y = refl
      go false l true x w y = refl
      go false l false x true y = λ i. staged_reading_by false (head_same l x i) true (last_same (eqb-true _ _ y) i)
      go false l false x false y = ap (λ f. staged_reading_by false f false (at_last p false)) (head_same l x) ∙ staged_end (at_head q false) (at_last p false) (at_last q false)

-- a type that both profiles read as it is, or that of an unknown error
kinds_agree : (kind : ℕ) → (is_error_chunk kind ≡ true → kind ≢ chunks.ERROR → kind ≢ chunks.ERROR_OFFSET → ⊥) → (p : Profile) → read_as p kind ≡ kind
kinds_agree kind known p = grind (arith, eqb-true, eqb-false)

module _ (export : Exporting) (now : Core) (q : Profile) (bytes : List ℕ) where
  chunk_either : (o : Option Operation) → begins CHUNK_MAGIC bytes ≡ true → (IsParting (Transmission export) bytes → ⊥) → read_by (chunk_to false export (with_profile q now) o bytes) bytes ≡ read_by (chunk_to false export now o bytes) bytes
  chunk_either o magic none = go (nat_lt (length bytes) 20) (length bytes == 20 + number_at 16 4 bytes) refl
    where
      head : Option WireFault
      head = chunk_head_fault false now.structured o (number_at 16 4 bytes)

      end : Profile → Reading
      end p = last_reading (chunk_last_fault false p export o bytes) (chunk_of false bytes)

      last_same : length bytes ≡ 20 + number_at 16 4 bytes → (o : Option Operation) → chunk_last_fault false q export o bytes ≡ chunk_last_fault false now.profile export o bytes
      last_same l None = refl
      last_same l (Some e) =
          let known = kinds_agree (number_at 6 2 bytes) (λ is n m. none (inr (inr (inl (magic, l, is, n, m))))) in
          ap (λ k. chunk_fault false (number_at 6 2 bytes == chunks.NONE) export e (with_reply e (chunk_of false bytes)) (number_at 4 2 bytes) k (drop 20 bytes)) (known q ∙ sym (known now.profile))

      go : (low whole : Bool) → (length bytes == 20 + number_at 16 4 bytes) ≡ whole → staged_reading_by low head whole (end q) ≡ staged_reading_by low head whole (end now.profile)
      go low w y = grind (arith, head, last_same, eqb-true, staged_end, end)

  extended_either : (o : Option Operation) → begins EXTENDED_CHUNK_MAGIC bytes ≡ true → (IsParting (Transmission export) bytes → ⊥) → read_by (chunk_to true export (with_profile q now) o bytes) bytes ≡ read_by (chunk_to true export now o bytes) bytes
  extended_either o magic none = go (nat_lt (length bytes) 32) (length bytes == 32 + number_at 24 8 bytes) refl
    where
      head : Option WireFault
      head = chunk_head_fault true now.structured o (number_at 24 8 bytes)

      end : Profile → Reading
      end p = last_reading (chunk_last_fault true p export o bytes) (chunk_of true bytes)

      last_same : length bytes ≡ 32 + number_at 24 8 bytes → (o : Option Operation) → chunk_last_fault true q export o bytes ≡ chunk_last_fault true now.profile export o bytes
      last_same l None = refl
      last_same l (Some e) =
          let known = kinds_agree (number_at 6 2 bytes) (λ is n m. none (inr (inr (inr (magic, l, is, n, m))))) in
          ap (λ k. offset_fault (chunk_fault true (number_at 6 2 bytes == chunks.NONE) export e (with_reply e (chunk_of true bytes)) (number_at 4 2 bytes) k (drop 32 bytes)) e (number_at 16 8 bytes)) (known q ∙ sym (known now.profile))

      go : (low whole : Bool) → (length bytes == 32 + number_at 24 8 bytes) ≡ whole → staged_reading_by low head whole (end q) ≡ staged_reading_by low head whole (end now.profile)
      go true w y = refl
      go false true y = ap (λ f. staged_reading_by false head true (last_reading f (chunk_of true bytes))) (last_same (eqb-true _ _ y) o)
      go false false y = staged_end head (end q) (end now.profile)

reading_in : (q : Profile) (phase : Phase) (since now : Core) (s : Side) (bytes : List ℕ) → Quiet phase s bytes → judge_in phase (with_profile q since) (with_profile q now) s bytes ≡ judge_in phase since now s bytes
reading_in q (Answering option given info) since now Server bytes none = answer_either option given (is_proper_option option given) (takes_contexts option given) info now.selection bytes q now.profile (none refl)
reading_in q Greet since now Client bytes none = refl
reading_in q Flags since now Client bytes none = refl
reading_in q Choosing since now Client bytes none = refl
reading_in q Naming since now Client bytes none = refl
reading_in q Aborting since now Client bytes none = refl
reading_in q Ended since now Client bytes none = refl
reading_in q (Transmission export) since now Client bytes none = grind arith
reading_in q (Transmission export) since now Server bytes none = go now.extended
  where
    wide : (c : Bool) → begins EXTENDED_CHUNK_MAGIC bytes ≡ c → read_by (extended_reply_by c export (with_profile q now) (operation_of since now (number_at 8 8 bytes)) bytes) bytes ≡ read_by (extended_reply_by c export now (operation_of since now (number_at 8 8 bytes)) bytes) bytes
    wide c magic = grind (arith, extended_either)

    replied : (c : Bool) → begins CHUNK_MAGIC bytes ≡ c → (s : Bool) → read_by (reply_by c s export (with_profile q now) (operation_of since now (number_at 8 8 bytes)) bytes) bytes ≡ read_by (reply_by c s export now (operation_of since now (number_at 8 8 bytes)) bytes) bytes
    replied c magic s = grind (arith, chunk_either)

    go : (x : Bool) → read_by (reply_in x export (with_profile q now) (operation_of since now (number_at 8 8 bytes)) bytes) bytes ≡ read_by (reply_in x export now (operation_of since now (number_at 8 8 bytes)) bytes) bytes
    go false = replied (begins CHUNK_MAGIC bytes) refl (begins SIMPLE_MAGIC bytes)
    go true = wide (begins EXTENDED_CHUNK_MAGIC bytes) refl
reading_in q phase since now s bytes none = refl

-- what Base reads to its end parts the profiles by a false announcement alone
base_answers : (option : ℕ) (proper takes : Bool) (info : Option Exporting) (answered kind len : ℕ) → answer_head_fault Base option proper takes info answered kind len ≡ None → IsTrue (extends option) → is_error kind ≡ false → ⊥
base_answers option proper takes info answered kind len e x n = grind (arith, fault_none, not-false, eqb-true, or_cases)

unknown_type : (extended : Bool) (export : Exporting) (e f : Operation) (flags kind : ℕ) (payload : List ℕ) → chunk_fault extended (kind == chunks.NONE) export e f flags (read_as Base kind) payload ≡ None →
    is_error_chunk kind ≡ true → kind ≢ chunks.ERROR → kind ≢ chunks.ERROR_OFFSET → ⊥
unknown_type extended export e f flags kind payload h is n m =
    let k : read_as Wide kind ≡ kind = known_kind extended export e flags kind payload (form_of extended Base export e f flags kind payload (kind == chunks.NONE) refl h).0 in
    let q : (kind == chunks.ERROR_OFFSET) ≡ false = ne_eqb kind chunks.ERROR_OFFSET m in
    n (sym k ∙ (λ i. if is i && not (q i) then chunks.ERROR else kind))

known_chunk : (export : Exporting) (core : Core) (bytes : List ℕ) (m : Message) → core.profile ≡ Base → IsReply export (operation_of core core) core bytes m → IsUnknownError (Transmission export) bytes → ⊥
known_chunk export core bytes m base (as_chunk e is x mg w) (inl (b, l, err, n, k)) =
    unknown_type false export e (with_reply e (chunk_of false bytes)) (number_at 4 2 bytes) (number_at 6 2 bytes) (drop 20 bytes) (subst (λ p. chunk_last_fault false p export (Some e) bytes ≡ None) base w.at_last) err n k
known_chunk export core bytes m base (as_extended e is x mg w) (inr (b, l, err, n, k)) =
    unknown_type true export e (with_reply e (chunk_of true bytes)) (number_at 4 2 bytes) (number_at 6 2 bytes) (drop 32 bytes)
    (no_offset_fault _ e (number_at 16 8 bytes) (subst (λ p. chunk_last_fault true p export (Some e) bytes ≡ None) base w.at_last)).0 err n k
known_chunk export core bytes m base (as_simple e is x mg w) (inl u) = let q = (magic_of _ bytes u.0).1 in omega (arith, q, mg)
known_chunk export core bytes m base (as_simple e is x mg w) (inr u) = let q = (magic_of _ bytes u.0).1 in omega (arith, q, mg)
known_chunk export core bytes m base (as_chunk e is x mg w) (inr u) = let q = (magic_of _ bytes u.0).1 in omega (arith, q, mg)
known_chunk export core bytes m base (as_extended e is x mg w) (inl u) = let q = (magic_of _ bytes u.0).1 in omega (arith, q, mg)

quiet_read : (core : Core) (phase : Phase) (s : Side) (bytes : List ℕ) (m : Message) → core.profile ≡ Base → (IsFalse m → ⊥) → judge_in phase core core s bytes ≡ Whole m → Quiet phase s bytes
quiet_read core (Answering option given info) Server bytes m base fair e q parts =
    let proper : Bool = is_proper_option option given in
    let takes : Bool = takes_contexts option given in
    let at_head : Profile → Option WireFault = λ p. answer_head_fault p option proper takes info (number_at 8 4 bytes) (number_at 12 4 bytes) (number_at 16 4 bytes) in
    let w = whole (answer core.profile option proper takes info core.selection bytes) bytes m e in
    let clean : at_head core.profile ≡ None = (fault_none (not (number_at 0 8 bytes == ANSWER_MAGIC)) BadMagic (at_head core.profile) w.at_head).1 in
    elim parts [
      | inl x ↦ base_answers option proper takes info (number_at 8 4 bytes) (number_at 12 4 bytes) (number_at 16 4 bytes) (subst (λ p. at_head p ≡ None) base clean) x.0 x.2
      | inr y ↦ elim y [ inl f ↦ fair (subst IsFalse w.is (f.1, f.2)) | inr u ↦ u ]
    ]
quiet_read core (Transmission export) Server bytes m base fair e q parts = elim parts [
  | inl x ↦ x
  | inr y ↦ elim y [ inl f ↦ f | inr u ↦ known_chunk export core bytes m base (reply_read export (operation_of core core) core bytes m e) u ]
]
quiet_read core phase s bytes m base fair e q parts = grind arith

-- what may complete may do so in Wide, but for false announcements
may_wide : (core : Core) (phase : Phase) (m : Message) → (IsFalse m → ⊥) → MayComplete core phase m → MayComplete (with_profile Wide core) phase m
unfolding MayComplete
may_wide core phase m fair ok = go core.profile refl
  where
    go : (p : Profile) → core.profile ≡ p → MayComplete (with_profile Wide core) phase m
    go Base b = reading_in Wide phase core core (side m) (enc m) (quiet_read core phase (side m) (enc m) m b fair ok) ∙ ok
    go Wide w = subst (λ c. MayComplete c phase m) (λ i. record core { profile = w i }) ok

allowed_is_no_false : (m : Message) → AnnouncesAllowed m → IsFalse m → ⊥
allowed_is_no_false m a f = grind arith

-- in Wide each message may that may in the profile of the core
carries_wide : (items : List Item) (core : Core) (js : List Entry) → All AnnouncesAllowed (completed_messages items) → Obeys (record { core = core; served = js }) items → Carries Wide core items
carries_wide [] core js all ob = tt
carries_wide (Completes s m ∷ items) core js all ob = (
  may_wide core core.phase m (allowed_is_no_false m (All-head AnnouncesAllowed m (completed_messages items) all)) ob.0.0,
  carries_wide items (complete core m) js (All-tail AnnouncesAllowed m (completed_messages items) all) ob.1,
)
carries_wide (Serves k ∷ items) core js all ob = carries_wide items core _ all ob.1
carries_wide (item ∷ items) core js all ob = carries_wide items core js all ob.1

pub base_is_wide : BaseIsWide
base_is_wide capture order initial ex all =
    let first : Core = (start_of Base).core in
    let items : List Item = canon (start_of Wide).core ex.items in
    let run : IsRunOf Wide items = canonical_run Wide ex.items (walk_of ex.is_run) (follows_with Wide ex.items first (follows ex.items (start_of Base) ex.is_run.obeys) (carries_wide ex.items first [] all ex.is_run.obeys)) in
    let unserved : without_service items ≡ without_service ex.items = unserved_canon (start_of Wide).core ex.items in
    let same : report items ≡ report ex.items = reports_ignore_service items ex.items unserved in
    let of_items : pairs items ≡ pairs ex.items = sym (pairs_unserved items) ∙ ap pairs unserved ∙ pairs_unserved ex.items in
    let passes : Passes Base (report ex.items) order initial = explained_passes Base ex.items order initial ex.is_run (subst (λ c. IsExplainedOf Base c order initial) (sym ex.has_pairs) ex) in
    subst (λ c. IsExplainedOf Wide c order initial) (of_items ∙ ex.has_pairs)
    (passing_is_explained Wide items order initial run (subst (λ r. Passes Wide r order initial) (sym same)
    (record { faultless = faultless_wide ex.items order ex.is_run passes.faultless; fits_image = passes.fits_image; reads = passes.reads })))

-- a reader, held to the profile
abbrev pub rest_in : Profile → Rest → Rest
rest_in q rest = record { bytes = rest.bytes; since = with_profile q rest.since }

abbrev pub reader_in : Profile → Reader → Reader
reader_in q reader = record { core = with_profile q reader.core; rests = record { client = rest_in q reader.rests.client; server = rest_in q reader.rests.server }; messages = reader.messages; known = reader.known }

abbrev pub result_in : Profile → Result Reader WireFault → Result Reader WireFault
result_in q (Ok reader) = Ok (reader_in q reader)
result_in q (Err fault) = Err fault

get_in : (q : Profile) (reader : Reader) (s : Side) → get (reader_in q reader).rests s ≡ rest_in q (get reader.rests s)
get_in q reader s = grind arith

grown_in : (q : Profile) (core : Core) (rest : Rest) (b : ℕ) → rest_with (with_profile q core) (rest_in q rest) b ≡ rest_in q (rest_with core rest b)
grown_in q core rest b = grind arith

settle_in : (q : Profile) (reader : Reader) (s : Side) (rest : Rest) (r : Reading) → settle (reader_in q reader) s (rest_in q rest) r ≡ result_in q (settle reader s rest r)
settle_in q reader s rest r = grind (arith, complete_with)

abbrev grown : Reader → Side → ℕ → Rest
grown reader s b = rest_with reader.core (get reader.rests s) b

pub step_in : (q : Profile) (reader : Reader) (s : Side) (b : ℕ) → Quiet reader.core.phase s (grown reader s b).bytes → step (reader_in q reader) s b ≡ result_in q (step reader s b)
step_in q reader s b none =
    let same : grown (reader_in q reader) s b ≡ rest_in q (grown reader s b) = ap (λ r. rest_with (with_profile q reader.core) r b) (get_in q reader s) ∙ grown_in q reader.core (get reader.rests s) b in
    ap (λ (r : Rest). settle (reader_in q reader) s r (judge r.since (with_profile q reader.core) s r.bytes)) same
    ∙ ap (settle (reader_in q reader) s (rest_in q (grown reader s b))) (reading_in q reader.core.phase (grown reader s b).since reader.core s (grown reader s b).bytes none)
    ∙ settle_in q reader s (grown reader s b) (judge (grown reader s b).since reader.core s (grown reader s b).bytes)

quiet_here : (reader : Reader) (p : Pair) (ps : List Pair) → NothingFrom reader (p ∷ ps) → Quiet reader.core.phase p.from (grown reader p.from p.byte).bytes
quiet_here reader p ps none e h =
    none [] ps p.byte reader (λ i. record { from = e i; byte = p.byte } ∷ ps) refl (subst (λ u. IsParting reader.core.phase (grown reader u p.byte).bytes) e h)

nothing_on : (reader next : Reader) (p : Pair) (ps : List Pair) → step reader p.from p.byte ≡ Ok next → NothingFrom reader (p ∷ ps) → NothingFrom next ps
nothing_on reader next p ps e none before more b mid is read =
    none (p ∷ before) more b mid (ap (λ l. p ∷ l) is) (ap (λ o. on_ok o (λ next. reads next before)) e ∙ read)

reads_in : (q : Profile) (ps : List Pair) (reader : Reader) → NothingFrom reader ps → reads (reader_in q reader) ps ≡ result_in q (reads reader ps)
reads_in q [] reader none = refl
reads_in q (p ∷ ps) reader none = ap (λ o. on_ok o (λ next. reads next ps)) (step_in q reader p.from p.byte (quiet_here reader p ps none))
    ∙ go (step reader p.from p.byte) (λ next e. reads_in q ps next (nothing_on reader next p ps e none))
  where
    go : (r : Result Reader WireFault) → ((next : Reader) → r ≡ Ok next → reads (reader_in q next) ps ≡ result_in q (reads next ps)) →
        on_ok (result_in q r) (λ next. reads next ps) ≡ result_in q (on_ok r (λ next. reads next ps))
    go r h = grind arith

pub nothing_before : (reader : Reader) (ps more : List Pair) → NothingFrom reader (ps ++ more) → NothingFrom reader ps
nothing_before reader ps more none before rest b mid is = none before (rest ++ more) b mid (ap (λ l. l ++ more) is ∙ append_assoc before (record { from = Server; byte = b } ∷ rest) more)

-- with what was read, held to the profile
pub under_way_in : (p q : Profile) (ps : List Pair) (messages : List Message) → NothingParts p ps → (u : IsUnderWayOf p ps messages) → (v : IsUnderWayOf q ps messages) × (v.end ≡ reader_in q u.end)
under_way_in p q ps messages none u =
    (record { are_pairs = u.are_pairs; end = reader_in q u.end; reads_it = reads_in q ps (fresh_of p) none ∙ ap (result_in q) u.reads_it; has_messages = u.has_messages }, refl)

pub under_way_agrees : UnderWayAgrees
under_way_agrees p q ps messages none u = (under_way_in p q ps messages none u).0

pub places_agree : PlacesAgree
places_agree p q ps messages fault none place =
    let nothing : NothingFrom (fresh_of p) (place.prefix ++ place.last ∷ []) = subst (NothingFrom (fresh_of p)) place.parts none in
    record {
      are_pairs = place.are_pairs;
      prefix = place.prefix;
      last = place.last;
      parts = place.parts;
      before = record {
        are_pairs = place.before.are_pairs;
        end = reader_in q place.before.end;
        reads_it = reads_in q place.prefix (fresh_of p) (nothing_before (fresh_of p) place.prefix (place.last ∷ []) nothing) ∙ ap (result_in q) place.before.reads_it;
        has_messages = place.before.has_messages;
      };
      refused = step_in q place.before.end place.last.from place.last.byte
          (λ e h. nothing place.prefix [] place.last.byte place.before.end (λ i. place.prefix ++ record { from = e i; byte = place.last.byte } ∷ []) place.before.reads_it
          (subst (λ u. IsParting place.before.end.core.phase (grown place.before.end u place.last.byte).bytes) e h))
          ∙ ap (result_in q) place.refused;
    }

-- what completes in a run of the one profile may do so in the other
module _ (p q : Profile) where
  -- one more byte, and what the reader makes of it
  read_more : (done : List Pair) (s : Side) (b : ℕ) (reader next : Reader) → reads (fresh_of p) done ≡ Ok reader → step reader s b ≡ Ok next → reads (fresh_of p) (done ++ record { from = s; byte = b } ∷ []) ≡ Ok next
  read_more done s b reader next e f = reads-append (fresh_of p) done _ ∙ ap (λ o. on_ok o (λ next. reads next (record { from = s; byte = b } ∷ []))) e ∙ ap (λ o. on_ok o (λ next. Ok next)) f

  are_more : (done : List Pair) (s : Side) (b : ℕ) → ArePairs done → b < 256 → ArePairs (done ++ record { from = s; byte = b } ∷ [])
  are_more [] s b are l = (l, tt)
  are_more (x ∷ done) s b are l = (are.0, are_more done s b are.1 l)

  carries : {o : Both Open} {items : List Item} (w : Walk ⊥ o items) (reader : Reader) (js : List Entry) (done : List Pair) → reads (fresh_of p) done ≡ Ok reader → ArePairs done → ArePairs (pairs items) →
      NothingFrom (fresh_of p) (done ++ pairs items) → Obeys (record { core = reader.core; served = js }) items → AreInStep reader o → Carries q reader.core items
  carries (ended c d) reader js done e are lt none ob st = tt
  carries (serving k w) reader js done e are lt none ob st = carries w reader _ done e are lt none ob.1 st
  carries {o} (opening s m b left {items = items} is f g w) reader js done e are lt none ob st =
      let i : InStep reader.core (grown reader s b) s (Busy m left) = within_opening reader.core (get reader.rests s) s m b left (subst (InStep reader.core (get reader.rests s) s) is (st s)) f g ob.0.0 ob.0.1 ob.0.2 in
      let end = completes_later w reader.core (follows items (record { core = reader.core; served = js }) ob.1.1) (each_with IsSidedOpen o s (Busy m left) (in_step_sided reader o st) ob.0.0) s m left (get-put_same o s (Busy m left)) in
      let j = judged_more exact reader.core (grown reader s b) s m left i end (kept_next reader.core s (get reader.rests s) b lt.0 (reads_held sound done (fresh_of p) reader are (fresh_held) e s)) in
      carries w (with_byte reader s b) js (done ++ record { from = s; byte = b } ∷ []) (read_more done s b reader (with_byte reader s b) e (ap (settle reader s (grown reader s b)) j)) (are_more done s b are lt.0) lt.1
      (subst (NothingFrom (fresh_of p)) (sym (append_assoc done (record { from = s; byte = b } ∷ []) (pairs items))) none) ob.1.1 (in_step_with reader o s (grown reader s b) (Busy m left) st i)
  carries {o} (middle s m b left {items = items} is g w) reader js done e are lt none ob st =
      let i0 : InStep reader.core (get reader.rests s) s (Busy m (b ∷ left)) = subst (InStep reader.core (get reader.rests s) s) is (st s) in
      let i : InStep reader.core (grown reader s b) s (Busy m left) = within_middle reader.core (get reader.rests s) s m b left i0 g in
      let end = completes_later w reader.core (follows items (record { core = reader.core; served = js }) ob.1) (each_with IsSidedOpen o s (Busy m left) (in_step_sided reader o st) i0.0.sided) s m left (get-put_same o s (Busy m left)) in
      let j = judged_more exact reader.core (grown reader s b) s m left i end (kept_next reader.core s (get reader.rests s) b lt.0 (reads_held sound done (fresh_of p) reader are (fresh_held) e s)) in
      carries w (with_byte reader s b) js (done ++ record { from = s; byte = b } ∷ []) (read_more done s b reader (with_byte reader s b) e (ap (settle reader s (grown reader s b)) j)) (are_more done s b are lt.0) lt.1
      (subst (NothingFrom (fresh_of p)) (sym (append_assoc done (record { from = s; byte = b } ∷ []) (pairs items))) none) ob.1 (in_step_with reader o s (grown reader s b) (Busy m left) st i)
  carries {o} (final s m b {items = items} is w) reader js done e are lt none ob st =
      let i0 : InStep reader.core (get reader.rests s) s (Busy m (b ∷ [])) = subst (InStep reader.core (get reader.rests s) s) is (st s) in
      let k = kept_next reader.core s (get reader.rests s) b lt.0 (reads_held sound done (fresh_of p) reader are (fresh_held) e s) in
      let j = judged_whole exact reader.core (get reader.rests s) s m b i0 ob.1.0.0 k in
      let r : Rest = grown (reader_in q reader) s b in
      let same : r ≡ rest_in q (grown reader s b) = ap (λ x. rest_with (with_profile q reader.core) x b) (get_in q reader s) ∙ grown_in q reader.core (get reader.rests s) b in
      let quiet : Quiet reader.core.phase s (grown reader s b).bytes =
      λ t h. none done (pairs items) b reader (λ i. done ++ record { from = t i; byte = b } ∷ pairs items) e (subst (λ u. IsParting reader.core.phase (grown reader u b).bytes) t h) in
      let jq : judge r.since (with_profile q reader.core) s r.bytes ≡ Whole m =
      ap (λ (x : Rest). judge x.since (with_profile q reader.core) s x.bytes) same ∙ reading_in q reader.core.phase (grown reader s b).since reader.core s (grown reader s b).bytes quiet ∙ j in
      let before : NothingFrom (fresh_of p) done = nothing_before (fresh_of p) done (record { from = s; byte = b } ∷ pairs items) none in
      let held = reads_held sound done (fresh_of q) (reader_in q reader) are (fresh_held) (reads_in q done (fresh_of p) before ∙ ap (result_in q) e) in
      let fit = sound r.since (with_profile q reader.core) s r.bytes m (kept_next (with_profile q reader.core) s (get (reader_in q reader).rests s) b lt.0 (held s)) jq in (
        fit.completes,
        carries w _ js (done ++ record { from = s; byte = b } ∷ []) (read_more done s b reader _ e (ap (settle reader s (grown reader s b)) j)) (are_more done s b are lt.0) lt.1
            (subst (NothingFrom (fresh_of p)) (sym (append_assoc done (record { from = s; byte = b } ∷ []) (pairs items))) none) ob.1.1 (in_step_completed reader o s m (grown reader s b) st i0.0.sided ob.1.0.0),
      )
  carries (loose s b absent is w) reader js done e are lt none ob st = absurd absent

pub runs_agree : RunsAgree
runs_agree p q items are none run = (
  canon (start_of q).core items,
  canonical_run q items (walk_of run) (follows_with q items (start_of p).core (follows items (start_of p) run.obeys) (carries p q (walk_of run) (fresh_of p) [] [] refl tt are none run.obeys (elim [ Client ↦ refl | Server ↦ refl ]))),
  unserved_canon (start_of q).core items,
)

pub dues_agree : DuesAgree
dues_agree p q profile items k x run once = due_at_once p items run once k x ∙ sym (due_at_once q items run once k x)
