-- What is decided of a message does not change as its bytes come, nor where the other side's
-- messages complete meanwhile.
use Rattle.nbd_laws.proofs.Common.{magic_fault, WireFault, if◌then◌else◌, and_from, ◌≡◌, ℕ, zero, suc, ◌+◌, ◌<◌, ◌≤◌, ◌==◌, List, [], ◌∷◌, ◌++◌, length, refl, sym, ◌∙◌, ap, subst, Option, Some, None, Bool, true, false, ◌&&◌, eq-eqb, nat_le, arith, length-append, le-leb, lt-leb, SIMPLE_MAGIC, CHUNK_MAGIC, EXTENDED_CHUNK_MAGIC, EXTENDED_REQUEST_MAGIC, GREETING_MAGIC, OPTION_MAGIC, ANSWER_MAGIC, REQUEST_MAGIC, Side, Client, Server, number_at-append, is_proper_option, turn, takes_contexts, number_at, Operation, Exporting, has, Phase, Greet, Flags, Choosing, Naming, Aborting, Answering, Transmission, Core, operation, BadMagic, Decision, abort_answer, answer, choice, client_flags, export_answer, greeting, begins, chunk_to, operation_of, reply_in, request_by, simple_to, answer_head_fault, abort_fault, answer_fault, client_flags_fault, export_fault, greeting_fault, decision, request_fault, request_payload_length, chunk_head_fault, Selection, Profile}
use Rattle.nbd_laws.proofs.{judge.{DecideLemmas.{no_reply, reply_by, extended_reply_by, short_request, extended_request, request_unless}, WholeLemmas.magic_of, PhaseLemmas.{IsAppended, Later-appended, Later-extended, Later-disconnected, Later-transmission, Later-turn, target_entry}}, reading.ReaderLemmas.Later}
use Rattle.nbd_wire.specs.declared.handshake.TheConstants as handshake

-- the same of a message's head and length
pub record IsSameHead (c d : Decision) : Type 0 where
  pub head_length_is : d.head_length ≡ c.head_length
  pub head_fault_is : d.head_fault ≡ c.head_fault
  pub payload_length_is : d.payload_length ≡ c.payload_length

-- decisions that go on as they began: after `now` and these bytes
pub record IsSteady (s : Side) (now : Core) (F : Core → List ℕ → Decision) : Type 0 where
  pub two : (bytes : List ℕ) → 2 ≤ (F now bytes).head_length
  pub below : (next : Core) → Later s now next → (bytes more : List ℕ) → length (bytes ++ more) < (F now bytes).head_length → (F next (bytes ++ more)).head_length ≡ (F now bytes).head_length
  pub grows : (next : Core) → Later s now next → (bytes more : List ℕ) → (F now bytes).head_length ≤ (F next (bytes ++ more)).head_length
  pub beyond : (next : Core) → Later s now next → (bytes more : List ℕ) → (F now bytes).head_length ≤ length bytes → (F now bytes).head_fault ≡ None → IsSameHead (F now bytes) (F next (bytes ++ more))
  pub back : (next : Core) → Later s now next → (bytes more : List ℕ) → (F now bytes).head_length ≤ length bytes → (F next (bytes ++ more)).head_fault ≡ None → (F now bytes).head_fault ≡ None

-- a side's decisions from its first byte on
pub record IsDeciding (s : Side) (old : Core) : Type 0 where
  pub F : Core → List ℕ → Decision
  pub decides : (now : Core) → Later s old now → (bytes : List ℕ) → decision now.phase old now s bytes ≡ Some (F now bytes)
  pub steady : (now : Core) → Later s old now → IsSteady s now F
  pub one_message : (now next : Core) (bytes : List ℕ) → (F now bytes).message ≡ (F next bytes).message

fixed_steady : (s : Side) (now : Core) (h : ℕ) (F : Core → List ℕ → Decision) (two : 2 ≤ h) → ((c : Core) (bytes : List ℕ) → (F c bytes).head_length ≡ h) →
    ((c d : Core) (bytes more : List ℕ) → h ≤ length bytes → IsSameHead (F c bytes) (F d (bytes ++ more))) → IsSteady s now F
fixed_steady s now h F two is same = grind arith

-- in negotiation nothing completes meanwhile, and a head has one length
in_negotiation : (s : Side) (old : Core) (h : ℕ) (G : List ℕ → Decision) → turn old.phase ≡ Some s → ((bytes : List ℕ) → decision old.phase old old s bytes ≡ Some (G bytes)) → 2 ≤ h → ((bytes : List ℕ) → (G bytes).head_length ≡ h) →
    ((bytes more : List ℕ) → h ≤ length bytes → IsSameHead (G bytes) (G (bytes ++ more))) → IsDeciding s old
in_negotiation s old h G t d two is same = record {
  F = λ c. G;
  decides = λ now l bytes. subst (λ (c : Core). decision c.phase old c s bytes ≡ Some (G bytes)) (Later-turn l t) (d bytes);
  steady = λ now l. fixed_steady s now h (λ c. G) two (λ c. is) (λ c d. same);
  one_message = λ now next bytes. refl;
}

at : (p n h : ℕ) (bytes more : List ℕ) → h ≤ length bytes → p + n ≤ h → number_at p n (bytes ++ more) ≡ number_at p n bytes
at p n h bytes more long fits = number_at-append p n bytes more (omega (arith, long, fits))

-- what a decision says of the head
abbrev of_head : Decision → ℕ × Option WireFault × ℕ
of_head d = (d.head_length, d.head_fault, d.payload_length)

same_by : (c d : Decision) → of_head d ≡ of_head c → IsSameHead c d
same_by c d e = record { head_length_is = ap (λ x. x.0) e; head_fault_is = ap (λ x. x.1) e; payload_length_is = ap (λ x. x.2) e }

greeting_same : (bytes more : List ℕ) → 18 ≤ length bytes → IsSameHead (greeting bytes) (greeting (bytes ++ more))
greeting_same bytes more l = same_by _ _ (λ i. (18, magic_fault ((at 0 8 18 bytes more l (omega arith) i == GREETING_MAGIC) && (at 8 8 18 bytes more l (omega arith) i == OPTION_MAGIC)) (greeting_fault (at 16 2 18 bytes more l (omega arith) i)), 0))

client_flags_same : (offered : ℕ) (bytes more : List ℕ) → 4 ≤ length bytes → IsSameHead (client_flags offered bytes) (client_flags offered (bytes ++ more))
client_flags_same offered bytes more l = same_by _ _ (λ i. (4, magic_fault (true) (client_flags_fault offered (at 0 4 4 bytes more l (omega arith) i)), 0))

choice_same : (bytes more : List ℕ) → 16 ≤ length bytes → IsSameHead (choice bytes) (choice (bytes ++ more))
choice_same bytes more l = same_by _ _ (λ i. (16, magic_fault (at 0 8 16 bytes more l (omega arith) i == OPTION_MAGIC) (None), at 12 4 16 bytes more l (omega arith) i))

exported_same : (no_zeroes : Bool) (bytes more : List ℕ) → 10 ≤ length bytes → IsSameHead (export_answer no_zeroes bytes) (export_answer no_zeroes (bytes ++ more))
exported_same no_zeroes bytes more l = same_by _ _ (λ i. (10, magic_fault true (export_fault (at 0 8 10 bytes more l (omega arith) i) (at 8 2 10 bytes more l (omega arith) i)), if no_zeroes then 0 else 124))

abort_same : (bytes more : List ℕ) → 20 ≤ length bytes → IsSameHead (abort_answer bytes) (abort_answer (bytes ++ more))
abort_same bytes more l = same_by _ _ (λ i. (20, magic_fault (at 0 8 20 bytes more l (omega arith) i == ANSWER_MAGIC) (answer_fault 2 (at 8 4 20 bytes more l (omega arith) i) (abort_fault (at 12 4 20 bytes more l (omega arith) i) (at 16 4 20 bytes more l (omega arith) i))), at 16 4 20 bytes more l (omega arith) i))

answer_same : (profile : Profile) (option : ℕ) (proper takes : Bool) (info : Option Exporting) (selection : Selection) (bytes more : List ℕ) → 20 ≤ length bytes → IsSameHead (answer profile option proper takes info selection bytes) (answer profile option proper takes info selection (bytes ++ more))
answer_same profile option proper takes info selection bytes more l = same_by _ _ (λ i. (20, magic_fault (at 0 8 20 bytes more l (omega arith) i == ANSWER_MAGIC) (answer_head_fault profile option proper takes info (at 8 4 20 bytes more l (omega arith) i) (at 12 4 20 bytes more l (omega arith) i) (at 16 4 20 bytes more l (omega arith) i)), at 16 4 20 bytes more l (omega arith) i))

request_same : (c d : Core) (bytes more : List ℕ) → 28 ≤ length bytes → IsSameHead (short_request c bytes) (short_request d (bytes ++ more))
request_same c d bytes more l = same_by _ _ (λ i. (28, magic_fault (at 0 4 28 bytes more l (omega arith) i == REQUEST_MAGIC) (request_fault false (at 4 2 28 bytes more l (omega arith) i) (at 6 2 28 bytes more l (omega arith) i) (at 16 8 28 bytes more l (omega arith) i) (at 24 4 28 bytes more l (omega arith) i)), request_payload_length false (at 4 2 28 bytes more l (omega arith) i) (at 6 2 28 bytes more l (omega arith) i) (at 24 4 28 bytes more l (omega arith) i)))

extended_same : (c d : Core) (bytes more : List ℕ) → 32 ≤ length bytes → IsSameHead (extended_request c bytes) (extended_request d (bytes ++ more))
extended_same c d bytes more l = same_by _ _ (λ i. (32, magic_fault (at 0 4 32 bytes more l (omega arith) i == EXTENDED_REQUEST_MAGIC) (request_fault true (at 4 2 32 bytes more l (omega arith) i) (at 6 2 32 bytes more l (omega arith) i) (at 16 8 32 bytes more l (omega arith) i) (at 24 8 32 bytes more l (omega arith) i)), request_payload_length true (at 4 2 32 bytes more l (omega arith) i) (at 6 2 32 bytes more l (omega arith) i) (at 24 8 32 bytes more l (omega arith) i)))

-- where no DISC has come, by whether extended headers are in force
requests_are : {old now : Core} (export : Exporting) → Later Client old now → old.phase ≡ Transmission export → old.disconnected ≡ false → (bytes : List ℕ) → decision now.phase old now Client bytes ≡ Some (request_by old.extended now bytes)
requests_are {old} {now} export l t d bytes = grind (arith, Later-transmission, Later-disconnected, Later-extended)

in_requests : (old : Core) (export : Exporting) (x : Bool) → old.phase ≡ Transmission export → old.disconnected ≡ false → old.extended ≡ x → IsDeciding Client old
in_requests old export false t d is = record {
  F = short_request;
  decides = λ now l bytes. requests_are export l t d bytes ∙ ap (λ x. Some (request_by x now bytes)) is;
  steady = λ now l. fixed_steady Client now 28 short_request (omega arith) (λ c bytes. refl) request_same;
  one_message = λ now next bytes. refl;
}
in_requests old export true t d is = record {
  F = extended_request;
  decides = λ now l bytes. requests_are export l t d bytes ∙ ap (λ x. Some (request_by x now bytes)) is;
  steady = λ now l. fixed_steady Client now 32 extended_request (omega arith) (λ c bytes. refl) extended_same;
  one_message = λ now next bytes. refl;
}

pub entry-append : (k : ℕ) (es more : List Operation) (e : Operation) → operation k es ≡ Some e → operation k (es ++ more) ≡ Some e
entry-append k [] more e h = absurd (cc)
entry-append zero (x ∷ es) more e h = absurd (cc)
entry-append (suc zero) (x ∷ es) more e h = h
entry-append (suc (suc k)) (x ∷ es) more e h = entry-append (suc k) es more e h

pub begun_true : (magic : ℕ) (bytes more : List ℕ) → begins magic bytes ≡ true → begins magic (bytes ++ more) ≡ true
begun_true magic bytes more e =
    let m : (4 ≤ length bytes) × (number_at 0 4 bytes ≡ magic) = magic_of magic bytes e in
    let long : 4 ≤ length bytes = m.0 in
    and_from _ _ (le-leb 4 (length (bytes ++ more)) (omega (arith, long, length-append bytes more))) (eq-eqb _ _ (at 0 4 4 bytes more long (omega arith) ∙ m.1))

-- what begins as a simple reply does not begin as a chunk
pub no_chunk : (bytes : List ℕ) → begins SIMPLE_MAGIC bytes ≡ true → begins CHUNK_MAGIC bytes ≡ false
no_chunk bytes e = grind (arith, magic_of, le-leb)

-- which of the three a reply's bytes are
pub data IsBegun (bytes : List ℕ) : Type 0 where
  as_chunk : begins CHUNK_MAGIC bytes ≡ true → IsBegun bytes
  as_simple : begins CHUNK_MAGIC bytes ≡ false → begins SIMPLE_MAGIC bytes ≡ true → IsBegun bytes
  as_neither : begins CHUNK_MAGIC bytes ≡ false → begins SIMPLE_MAGIC bytes ≡ false → IsBegun bytes

pub bytes_are_begun : (bytes : List ℕ) → IsBegun bytes
bytes_are_begun bytes = grind (arith, as_chunk, as_simple, as_neither)

-- a reply without an extended header, by what had completed before its first byte
abbrev pub short_reply : Exporting → (old now : Core) → List ℕ → Decision
short_reply export old now bytes = reply_in false export now (operation_of old now (number_at 8 8 bytes)) bytes

module _ (export : Exporting) (old now : Core) (bytes : List ℕ) where
  pub is_chunk_reply : begins CHUNK_MAGIC bytes ≡ true → short_reply export old now bytes ≡ chunk_to false export now (operation_of old now (number_at 8 8 bytes)) bytes
  is_chunk_reply c = ap (λ b. reply_by b (begins SIMPLE_MAGIC bytes) export now (operation_of old now (number_at 8 8 bytes)) bytes) c

  pub is_simple_reply : begins CHUNK_MAGIC bytes ≡ false → begins SIMPLE_MAGIC bytes ≡ true → short_reply export old now bytes ≡ simple_to export now (operation_of old now (number_at 8 8 bytes)) bytes
  is_simple_reply c s = λ i. reply_by (c i) (s i) export now (operation_of old now (number_at 8 8 bytes)) bytes

  pub is_no_reply : begins CHUNK_MAGIC bytes ≡ false → begins SIMPLE_MAGIC bytes ≡ false → short_reply export old now bytes ≡ no_reply bytes
  is_no_reply c s = λ i. reply_by (c i) (s i) export now (operation_of old now (number_at 8 8 bytes)) bytes

reply_two : (chunk simple : Bool) (export : Exporting) (now : Core) (o : Option Operation) (bytes : List ℕ) → 4 ≤ (reply_by chunk simple export now o bytes).head_length
reply_two chunk simple export now o bytes = grind arith

module _ (export : Exporting) (old now next : Core) (bytes more : List ℕ) where
  reply_below : IsBegun bytes → length (bytes ++ more) < (short_reply export old now bytes).head_length → (short_reply export old next (bytes ++ more)).head_length ≡ (short_reply export old now bytes).head_length
  reply_below h l = grind (arith, is_chunk_reply, begun_true, is_simple_reply, no_chunk, is_no_reply, lt-leb)

  reply_grows : IsBegun bytes → (short_reply export old now bytes).head_length ≤ (short_reply export old next (bytes ++ more)).head_length
  reply_grows h = grind (arith, is_chunk_reply, begun_true, is_simple_reply, no_chunk, is_no_reply, reply_two)

  -- the request that is answered stays as it is
  same_entry : IsAppended now next → 16 ≤ length bytes → (e : Operation) → operation_of old now (number_at 8 8 bytes) ≡ Some e → operation_of old next (number_at 8 8 (bytes ++ more)) ≡ Some e
  same_entry a l e h = ap (operation_of old next) (at 8 8 16 bytes more l (omega arith)) ∙ (grind (arith, entry-append))

  reply_beyond : IsAppended now next → IsBegun bytes → (short_reply export old now bytes).head_length ≤ length bytes → (short_reply export old now bytes).head_fault ≡ None → IsSameHead (short_reply export old now bytes) (short_reply export old next (bytes ++ more))
  reply_beyond a h l clean = grind (arith, is_chunk_reply, begun_true, at, same_entry, is_simple_reply, no_chunk, is_no_reply)

module _ (export : Exporting) (old now next : Core) (bytes more : List ℕ) where
  abbrev cookie_now : ℕ
  cookie_now = number_at 8 8 bytes

  abbrev cookie_next : ℕ
  cookie_next = number_at 8 8 (bytes ++ more)

  still_none : IsAppended old now → 16 ≤ length bytes → operation_of old now cookie_now ≡ None → operation_of old next cookie_next ≡ None
  still_none a long h = ap (operation_of old next) (at 8 8 16 bytes more long (omega arith)) ∙ (grind (arith, target_entry, entry-append))

  reply_back : IsAppended old now → IsAppended now next → IsBegun bytes → (short_reply export old now bytes).head_length ≤ length bytes → (short_reply export old next (bytes ++ more)).head_fault ≡ None → (short_reply export old now bytes).head_fault ≡ None
  reply_back a b (as_chunk c) l clean = grind (arith, is_chunk_reply, begun_true, same_entry, still_none)
  reply_back a b (as_simple c s) l clean =
      let s' : begins SIMPLE_MAGIC (bytes ++ more) ≡ true = begun_true SIMPLE_MAGIC bytes more s in
      let now_is : short_reply export old now bytes ≡ simple_to export now (operation_of old now cookie_now) bytes = is_simple_reply export old now bytes c s in
      let next_is : short_reply export old next (bytes ++ more) ≡ simple_to export next (operation_of old next cookie_next) (bytes ++ more) = is_simple_reply export old next (bytes ++ more) (no_chunk (bytes ++ more) s') s' in
      let long : 16 ≤ length bytes = subst (λ (d : Decision). d.head_length ≤ length bytes) now_is l in
      ap (λ (d : Decision). d.head_fault) now_is
      ∙ (grind (arith, at, operation_of old now cookie_now, operation_of old next cookie_next, same_entry export old now next bytes more b long, still_none a long, b.structured_is, sym (ap (λ (d : Decision). d.head_fault) next_is) ∙ clean))
  reply_back a b (as_neither c s) l clean = grind (arith, is_no_reply, nat_le, le-leb, length-append, at)

-- a reply where extended headers are in force
abbrev pub long_reply : Exporting → (old now : Core) → List ℕ → Decision
long_reply export old now bytes = reply_in true export now (operation_of old now (number_at 8 8 bytes)) bytes

-- whether a reply's bytes begin as such a chunk
pub data IsExtendedOrNot (bytes : List ℕ) : Type 0 where
  as_extended : begins EXTENDED_CHUNK_MAGIC bytes ≡ true → IsExtendedOrNot bytes
  as_other : begins EXTENDED_CHUNK_MAGIC bytes ≡ false → IsExtendedOrNot bytes

pub extended_or_not : (bytes : List ℕ) → IsExtendedOrNot bytes
extended_or_not bytes = grind (arith, as_extended, as_other)

module _ (export : Exporting) (old now : Core) (bytes : List ℕ) where
  pub is_extended_reply : begins EXTENDED_CHUNK_MAGIC bytes ≡ true → long_reply export old now bytes ≡ chunk_to true export now (operation_of old now (number_at 8 8 bytes)) bytes
  is_extended_reply c = ap (λ b. extended_reply_by b export now (operation_of old now (number_at 8 8 bytes)) bytes) c

  pub is_no_extended : begins EXTENDED_CHUNK_MAGIC bytes ≡ false → long_reply export old now bytes ≡ no_reply bytes
  is_no_extended c = ap (λ b. extended_reply_by b export now (operation_of old now (number_at 8 8 bytes)) bytes) c

long_two : (chunk : Bool) (export : Exporting) (now : Core) (o : Option Operation) (bytes : List ℕ) → 4 ≤ (extended_reply_by chunk export now o bytes).head_length
long_two chunk export now o bytes = grind arith

module _ (export : Exporting) (old now next : Core) (bytes more : List ℕ) where
  long_below : IsExtendedOrNot bytes → length (bytes ++ more) < (long_reply export old now bytes).head_length → (long_reply export old next (bytes ++ more)).head_length ≡ (long_reply export old now bytes).head_length
  long_below h l = grind (arith, is_extended_reply, begun_true, is_no_extended, lt-leb)

  long_grows : IsExtendedOrNot bytes → (long_reply export old now bytes).head_length ≤ (long_reply export old next (bytes ++ more)).head_length
  long_grows h = grind (arith, is_extended_reply, begun_true, is_no_extended, long_two)

  extended_beyond : (o o' : Option Operation) → ((e : Operation) → o ≡ Some e → o' ≡ Some e) → next.structured ≡ now.structured → 32 ≤ length bytes → chunk_head_fault true now.structured o (number_at 24 8 bytes) ≡ None →
      IsSameHead (chunk_to true export now o bytes) (chunk_to true export next o' (bytes ++ more))
  extended_beyond None o' same st l clean = grind arith
  extended_beyond (Some e) o' same st l clean = record {
    head_length_is = refl;
    head_fault_is = λ i. chunk_head_fault true (st i) (same e refl i) (at 24 8 32 bytes more l (omega arith) i);
    payload_length_is = at 24 8 32 bytes more l (omega arith);
  }

  long_beyond : IsAppended now next → IsExtendedOrNot bytes → (long_reply export old now bytes).head_length ≤ length bytes → (long_reply export old now bytes).head_fault ≡ None → IsSameHead (long_reply export old now bytes) (long_reply export old next (bytes ++ more))
  long_beyond a (as_extended c) l clean =
      let now_is : long_reply export old now bytes ≡ chunk_to true export now (operation_of old now (number_at 8 8 bytes)) bytes = is_extended_reply export old now bytes c in
      let long : 32 ≤ length bytes = subst (λ (d : Decision). d.head_length ≤ length bytes) now_is l in
      subst (λ d. IsSameHead d (long_reply export old next (bytes ++ more))) (sym now_is)
      (subst (IsSameHead (chunk_to true export now (operation_of old now (number_at 8 8 bytes)) bytes)) (sym (is_extended_reply export old next (bytes ++ more) (begun_true EXTENDED_CHUNK_MAGIC bytes more c)))
      (extended_beyond (operation_of old now (number_at 8 8 bytes)) (operation_of old next (number_at 8 8 (bytes ++ more))) (same_entry export old now next bytes more a (omega (arith, long))) a.structured_is long (subst (λ (d : Decision). d.head_fault ≡ None) now_is clean)))
  long_beyond a (as_other c) l clean = absurd (let q : Some BadMagic ≡ None = subst (λ (d : Decision). d.head_fault ≡ None) (is_no_extended export old now bytes c) clean in (cc))

  extended_back : (o o' : Option Operation) → ((e : Operation) → o ≡ Some e → o' ≡ Some e) → (o ≡ None → o' ≡ None) → next.structured ≡ now.structured → 32 ≤ length bytes → chunk_head_fault true next.structured o' (number_at 24 8 (bytes ++ more)) ≡ None →
      chunk_head_fault true now.structured o (number_at 24 8 bytes) ≡ None
  extended_back None o' same none st long clean = (λ i. chunk_head_fault true (sym st i) (sym (none refl) i) (sym (at 24 8 32 bytes more long (omega arith)) i)) ∙ clean
  extended_back (Some e) o' same none st long clean = (λ i. chunk_head_fault true (sym st i) (sym (same e refl) i) (sym (at 24 8 32 bytes more long (omega arith)) i)) ∙ clean

  long_back : IsAppended old now → IsAppended now next → IsExtendedOrNot bytes → (long_reply export old now bytes).head_length ≤ length bytes → (long_reply export old next (bytes ++ more)).head_fault ≡ None → (long_reply export old now bytes).head_fault ≡ None
  long_back a b (as_extended c) l clean =
      let now_is : long_reply export old now bytes ≡ chunk_to true export now (operation_of old now (cookie_now export old now next bytes more)) bytes = is_extended_reply export old now bytes c in
      let next_is : long_reply export old next (bytes ++ more) ≡ chunk_to true export next (operation_of old next (cookie_next export old now next bytes more)) (bytes ++ more) = is_extended_reply export old next (bytes ++ more) (begun_true EXTENDED_CHUNK_MAGIC bytes more c) in
      let long : 32 ≤ length bytes = subst (λ (d : Decision). d.head_length ≤ length bytes) now_is l in
      let short : 16 ≤ length bytes = omega (arith, long) in
      ap (λ (d : Decision). d.head_fault) now_is
      ∙ extended_back (operation_of old now (number_at 8 8 bytes)) (operation_of old next (number_at 8 8 (bytes ++ more))) (same_entry export old now next bytes more b short) (still_none export old now next bytes more a short) b.structured_is long (sym (ap (λ (d : Decision). d.head_fault) next_is) ∙ clean)
  long_back a b (as_other c) l clean = grind (arith, is_no_extended, nat_le, le-leb, length-append, at)

-- by whether extended headers are in force
replies_are : {old now : Core} (export : Exporting) → Later Server old now → old.phase ≡ Transmission export → (bytes : List ℕ) →
    decision now.phase old now Server bytes ≡ Some (reply_in old.extended export now (operation_of old now (number_at 8 8 bytes)) bytes)
replies_are {old} {now} export l t bytes =
    ap (λ p. decision p old now Server bytes) (Later-transmission l export t)
    ∙ ap (λ x. Some (reply_in x export now (operation_of old now (number_at 8 8 bytes)) bytes)) (Later-extended l export t)

one_long : (chunk : Bool) (export : Exporting) (now next : Core) (o o' : Option Operation) (bytes : List ℕ) → (extended_reply_by chunk export now o bytes).message ≡ (extended_reply_by chunk export next o' bytes).message
one_long chunk export now next o o' bytes = grind arith

in_replies : (old : Core) (export : Exporting) (x : Bool) → old.phase ≡ Transmission export → old.extended ≡ x → IsDeciding Server old
in_replies old export false t is = record {
  F = short_reply export old;
  decides = λ now l bytes. replies_are export l t bytes ∙ ap (λ x. Some (reply_in x export now (operation_of old now (number_at 8 8 bytes)) bytes)) is;
  steady = λ now l. record {
    two = λ bytes. (let h : 4 ≤ (short_reply export old now bytes).head_length = reply_two (begins CHUNK_MAGIC bytes) (begins SIMPLE_MAGIC bytes) export now (operation_of old now (number_at 8 8 bytes)) bytes in omega (arith, h));
    below = λ next k bytes more low. reply_below export old now next bytes more (bytes_are_begun bytes) low;
    grows = λ next k bytes more. reply_grows export old now next bytes more (bytes_are_begun bytes);
    beyond = λ next k bytes more long clean. reply_beyond export old now next bytes more (Later-appended k export (Later-transmission l export t)) (bytes_are_begun bytes) long clean;
    back = λ next k bytes more long clean. reply_back export old now next bytes more (Later-appended l export t) (Later-appended k export (Later-transmission l export t)) (bytes_are_begun bytes) long clean;
  };
  one_message = λ now next bytes. (grind arith);
}
in_replies old export true t is = record {
  F = long_reply export old;
  decides = λ now l bytes. replies_are export l t bytes ∙ ap (λ x. Some (reply_in x export now (operation_of old now (number_at 8 8 bytes)) bytes)) is;
  steady = λ now l. record {
    two = λ bytes. (let h : 4 ≤ (long_reply export old now bytes).head_length = long_two (begins EXTENDED_CHUNK_MAGIC bytes) export now (operation_of old now (number_at 8 8 bytes)) bytes in omega (arith, h));
    below = λ next k bytes more low. long_below export old now next bytes more (extended_or_not bytes) low;
    grows = λ next k bytes more. long_grows export old now next bytes more (extended_or_not bytes);
    beyond = λ next k bytes more long clean. long_beyond export old now next bytes more (Later-appended k export (Later-transmission l export t)) (extended_or_not bytes) long clean;
    back = λ next k bytes more long clean. long_back export old now next bytes more (Later-appended l export t) (Later-appended k export (Later-transmission l export t)) (extended_or_not bytes) long clean;
  };
  one_message = λ now next bytes. one_long (begins EXTENDED_CHUNK_MAGIC bytes) export now next (operation_of old now (number_at 8 8 bytes)) (operation_of old next (number_at 8 8 bytes)) bytes;
}

by_disconnected : (old : Core) (export : Exporting) (b : Bool) (bytes : List ℕ) (d : Decision) → old.phase ≡ Transmission export → old.disconnected ≡ b → request_unless b old bytes ≡ Some d → IsDeciding Client old
by_disconnected old export b bytes d t is h = grind (arith, in_requests)

-- where something is decided of a side's bytes, it goes on as it began
pub deciding : (phase : Phase) (s : Side) (old : Core) (bytes : List ℕ) (d : Decision) → old.phase ≡ phase → decision phase old old s bytes ≡ Some d → IsDeciding s old
deciding Greet Server old bytes d p h = in_negotiation Server old 18 greeting (ap turn p) (λ bytes. ap (λ p. decision p old old Server bytes) p) (omega arith) (λ bytes. refl) greeting_same
deciding Flags Client old bytes d p h = in_negotiation Client old 4 (client_flags old.offered) (ap turn p) (λ bytes. ap (λ p. decision p old old Client bytes) p) (omega arith) (λ bytes. refl) (client_flags_same old.offered)
deciding Choosing Client old bytes d p h = in_negotiation Client old 16 choice (ap turn p) (λ bytes. ap (λ p. decision p old old Client bytes) p) (omega arith) (λ bytes. refl) choice_same
deciding Naming Server old bytes d p h =
    in_negotiation Server old 10 (export_answer (has old.client_flags handshake.C_NO_ZEROES)) (ap turn p) (λ bytes. ap (λ p. decision p old old Server bytes) p) (omega arith) (λ bytes. (grind arith)) (exported_same (has old.client_flags handshake.C_NO_ZEROES))
deciding Aborting Server old bytes d p h = in_negotiation Server old 20 abort_answer (ap turn p) (λ bytes. ap (λ p. decision p old old Server bytes) p) (omega arith) (λ bytes. refl) abort_same
deciding (Answering option given info) Server old bytes d p h =
    in_negotiation Server old 20 (answer old.profile option (is_proper_option option given) (takes_contexts option given) info old.selection) (ap turn p) (λ bytes. ap (λ p. decision p old old Server bytes) p)
    (omega arith) (λ bytes. refl) (answer_same old.profile option (is_proper_option option given) (takes_contexts option given) info old.selection)
deciding (Transmission export) Client old bytes d p h = by_disconnected old export old.disconnected bytes d p refl h
deciding (Transmission export) Server old bytes d p h = in_replies old export old.extended p refl
deciding phase s old bytes d p h = absurd (cc)
