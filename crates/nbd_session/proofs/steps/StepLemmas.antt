-- What a session holds after one more piece, and after one more message.
use Rattle.nbd_session.proofs.Common.{arith, ◌≡◌, ℕ, ◌≤◌, List, [], ◌∷◌, ◌++◌, length, refl, sym, ◌∙◌, ap, subst, Err, Some, Side, Client, Server, Message, AreBytes, Pair, ArePairs, side_pairs, Core, WireFault, awaited_length, decision_by_count, judge, decision, Reader, Rest, Reading, More, Whole, Bad, get, put, reads, fresh_of, old_of, settle, on_ok, IsFilled, IsSoundAt, AreHeld, reads_held, old-empty, old-filled, Holding, IsReadTo, Past, completed, rest_of, with_more, with_bytes, count_at_server, reads_up_to, judged_at_once, extended, reads-append, fresh_held, sound}
use Rattle.nbd_session.proofs.{reports.CountLemmas.{held_counted, count_of}, steps.TakeLemmas.kept_more}
use Rattle.nbd_wire.specs.Prelude.{with_message as read_with}

-- with a message of a side whose bytes were its rest
abbrev pub with_message : Holding → Side → Message → Holding
with_message h Client m = record h { past = completed h.past (Some m); client = [] }
with_message h Server m = record h { past = completed h.past (Some m); server = [] }

pub profile_message : (h : Holding) (s : Side) (m : Message) → (with_message h s m).profile ≡ h.profile
profile_message h s m = grind arith

pub past_message : (h : Holding) (s : Side) (m : Message) → (with_message h s m).past ≡ completed h.past (Some m)
past_message h s m = grind arith

are_pairs-append : (ps qs : List Pair) → ArePairs ps → ArePairs qs → ArePairs (ps ++ qs)
are_pairs-append [] qs a b = b
are_pairs-append (p ∷ ps) qs a b = (a.0, are_pairs-append ps qs a.1 b)

are_pairs-sent : (s : Side) (bytes : List ℕ) → AreBytes bytes → ArePairs (side_pairs s bytes)
are_pairs-sent s [] a = tt
are_pairs-sent s (b ∷ bytes) a = (a.0, are_pairs-sent s bytes a.1)

-- what the reader has read is held as it keeps it
pub held_of : (h : Holding) (reader : Reader) → IsReadTo h reader → AreHeld reader
held_of h reader r = reads_held sound h.past.pairs (fresh_of h.profile) reader r.are_pairs (fresh_held) r.reads_it

-- the reader's rest of a side, with these bytes after it
module _ (h : Holding) (reader : Reader) (r : IsReadTo h reader) (s : Side) (more : List ℕ) (filled : IsFilled more) (bytes : AreBytes more)
    (up_to : length ((get reader.rests s).bytes ++ more) ≤ awaited_length (old_of reader.core (get reader.rests s)) reader.core s (get reader.rests s).bytes) where
  abbrev taken : Holding
  taken = with_bytes h s more (length reader.core.entries)

  abbrev rest : Rest
  rest = get reader.rests s

  pub reads_taken : reads (fresh_of h.profile) taken.past.pairs ≡ judged_at_once reader s more
  reads_taken =
      reads-append (fresh_of h.profile) h.past.pairs (side_pairs s more)
      ∙ ap (λ o. on_ok o (λ next. reads next (side_pairs s more))) r.reads_it
      ∙ reads_up_to reader s more (held_of h reader r) filled up_to

  pub pairs_taken : ArePairs taken.past.pairs
  pairs_taken = are_pairs-append h.past.pairs (side_pairs s more) r.are_pairs (are_pairs-sent s more bytes)

-- the count at the first byte of the server's rest
pub count_at : (server : List ℕ) (rest : Rest) (core : Core) (counted : ℕ) → rest.bytes ≡ server → (IsFilled server → counted ≡ length rest.since.entries) →
    count_at_server Server server counted (length core.entries) ≡ count_of core rest
count_at server rest core counted e h = grind (arith, old-empty, old-filled)

-- what is decided of a side's bytes, by the count that is held
pub decided_held : (h : Holding) (reader : Reader) (s : Side) → IsReadTo h reader → (bytes : List ℕ) →
    decision reader.core.phase (old_of reader.core (get reader.rests s)) reader.core s bytes
    ≡ decision_by_count (count_at_server s h.server h.counted (length reader.core.entries)) reader.core s bytes
decided_held h reader Client r bytes = grind (arith, held_counted, held_of, count_of, count_at)
decided_held h reader Server r bytes =
    held_counted (held_of h reader r Server) bytes
    ∙ ap (λ n. decision_by_count n reader.core Server bytes) (sym (count_at h.server reader.rests.server reader.core h.counted (r.rests_are Server) r.count_is))

rest_taken : (h : Holding) (reader : Reader) (s u : Side) (more : List ℕ) (entries : ℕ) → IsReadTo h reader →
    (get (put reader.rests s (extended reader.core (get reader.rests s) more)) u).bytes ≡ rest_of (with_bytes h s more entries) u
rest_taken h reader Client Client more entries r = ap (λ l. l ++ more) (r.rests_are Client)
rest_taken h reader Client Server more entries r = r.rests_are Server
rest_taken h reader Server Client more entries r = r.rests_are Client
rest_taken h reader Server Server more entries r = ap (λ l. l ++ more) (r.rests_are Server)

count_taken : (h : Holding) (reader : Reader) (s : Side) (more : List ℕ) → IsReadTo h reader → IsFilled (with_more s Server more h.server) →
    count_at_server s h.server h.counted (length reader.core.entries) ≡ length (get (put reader.rests s (extended reader.core (get reader.rests s) more)) Server).since.entries
count_taken h reader s more r f = grind (arith, count_at)

-- the bytes of a side with more
pub bytes_taken : (h : Holding) (reader : Reader) (s : Side) (more : List ℕ) (entries : ℕ) → IsReadTo h reader → (get reader.rests s).bytes ++ more ≡ rest_of (with_bytes h s more entries) s
bytes_taken h reader s more entries r = grind arith

module _ (h : Holding) (reader : Reader) (r : IsReadTo h reader) (s : Side) (more : List ℕ) (filled : IsFilled more) (bytes : AreBytes more)
    (up_to : length ((get reader.rests s).bytes ++ more) ≤ awaited_length (old_of reader.core (get reader.rests s)) reader.core s (get reader.rests s).bytes) where
  abbrev after : Holding
  after = with_bytes h s more (length reader.core.entries)

  -- what the judge says of the side's bytes with these
  pub says : (reading : Reading) → judge (old_of reader.core (get reader.rests s)) reader.core s (rest_of after s) ≡ reading →
      judge (old_of reader.core (get reader.rests s)) reader.core s ((get reader.rests s).bytes ++ more) ≡ reading
  says reading e = ap (λ l. judge (old_of reader.core (get reader.rests s)) reader.core s l) (bytes_taken h reader s more (length reader.core.entries) r) ∙ e

  settled : (reading : Reading) → judge (old_of reader.core (get reader.rests s)) reader.core s (rest_of after s) ≡ reading →
      reads (fresh_of h.profile) after.past.pairs ≡ settle reader s (extended reader.core (get reader.rests s) more) reading
  settled reading e = reads_taken h reader r s more filled bytes up_to ∙ ap (settle reader s (extended reader.core (get reader.rests s) more)) (says reading e)

  -- more is awaited
  pub more_taken : judge (old_of reader.core (get reader.rests s)) reader.core s (rest_of after s) ≡ More →
      IsReadTo after (record reader { rests = put reader.rests s (extended reader.core (get reader.rests s) more) })
  more_taken e = record {
    are_pairs = pairs_taken h reader r s more filled bytes up_to;
    reads_it = settled More e;
    messages_are = r.messages_are;
    rests_are = λ u. rest_taken h reader s u more (length reader.core.entries) r;
    count_is = count_taken h reader s more r;
  }

  -- the bytes are refused
  pub refused_taken : (fault : WireFault) → judge (old_of reader.core (get reader.rests s)) reader.core s (rest_of after s) ≡ Bad fault →
      reads (fresh_of h.profile) after.past.pairs ≡ Err fault
  refused_taken fault e = settled (Bad fault) e

-- a message's bytes are no longer a rest
rest_message : (h : Holding) (reader : Reader) (s u : Side) (m : Message) (more : List ℕ) (entries : ℕ) → IsReadTo h reader →
    (get (put reader.rests s (record (extended reader.core (get reader.rests s) more) { bytes = [] })) u).bytes ≡ rest_of (with_message (with_bytes h s more entries) s m) u
rest_message h reader Client Client m more entries r = refl
rest_message h reader Client Server m more entries r = r.rests_are Server
rest_message h reader Server Client m more entries r = r.rests_are Client
rest_message h reader Server Server m more entries r = refl

count_message : (h : Holding) (reader : Reader) (s : Side) (m : Message) (more : List ℕ) (entries : ℕ) → IsReadTo h reader → IsFilled (with_message (with_bytes h s more entries) s m).server →
    (with_message (with_bytes h s more entries) s m).counted ≡ length (get (put reader.rests s (record (extended reader.core (get reader.rests s) more) { bytes = [] })) Server).since.entries
count_message h reader s m more entries r f = grind arith

-- what was read once a side's bytes have become this message
abbrev pub reader_behind : Reader → Side → Message → Reader
reader_behind reader s m = read_with reader s (record (get reader.rests s) { since = old_of reader.core (get reader.rests s) }) m

-- what is held of a side whose bytes have become this message
pub record IsWholeTaken (h : Holding) (reader : Reader) (s : Side) (after : Holding) (m : Message) : Type 0 where
  pub at : IsSoundAt (old_of reader.core (get reader.rests s)) reader.core s (rest_of after s) m
  pub read_to : IsReadTo (with_message after s m) (reader_behind reader s m)

module _ (h : Holding) (reader : Reader) (r : IsReadTo h reader) (s : Side) (more : List ℕ) (filled : IsFilled more) (bytes : AreBytes more)
    (up_to : length ((get reader.rests s).bytes ++ more) ≤ awaited_length (old_of reader.core (get reader.rests s)) reader.core s (get reader.rests s).bytes) where
  pub whole_taken : (m : Message) → judge (old_of reader.core (get reader.rests s)) reader.core s (rest_of (after h reader r s more filled bytes up_to) s) ≡ Whole m →
      IsWholeTaken h reader s (after h reader r s more filled bytes up_to) m
  whole_taken m e =
      let held : Holding = after h reader r s more filled bytes up_to in
      let b = bytes_taken h reader s more (length reader.core.entries) r in
      let good : IsSoundAt (old_of reader.core (get reader.rests s)) reader.core s ((get reader.rests s).bytes ++ more) m =
      sound _ _ _ _ m (kept_more reader.core s (get reader.rests s) more (held_of h reader r s) filled bytes up_to) (says h reader r s more filled bytes up_to (Whole m) e) in
      let same = past_message held s m in
      let read = settled h reader r s more filled bytes up_to (Whole m) e in
      record {
        at = subst (λ l. IsSoundAt (old_of reader.core (get reader.rests s)) reader.core s l m) b good;
        read_to = record {
          are_pairs = subst (λ (p : Past). ArePairs p.pairs) (sym same) (pairs_taken h reader r s more filled bytes up_to);
          reads_it = ap (λ q. reads (fresh_of q) (with_message held s m).past.pairs) (profile_message held s m) ∙ ap (λ (p : Past). reads (fresh_of h.profile) p.pairs) same ∙ read;
          messages_are = ap (λ l. l ++ m ∷ []) r.messages_are ∙ sym (ap (λ (p : Past). p.messages) same);
          rests_are = λ u. rest_message h reader s u m more (length reader.core.entries) r;
          count_is = count_message h reader s m more (length reader.core.entries) r;
        };
      }
