-- What was taken of a side is judged.
use Rattle.nbd_session.proofs.Common.{◌≡◌, length, refl, sym, subst, Option, Result, IfErr, IsErrAnd, arith, same_Some, Side, Client, Server, Memory, Wire, WireFault, SessionFault, Monitor, Past, judge, reading_by_decision, Bad, Reader, More, Reading, get, old_of, put, holding_of, incoming_of, Expected, bytes_come, IsKnown, decided, get-put_other, get-put_same, old-filled, same_or_not, Holding, IsReadTo, rest_of, with_bytes, HoldsRun, IsShut, IsTaken, Stands, knows_by, extended}
use Rattle.nbd_session.proofs.{pushed.OpenByteLemmas.more_is_run_but, judge.RefusalLemmas.stopped, steps.{HoldingLemmas.rest_is, StepLemmas.{more_taken, pairs_taken, refused_taken}}}
use Rattle.nbd_wire.specs.Prelude.{IsPlaceOf}

-- the judge's word on what was taken
abbrev pub IsRead : (held : Monitor) (s : Side) (past : Past) → IsTaken held s past → Reading → Type 0
IsRead held s past t reading = reading_by_decision (decided t.reader s (bytes_come (incoming_of held s))) (bytes_come (incoming_of held s)) ≡ reading

module _ (held : Monitor) (s : Side) (past : Past) (t : IsTaken held s past) where
  abbrev after : Holding
  after = with_bytes t.before s t.more (length t.reader.core.entries)

  -- the reader's word on them
  pub says_so : (reading : Reading) → IsRead held s past t reading → judge (old_of t.reader.core (get t.reader.rests s)) t.reader.core s (rest_of after s) ≡ reading
  says_so reading e = grind (arith, rest_is)

  abbrev longer : Reader
  longer = record t.reader { rests = put t.reader.rests s (extended t.reader.core (get t.reader.rests s) t.more) }

  known_longer : (e : Option Expected) → knows_by (decided t.reader s) t.reader.core (incoming_of held s).head (incoming_of held s).payload e → (incoming_of held s).expected ≡ e →
      IsKnown (decided t.reader s) t.reader.core (incoming_of held s)
  known_longer e k is = grind (arith, same_Some)

  all_known : IsKnown (decided t.reader s) t.reader.core (incoming_of held s) → (u : Side) → IsKnown (decided longer u) t.reader.core (incoming_of held u)
  all_known here u = grind (arith, same_or_not, get-put_same, extended, get-put_other, old-filled)

  -- more is awaited
  pub settled_more : IsRead held s past t More → (e : Option Expected) → (incoming_of held s).expected ≡ e → knows_by (decided t.reader s) t.reader.core (incoming_of held s).head (incoming_of held s).payload e → Stands held past
  settled_more more e is k =
      let word = says_so More more in
      record {
        unclosed = t.unclosed;
        reader = longer;
        read_to = subst (λ h. IsReadTo h longer) (sym t.holding_is) (more_taken t.before t.reader t.read_to s t.more t.filled t.are_bytes t.up_to word);
        shows = t.shows;
        known = t.known;
        taken_is = t.taken_is;
        knows = all_known (known_longer e k is);
      }

  pub taken_run : HoldsRun (holding_of held past)
  taken_run =
      let r = more_is_run_but t.before.past.pairs t.reader t.before.past.messages t.before.client t.before.server s t.more t.read_to.are_pairs t.read_to.reads_it
      t.read_to.messages_are (t.read_to.rests_are Client) (t.read_to.rests_are Server) in
      subst HoldsRun (sym t.holding_is) (record { items = r.0; is_run = r.1; has_pairs = r.2; has_messages = r.3 })

  -- the bytes are refused
  pub shut_wire : (fault : WireFault) → IsRead held s past t (Bad fault) → (c : Option SessionFault) → IsShut (record held { closed = c }) past (Wire held.taken fault)
  shut_wire fault e c = record {
    run = taken_run;
    taken_is = t.taken_is;
    cause = (
      refl,
      subst (λ h. IsPlaceOf h.profile h.past.pairs h.past.messages fault) (sym t.holding_is)
          (stopped t.before t.reader t.read_to s t.more (length t.reader.core.entries) t.filled (pairs_taken t.before t.reader t.read_to s t.more t.filled t.are_bytes t.up_to) t.up_to fault
          (refused_taken t.before t.reader t.read_to s t.more t.filled t.are_bytes t.up_to fault (says_so (Bad fault) e))),
    );
  }

  -- memory ran out
  pub shut_memory : (c : Option SessionFault) → IsShut (record held { closed = c }) past Memory
  shut_memory c = record { run = taken_run; taken_is = t.taken_is; cause = tt }

-- the fault of a call is handed on
pub handed_on : {E : Type 0} (A : Type 0) (r : Result A E) (fault : E) (Q : E → Type 0) → IsErrAnd r (λ other. other ≡ fault) → Q fault → IfErr r Q
handed_on A r fault Q e q = grind arith
