-- What a reader read is a run with exactly the pairs that it read.
use Rattle.nbd_laws.proofs.Common.{AreBytes, judge, and_parts, ◌≡◌, ℕ, suc, zero, ◌+◌, ◌<◌, ◌≤◌, ◌⊎◌, List, [], ◌∷◌, ◌++◌, length, refl, sym, ◌∙◌, ap, subst, inl, inr, Ok, Some, append_assoc, append-nil, arith, true, Bool, not, ◌==◌, ◌&&◌, if◌then◌else◌, length-append, add-one, le_refl, eq-or-lt_of_le, eqb-true, IsTrue, Names, NamesWhole, whole, Entry, Side, Client, Server, Message, enc, head, side, Item, Byte, Starts, Completes, Serves, pairs, completed_messages, Pair, ArePairs, Operation, is_finished, Core, State, target, target_from, with_reply_at, MayStart, complete, is_reply_to, makes_due, Obeys, request_of_reply, IsServedFor, Both, get, put, IsFilled, Rest, Reader, Reading, More, Whole, Bad, settle, rest_with, reads, on_ok, with_message}
use Rattle.nbd_laws.proofs.{judge.SentLemmas.message_bytes, service.EntryLemmas.{Names-push_cases, NamesWhole-left, NamesWhole-push, served_atomically}}
use Rattle.nbd_laws.proofs.reading.ReaderLemmas.{old-empty, old-filled, IsFilled-snoc, IsMoreAt, AreHeld, kept_next, held_more, held_whole, led, with_byte, IsMore, Tracks, get-put_same, put-put, Open, Idle, Busy, Loose, IsNotBusy, Walk, ended, serving, opening, middle, final, loose, IsSoundAt, IsSound}

-- each request that has completed was served atomically, and no other
pub record IsCanonical (state : State) : Type 0 where
  pub all : (k : ℕ) → 0 < k → k ≤ length state.core.entries → NamesWhole state.served k
  pub only : (k : ℕ) → Names state.served k → k ≤ length state.core.entries

pub length-answered : (k : ℕ) (m : Message) (es : List Operation) → length (with_reply_at k m es) ≡ length es
length-answered k m [] = refl
length-answered zero m (e ∷ es) = refl
length-answered (suc zero) m (e ∷ es) = refl
length-answered (suc (suc k)) m (e ∷ es) = ap suc (length-answered (suc k) m es)

-- a completed message adds at most one request
pub length-complete : (core : Core) (m : Message) → (length (complete core m).entries ≡ length core.entries) ⊎ (length (complete core m).entries ≡ suc (length core.entries))
unfolding complete
length-complete core m = grind (arith, length-append, add-one, length-answered)

target_from-within : (n cookie : ℕ) (es : List Operation) (k : ℕ) → target_from n cookie es ≡ Some k → (0 < k) × (k ≤ n + length es)
target_from-within n cookie [] k e = absurd (cc)
target_from-within n cookie (x ∷ es) k e = go ((x.cookie == cookie) && not (is_finished x)) e (λ h. target_from-within (suc n) cookie es k h)
  where
    go : (b : Bool) → (if b then Some (suc n) else target_from (suc n) cookie es) ≡ Some k → (target_from (suc n) cookie es ≡ Some k → (0 < k) × (k ≤ suc n + length es)) → (0 < k) × (k ≤ n + suc (length es))
    go b h ih = grind arith

pub answered_by-within : (core : Core) (m : Message) (k : ℕ) → request_of_reply core m ≡ Some k → (0 < k) × (k ≤ length core.entries)
unfolding target
answered_by-within core m k e = grind (arith, target_from-within)

-- a request that a message answers has completed
pub answering : (core : Core) (m : Message) (k : ℕ) → is_reply_to core m k ≡ true → (0 < k) × (k ≤ length core.entries)
answering core m k h = grind (arith, answered_by-within, eqb-true)

-- what an item makes due is of a request that has completed
pub due_within : (core : Core) (item : Item) (k x : ℕ) → IsTrue (makes_due core item k x) → (0 < k) × (k ≤ length core.entries)
due_within core item k x d = grind (arith, answering, and_parts)

pub canonical_serves : (state : State) → IsCanonical state → (item : Item) → IsServedFor state item
canonical_serves state c item k x d = let w : (0 < k) × (k ≤ length state.core.entries) = due_within state.core item k x d in served_atomically _ state.served k x (c.all k w.0 w.1)

-- the placing of a request's service: directly after its completion
abbrev pub IsGrown : Core → Core → Type 0
IsGrown old new = (length new.entries ≡ length old.entries) ⊎ (length new.entries ≡ suc (length old.entries))

abbrev pub service : (old new : Core) → IsGrown old new → List Item
service old new (inl e) = []
service old new (inr e) = Serves (whole (length new.entries)) ∷ []

abbrev pub serviced : (old new : Core) → IsGrown old new → List Entry → List Entry
serviced old new (inl e) js = js
serviced old new (inr e) js = js ++ whole (length new.entries) ∷ []

pub canonical_serviced : (old new : Core) (g : IsGrown old new) (js : List Entry) → IsCanonical (record { core = old; served = js }) →
    IsCanonical (record { core = new; served = serviced old new g js })
canonical_serviced old new g js c = grind (arith, eq-or-lt_of_le, whole, NamesWhole-push, NamesWhole-left, Names-push_cases)

pub obeys_service : (old new : Core) (g : IsGrown old new) (js : List Entry) (items : List Item) → IsCanonical (record { core = old; served = js }) →
    Obeys (record { core = new; served = serviced old new g js }) items → Obeys (record { core = new; served = js }) (service old new g ++ items)
obeys_service old new g js items c h = grind (arith, le_refl)

pub walk_service : {P : Type 0} (old new : Core) (g : IsGrown old new) (o : Both Open) (items : List Item) → Walk P o items → Walk P o (service old new g ++ items)
walk_service old new (inl e) o items w = w
walk_service old new (inr e) o items w = serving (whole (length new.entries)) w

pairs_service : (old new : Core) (g : IsGrown old new) (items : List Item) → pairs (service old new g ++ items) ≡ pairs items
pairs_service old new g items = grind arith

completed_service : (old new : Core) (g : IsGrown old new) (items : List Item) → completed_messages (service old new g ++ items) ≡ completed_messages items
completed_service old new g items = grind arith

-- what a side's guess says of its rest, and of its rest at the end
pub record IsWithin (rest : Rest) (s : Side) (m : Message) (left : List ℕ) : Type 0 where
  pub filled : IsFilled rest.bytes
  pub unfinished : IsFilled left
  pub encodes : enc m ≡ rest.bytes ++ left
  pub sided : side m ≡ s
  pub are_bytes : AreBytes (enc m)
  pub starts : MayStart rest.since s m

abbrev pub Guess : Rest → Rest → Side → Open → Type 0
Guess rest end s Idle = rest.bytes ≡ []
Guess rest end s (Busy m left) = IsWithin rest s m left
Guess rest end s Loose = IsFilled rest.bytes × IsFilled end.bytes

-- a byte stands after the last completed message of its side
abbrev pub IsStray : Reader → Type 0
IsStray end = (s : Side) × IsFilled (get end.rests s).bytes

-- a marked continuation from a reader to a reader
pub record IsTrace (reader end : Reader) (state : State) (ps : List Pair) : Type 0 where
  pub items : List Item
  pub open_ : Both Open
  pub walk : Walk (IsStray end) open_ items
  pub guess : (s : Side) → Guess (get reader.rests s) (get end.rests s) s (get open_ s)
  pub has_pairs : pairs items ≡ ps
  pub obeys : Obeys state items
  pub messages : reader.messages ++ completed_messages items ≡ end.messages
  pub tracks : Tracks reader items
  pub leads : led reader items ≡ end

pub guess_at_end : (rest : Rest) (s : Side) → (o : Open) × Guess rest rest s o × IsNotBusy o
guess_at_end rest s = go rest.bytes refl
  where
    go : (bs : List ℕ) → rest.bytes ≡ bs → (o : Open) × Guess rest rest s o × IsNotBusy o
    go [] e = (Idle, e, tt)
    go (b ∷ bs) e = (Loose, (subst IsFilled (sym e) tt, subst IsFilled (sym e) tt), tt)

abbrev pub at_end : (reader : Reader) (state : State) → IsTrace reader reader state []
at_end reader state =
    let c = guess_at_end reader.rests.client Client in
    let s = guess_at_end reader.rests.server Server in
    record {
      items = [];
      open_ = record { client = c.0; server = s.0 };
      walk = ended c.2 s.2;
      guess = elim [ Client ↦ c.1 | Server ↦ s.1 ];
      has_pairs = refl;
      obeys = tt;
      messages = append-nil reader.messages;
      tracks = tt;
      leads = refl;
    }

pub not_empty : (bs : List ℕ) → IsFilled bs → bs ≡ [] → ⊥
not_empty bs f e = grind arith

-- no message is one byte
pub enc-long : (m : Message) (b : ℕ) → enc m ≡ b ∷ [] → ⊥
unfolding enc head
enc-long m b e = grind arith

-- a new guess for one side
guess_with : (olds ends : Both Rest) (opens : Both Open) (s : Side) (rest : Rest) (o : Open) →
    ((u : Side) → Guess (get (put olds s rest) u) (get ends u) u (get opens u)) → Guess (get olds s) (get ends s) s o →
    (u : Side) → Guess (get olds u) (get ends u) u (get (put opens s o) u)
guess_with olds ends opens Client rest o all here Client = here
guess_with olds ends opens Client rest o all here Server = all Server
guess_with olds ends opens Server rest o all here Client = all Client
guess_with olds ends opens Server rest o all here Server = here

pub led_whole : (reader : Reader) (s : Side) (b : ℕ) (m : Message) → led reader (Byte s b ∷ Completes s m ∷ [])
    ≡ with_message reader s (rest_with reader.core (get reader.rests s) b) m
led_whole reader s b m = grind (arith, get-put_same)

led_service : (old new : Core) (g : IsGrown old new) (reader : Reader) (items : List Item) → led reader (service old new g ++ items) ≡ led reader items
led_service old new g reader items = grind arith

tracks_service : (old new : Core) (g : IsGrown old new) (reader : Reader) (items : List Item) → Tracks reader items → Tracks reader (service old new g ++ items)
tracks_service old new g reader items h = grind arith

pub tracks_more : (reader : Reader) (s : Side) (b : ℕ) (items : List Item) → Tracks (with_byte reader s b) items → ((x : Item) (xs : List Item) → items ≡ x ∷ xs → IsMore (with_byte reader s b) s) → Tracks reader (Byte s b ∷ items)
tracks_more reader s b [] h more = tt
tracks_more reader s b (item ∷ items) h more = grind arith

module _ (reader end : Reader) (js : List Entry) (canonical : IsCanonical (record { core = reader.core; served = js })) (s : Side) (b : ℕ) (ps : List Pair) where
  abbrev rest_of : Rest
  rest_of = get reader.rests s

  abbrev more_of : Rest
  more_of = rest_with reader.core rest_of b

  abbrev Goal : Type 0
  Goal = IsTrace reader end (record { core = reader.core; served = js }) (record { from = s; byte = b } ∷ ps)

  -- the byte goes on with its message, or with bytes of none
  pub more_step : (t : IsTrace (record reader { rests = put reader.rests s more_of }) end (record { core = reader.core; served = js }) ps) →
      ((x : Item) (xs : List Item) → t.items ≡ x ∷ xs → IsMoreAt reader.core s more_of) → Goal
  more_step t judged = go (get t.open_ s) refl (subst (λ r. Guess r (get end.rests s) s (get t.open_ s)) (get-put_same reader.rests s more_of) (t.guess s))
    where
      others : (o : Open) → Guess rest_of (get end.rests s) s o → (u : Side) → Guess (get reader.rests u) (get end.rests u) u (get (put t.open_ s o) u)
      others o g = guess_with reader.rests end.rests t.open_ s more_of o t.guess g

      walk_on : (o p : Open) → get t.open_ s ≡ p → Walk (IsStray end) (put (put t.open_ s o) s p) t.items
      walk_on o p is = subst (λ w. Walk (IsStray end) w t.items) (sym (put-put t.open_ s o p is)) t.walk

      tracks_on : Tracks reader (Byte s b ∷ t.items)
      tracks_on = grind (arith, tracks_more, get-put_same)

      busy : (m : Message) (left : List ℕ) (bs : List ℕ) → rest_of.bytes ≡ bs → get t.open_ s ≡ Busy m left → IsWithin more_of s m left → Goal
      busy m left [] e is g = record {
        items = Starts s m ∷ Byte s b ∷ t.items;
        open_ = put t.open_ s Idle;
        walk = opening s m b left (get-put_same t.open_ s Idle) (g.encodes ∙ ap (λ bs. (bs ++ b ∷ []) ++ left) e) g.unfinished (walk_on Idle (Busy m left) is);
        guess = others Idle e;
        has_pairs = ap (λ q. record { from = s; byte = b } ∷ q) t.has_pairs;
        obeys = ((g.sided, g.are_bytes, subst (λ c. MayStart c s m) (old-empty reader.core rest_of e) g.starts, canonical_serves _ canonical (Starts s m)), (tt, t.obeys));
        messages = t.messages;
        tracks = tracks_on;
        leads = t.leads;
      }
      busy m left (c ∷ cs) e is g =
          let f : IsFilled rest_of.bytes = subst IsFilled (sym e) tt in
          record {
            items = Byte s b ∷ t.items;
            open_ = put t.open_ s (Busy m (b ∷ left));
            walk = middle s m b left (get-put_same t.open_ s (Busy m (b ∷ left))) g.unfinished (walk_on (Busy m (b ∷ left)) (Busy m left) is);
            guess = others (Busy m (b ∷ left)) (record {
              filled = f;
              unfinished = tt;
              encodes = g.encodes ∙ append_assoc rest_of.bytes (b ∷ []) left;
              sided = g.sided;
              are_bytes = g.are_bytes;
              starts = subst (λ c. MayStart c s m) (old-filled reader.core rest_of f) g.starts;
            });
            has_pairs = ap (λ q. record { from = s; byte = b } ∷ q) t.has_pairs;
            obeys = (tt, t.obeys);
            messages = t.messages;
            tracks = tracks_on;
            leads = t.leads;
          }

      stray : IsStray end → (o : Open) → IsNotBusy o → Guess rest_of (get end.rests s) s o → get t.open_ s ≡ Loose → Goal
      stray p o n g is = record {
        items = Byte s b ∷ t.items;
        open_ = put t.open_ s o;
        walk = loose s b p (subst IsNotBusy (sym (get-put_same t.open_ s o)) n) (walk_on o Loose is);
        guess = others o g;
        has_pairs = ap (λ q. record { from = s; byte = b } ∷ q) t.has_pairs;
        obeys = (tt, t.obeys);
        messages = t.messages;
        tracks = tracks_on;
        leads = t.leads;
      }

      loosened : (bs : List ℕ) → rest_of.bytes ≡ bs → IsFilled (get end.rests s).bytes → get t.open_ s ≡ Loose → Goal
      loosened [] e f is = stray (s, f) Idle tt e is
      loosened (c ∷ cs) e f is = stray (s, f) Loose tt (subst IsFilled (sym e) tt, f) is

      go : (o : Open) → get t.open_ s ≡ o → Guess more_of (get end.rests s) s o → Goal
      go Idle is g = absurd (not_empty (rest_of.bytes ++ b ∷ []) (IsFilled-snoc rest_of.bytes b) g)
      go (Busy m left) is g = busy m left rest_of.bytes refl is g
      go Loose is g = loosened rest_of.bytes refl g.1 is

  -- the byte completes its message
  whole_step : (m : Message) (grow : IsGrown reader.core (complete reader.core m)) → IsSoundAt more_of.since reader.core s more_of.bytes m →
      IsTrace (with_message reader s more_of m) end
      (record { core = complete reader.core m; served = serviced reader.core (complete reader.core m) grow js }) ps → Goal
  whole_step m grow sound t = go (get t.open_ s) refl (subst (λ r. Guess r (get end.rests s) s (get t.open_ s)) (get-put_same reader.rests s (record more_of { bytes = [] })) (t.guess s))
    where
      filled : (bs : List ℕ) → rest_of.bytes ≡ bs → IsFilled bs
      filled bs e = grind (arith, enc-long)

      go : (o : Open) → get t.open_ s ≡ o → Guess (record more_of { bytes = [] }) (get end.rests s) s o → Goal
      go Idle is g =
          let f : IsFilled rest_of.bytes = filled rest_of.bytes refl in
          record {
            items = Byte s b ∷ Completes s m ∷ (service reader.core (complete reader.core m) grow ++ t.items);
            open_ = put t.open_ s (Busy m (b ∷ []));
            walk = final s m b (get-put_same t.open_ s (Busy m (b ∷ [])))
                (walk_service reader.core (complete reader.core m) grow _ t.items (subst (λ w. Walk (IsStray end) w t.items) (sym (put-put t.open_ s (Busy m (b ∷ [])) Idle is)) t.walk));
            guess = guess_with reader.rests end.rests t.open_ s (record more_of { bytes = [] }) (Busy m (b ∷ [])) t.guess (record {
              filled = f;
              unfinished = tt;
              encodes = sym sound.encodes;
              sided = sound.sided;
              are_bytes = message_bytes m sound.sendable;
              starts = subst (λ c. MayStart c s m) (old-filled reader.core rest_of f) sound.starts;
            });
            has_pairs = ap (λ q. record { from = s; byte = b } ∷ q) (pairs_service reader.core (complete reader.core m) grow t.items ∙ t.has_pairs);
            obeys = (tt, ((sound.completes, canonical_serves _ canonical (Completes s m)), obeys_service reader.core (complete reader.core m) grow js t.items canonical t.obeys));
            messages = ap (λ ms. reader.messages ++ m ∷ ms) (completed_service reader.core (complete reader.core m) grow t.items)
                ∙ sym (append_assoc reader.messages (m ∷ []) (completed_messages t.items)) ∙ t.messages;
            tracks = (refl, subst (λ x. Tracks x (service reader.core (complete reader.core m) grow ++ t.items)) (sym (led_whole reader s b m)) (tracks_service reader.core (complete reader.core m) grow _ t.items t.tracks));
            leads = ap (λ x. led x (service reader.core (complete reader.core m) grow ++ t.items)) (led_whole reader s b m) ∙ led_service reader.core (complete reader.core m) grow _ t.items ∙ t.leads;
          }
      go o is g = grind (arith, filled, get-put_same, walk_service, put-put, guess_with, old-filled, pairs_service, canonical_serves, obeys_service, completed_service, append_assoc, led_whole, tracks_service, led, led_service)

trace_by : IsSound → (reader mid end : Reader) (js : List Entry) → AreHeld reader → IsCanonical (record { core = reader.core; served = js }) → (p : Pair) (ps qs : List Pair) → p.byte < 256 →
    ((next : Reader) (js' : List Entry) → AreHeld next → IsCanonical (record { core = next.core; served = js' }) → reads next ps ≡ Ok mid → IsTrace next end (record { core = next.core; served = js' }) (ps ++ qs)) →
    (r : Reading) → judge (rest_with reader.core (get reader.rests p.from) p.byte).since reader.core p.from (rest_with reader.core (get reader.rests p.from) p.byte).bytes ≡ r →
    on_ok (settle reader p.from (rest_with reader.core (get reader.rests p.from) p.byte) r) (λ next. reads next ps) ≡ Ok mid →
    IsTrace reader end (record { core = reader.core; served = js }) (p ∷ ps ++ qs)
trace_by sound reader mid end js held canonical p ps qs lt ih More is h = more_step reader end js canonical p.from p.byte (ps ++ qs) (ih _ js (held_more reader p.from p.byte lt held is) canonical h) (λ x xs e. (is, kept_next reader.core p.from (get reader.rests p.from) p.byte lt (held p.from)))
trace_by sound reader mid end js held canonical p ps qs lt ih (Whole m) is h =
    let grow : IsGrown reader.core (complete reader.core m) = length-complete reader.core m in
    let ok : IsSoundAt (rest_with reader.core (get reader.rests p.from) p.byte).since reader.core p.from (rest_with reader.core (get reader.rests p.from) p.byte).bytes m =
    sound _ _ _ _ m (kept_next reader.core p.from (get reader.rests p.from) p.byte lt (held p.from)) is in
    whole_step reader end js canonical p.from p.byte (ps ++ qs) m grow ok
    (ih _ _ (held_whole reader p.from m (record (rest_with reader.core (get reader.rests p.from) p.byte) { bytes = [] }) refl held ok.sided ok.sendable ok.completes) (canonical_serviced reader.core (complete reader.core m) grow js canonical) h)
trace_by sound reader mid end js held canonical p ps qs lt ih (Bad f) is h = absurd (cc)

-- what was read without a fault is a run, but for the rests, and what comes then
pub trace_then : IsSound → (ps qs : List Pair) (reader mid end : Reader) (js : List Entry) → ArePairs ps → AreHeld reader → IsCanonical (record { core = reader.core; served = js }) →
    reads reader ps ≡ Ok mid →
    ((js' : List Entry) → AreHeld mid → IsCanonical (record { core = mid.core; served = js' }) → IsTrace mid end (record { core = mid.core; served = js' }) qs) →
    IsTrace reader end (record { core = reader.core; served = js }) (ps ++ qs)
trace_then sound [] qs reader mid end js lt held canonical e go_on =
    let q : mid ≡ reader = cc in
    subst (λ (x : Reader). (js' : List Entry) → AreHeld x → IsCanonical (record { core = x.core; served = js' }) → IsTrace x end (record { core = x.core; served = js' }) qs) q go_on js held canonical
trace_then sound (p ∷ ps) qs reader mid end js lt held canonical e go_on =
    trace_by sound reader mid end js held canonical p ps qs lt.0 (λ next js' hd c h. trace_then sound ps qs next mid end js' lt.1 hd c h go_on) _ refl e

pub trace : IsSound → (ps : List Pair) (reader end : Reader) (js : List Entry) → ArePairs ps → AreHeld reader → IsCanonical (record { core = reader.core; served = js }) →
    reads reader ps ≡ Ok end → IsTrace reader end (record { core = reader.core; served = js }) ps
trace sound ps reader end js lt held canonical e =
    subst (λ l. IsTrace reader end (record { core = reader.core; served = js }) l) (append-nil ps)
    (trace_then sound ps [] reader end end js lt held canonical e (λ js' hd c. at_end end (record { core = end.core; served = js' })))
