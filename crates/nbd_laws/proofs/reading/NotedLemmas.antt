-- What a reader has read states the report of any run with its bytes.
use Rattle.nbd_laws.proofs.Common.{arith, ◌≡◌, ℕ, suc, List, [], ◌∷◌, length, refl, sym, ◌∙◌, ap, subst, Option, Ok, Some, None, Bool, false, if◌then◌else◌, Profile, Base, Client, Server, Side, Message, Item, Byte, Starts, Completes, Serves, pairs, Pair, ArePairs, Report, report, asked_list, asked_of, known_from, noted, Operation, is_reply_to, is_this, MayComplete, request_of_reply, complete, ends_at, IsRunOf, side, Core, start, start_of, export_in, Both, Reader, Rest, IsFilled, fresh_of, get, put, reads, rest_with, old_of, with_message, with_profile}
use Rattle.nbd_laws.proofs.{judge.SoundLemmas.sound, reading.ReaderLemmas.{Busy, Idle, IsFilled-snoc, IsNotBusy, Later, Later-trans, Loose, Open, Walk, at_once, behind, ended, final, led, loose, middle, old-empty, old-filled, opening, put_both, serving, with_byte}}
use Rattle.nbd_laws.proofs.{runs.{BegunLemmas.{AreBegun, BegunOpen, answers_same, asks_only, begun_completed}, FollowLemmas.{Follows, each_with, follows}, ProfileLemmas.{at_base, known_at_base}, RunLemmas.{core_end-ends_at, run_law, walk_of}}, service.{DueLemmas.or_later, InsideLemmas.core_end, ServiceLemmas.same_reports}}

-- the count, where the message answers request k, or else what came later
abbrev known_here : Option ℕ → ℕ → ℕ → Option ℕ → Option ℕ
known_here answered n k later = if is_this answered k then Some n else later

-- what is known, where the server may be in a message that started when n requests were complete
abbrev known_open : Open → Core → ℕ → ℕ → Option ℕ → Option ℕ
known_open (Busy m left) core n k later = known_here (request_of_reply core m) n k later
known_open Idle core n k later = later
known_open Loose core n k later = later

-- what was known, with one more message, and then what comes later
noted_then : (o : Option ℕ) (b : Bool) (n : ℕ) (later : Option ℕ) → or_later (noted o b n) later ≡ or_later o (if b then Some n else later)
noted_then o b n later = grind arith

open_moved : (core : Core) (m : Message) (x : Open) (n k : ℕ) (later : Option ℕ) → side m ≡ Client → MayComplete core core.phase m → BegunOpen core Server x → known_open x (complete core m) n k later ≡ known_open x core n k later
open_moved core m Idle n k later sd ok h = refl
open_moved core m Loose n k later sd ok h = refl
open_moved core m (Busy r left) n k later sd ok h =
    let next : Later Server h.0 (complete core m) = Later-trans h.2 (behind m (λ q. (let r : Client ≡ Server = sym sd ∙ q in (cc))) ok at_once) in
    ap (λ a. known_here a n k later) (sym (answers_same r next h.1) ∙ answers_same r h.2 h.1)

open_idle : (x : Open) (core : Core) (n k : ℕ) (later : Option ℕ) → IsNotBusy x → known_open x core n k later ≡ later
open_idle x core n k later h = grind arith

-- a side that is in a message has a byte of it
abbrev IsAt : Rest → Open → Type 0
IsAt rest Idle = rest.bytes ≡ []
IsAt rest (Busy m left) = IsFilled rest.bytes
IsAt rest Loose = ⊥

abbrev AreAt : Both Rest → Both Open → Type 0
AreAt rests o = (s : Side) → IsAt (get rests s) (get o s)

at_put : (rests : Both Rest) (o : Both Open) (s : Side) (rest : Rest) (x : Open) → AreAt rests o → IsAt rest x → AreAt (put rests s rest) (put o s x)
at_put rests o s rest x all here = put_both (λ u r y. IsAt r y) rests o s rest x here (λ u ne. all u)

-- the count that is noted of a message which has begun
since_is : (core : Core) (rest : Rest) (m : Message) (k : ℕ) (later : Option ℕ) → IsFilled rest.bytes →
    known_here (request_of_reply core m) (length (old_of core rest).entries) k later ≡ known_here (request_of_reply core m) (length rest.since.entries) k later
since_is core rest m k later f = ap (λ (c : Core). known_here (request_of_reply core m) (length c.entries) k later) (old-filled core rest f)

-- the reader knows what it knew, or else what comes in the items
known_led : {o : Both Open} {items : List Item} → Walk ⊥ o items → (reader : Reader) → Follows reader.core items → AreBegun reader.core o → AreAt reader.rests o → (k : ℕ) →
    (led reader items).known k ≡ or_later (reader.known k) (known_open (get o Server) reader.core (length reader.rests.server.since.entries) k (known_from reader.core k items))
known_led {o} (ended c d) reader f all at k = (grind arith) ∙ sym (ap (or_later (reader.known k)) (open_idle (get o Server) reader.core (length reader.rests.server.since.entries) k None d))
known_led (serving j w) reader f all at k = known_led w reader f all at k
known_led {o} (opening Client m b left {items = items} i e g w) reader f all at k =
    known_led w (with_byte reader Client b) f.1 (each_with (BegunOpen reader.core) o Client (Busy m left) all (reader.core, f.0, at_once))
    (at_put reader.rests o Client (rest_with reader.core reader.rests.client b) (Busy m left) at (IsFilled-snoc reader.rests.client.bytes b)) k
    ∙ sym (ap (λ a. or_later (reader.known k) (known_open (get o Server) reader.core (length reader.rests.server.since.entries) k (known_here a (length reader.core.entries) k (known_from reader.core k items)))) (asks_only reader.core m f.0.sided))
known_led {o} (opening Server m b left {items = items} i e g w) reader f all at k =
    let core = reader.core in
    let later = known_from core k items in
    known_led w (with_byte reader Server b) f.1 (each_with (BegunOpen core) o Server (Busy m left) all (core, f.0, at_once))
    (at_put reader.rests o Server (rest_with core reader.rests.server b) (Busy m left) at (IsFilled-snoc reader.rests.server.bytes b)) k
    ∙ ap (or_later (reader.known k))
    (ap (λ (c : Core). known_here (request_of_reply core m) (length c.entries) k later) (old-empty core reader.rests.server (subst (IsAt reader.rests.server) i (at Server)))
    ∙ sym (ap (λ x. known_open x core (length reader.rests.server.since.entries) k (known_here (request_of_reply core m) (length core.entries) k later)) i))
known_led {o} (middle Client m b left i g w) reader f all at k =
    known_led w (with_byte reader Client b) f (each_with (BegunOpen reader.core) o Client (Busy m left) all (subst (BegunOpen reader.core Client) i (all Client)))
    (at_put reader.rests o Client (rest_with reader.core reader.rests.client b) (Busy m left) at (IsFilled-snoc reader.rests.client.bytes b)) k
known_led {o} (middle Server m b left {items = items} i g w) reader f all at k =
    let core = reader.core in
    let later = known_from core k items in
    known_led w (with_byte reader Server b) f (each_with (BegunOpen core) o Server (Busy m left) all (subst (BegunOpen core Server) i (all Server)))
    (at_put reader.rests o Server (rest_with core reader.rests.server b) (Busy m left) at (IsFilled-snoc reader.rests.server.bytes b)) k
    ∙ ap (or_later (reader.known k))
    (since_is core reader.rests.server m k later (subst (IsAt reader.rests.server) i (at Server))
    ∙ sym (ap (λ x. known_open x core (length reader.rests.server.since.entries) k later) i))
known_led {o} (final Client m b {items = items} i w) reader f all at k =
    let core = reader.core in
    let h : BegunOpen core Client (Busy m (b ∷ [])) = subst (BegunOpen core Client) i (all Client) in
    let next : Reader = with_message (with_byte reader Client b) Client (rest_with core reader.rests.client b) m in
    known_led w next f.1 (begun_completed core o Client m h.1.sided f.0 all) (at_put reader.rests o Client next.rests.client Idle at refl) k
    ∙ ap (λ a. or_later (noted (reader.known k) (is_this a k) (length (rest_with core reader.rests.client b).since.entries)) (known_open (get o Server) (complete core m) (length reader.rests.server.since.entries) k (known_from (complete core m) k items)))
    (asks_only core m h.1.sided)
    ∙ noted_then (reader.known k) false (length (rest_with core reader.rests.client b).since.entries) _
    ∙ ap (or_later (reader.known k)) (open_moved core m (get o Server) (length reader.rests.server.since.entries) k (known_from (complete core m) k items) h.1.sided f.0 (all Server))
known_led {o} (final Server m b {items = items} i w) reader f all at k =
    let core = reader.core in
    let later = known_from (complete core m) k items in
    let h : BegunOpen core Server (Busy m (b ∷ [])) = subst (BegunOpen core Server) i (all Server) in
    let next : Reader = with_message (with_byte reader Server b) Server (rest_with core reader.rests.server b) m in
    known_led w next f.1 (begun_completed core o Server m h.1.sided f.0 all) (at_put reader.rests o Server next.rests.server Idle at refl) k
    ∙ noted_then (reader.known k) (is_reply_to core m k) (length (rest_with core reader.rests.server b).since.entries) later
    ∙ ap (or_later (reader.known k))
    (since_is core reader.rests.server m k later (subst (IsAt reader.rests.server) i (at Server))
    ∙ sym (ap (λ x. known_open x core (length reader.rests.server.since.entries) k later) i))
known_led (loose s b p i w) reader f all at k = absurd p

-- from the start
pub known_at_end : (reader : Reader) {o : Both Open} {items : List Item} → Walk ⊥ o items → get o Server ≡ Idle → Follows reader.core items → AreBegun reader.core o → AreAt reader.rests o → (k : ℕ) → reader.known k ≡ None →
    (led reader items).known k ≡ known_from reader.core k items
known_at_end reader {o} {items} w idle f all at k none =
    known_led w reader f all at k
    ∙ ap (λ known. or_later known (known_open (get o Server) reader.core (length reader.rests.server.since.entries) k (known_from reader.core k items))) none
    ∙ ap (λ x. known_open x reader.core (length reader.rests.server.since.entries) k (known_from reader.core k items)) idle

-- what items lead to
pub core_led : (reader : Reader) (items : List Item) → (led reader items).core ≡ core_end reader.core items
core_led reader [] = refl
core_led reader (Byte s b ∷ items) = core_led (with_byte reader s b) items
core_led reader (Starts s m ∷ items) = core_led reader items
core_led reader (Completes s m ∷ items) = core_led (with_message reader s (get reader.rests s) m) items
core_led reader (Serves e ∷ items) = core_led reader items

-- what a core states, and what is known of its requests
abbrev pub report_by : Core → (ℕ → Option ℕ) → Report
report_by core known = record { export = export_in core.phase; asked = asked_list 0 core known core.entries }

-- that does not hang on the profile
stated_in : (q : Profile) (n : ℕ) (core : Core) (known : ℕ → Option ℕ) (es : List Operation) → asked_list n (with_profile q core) known es ≡ asked_list n core known es
stated_in q n core known [] = refl
stated_in q n core known (e ∷ es) = ap (λ l. asked_of (export_in core.phase) (known (suc n)) (core.shown (suc n)) (core.ended_at (suc n)) e ∷ l) (stated_in q (suc n) core known es)

-- of the items of a run
pub known_of_run : {profile : Profile} (items : List Item) → IsRunOf profile items → (k : ℕ) → (led (fresh_of profile) items).known k ≡ known_from (start_of profile).core k items
known_of_run {profile} items run k = known_at_end (fresh_of profile) (walk_of run) refl (follows items (start_of profile) run.obeys) (elim [ Client ↦ tt | Server ↦ tt ]) (elim [ Client ↦ refl | Server ↦ refl ]) k refl

-- of a run that leads a reader to its end
led_report : {profile : Profile} (items : List Item) (end : Reader) → IsRunOf profile items → led (fresh_of profile) items ≡ end → report items ≡ report_by end.core end.known
unfolding report
led_report {profile} items end run leads =
    let first : Core = (start_of profile).core in
    let core_same : (ends_at start items).core ≡ with_profile Base end.core = sym (at_base profile items) ∙ ap (with_profile Base) (sym (core_end-ends_at first [] items) ∙ sym (core_led (fresh_of profile) items) ∙ ap (λ (r : Reader). r.core) leads) in
    grind (arith, first, core_same, at_base, core_end-ends_at, core_led, known_at_base, known_of_run, stated_in)

-- of any run with the pairs that the reader has read to their end
pub read_report : {profile : Profile} (ps : List Pair) (end : Reader) → ArePairs ps → reads (fresh_of profile) ps ≡ Ok end → ((s : Side) → (get end.rests s).bytes ≡ []) →
    (items : List Item) → IsRunOf profile items → pairs items ≡ ps → report items ≡ report_by end.core end.known
read_report {profile} ps end lt e none items run has =
    let r = run_law sound ps end lt e none in
    same_reports profile items r.0 run r.1 (has ∙ sym r.2) ∙ led_report r.0 end r.1 r.3
