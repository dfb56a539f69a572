-- A capture in which no answer of success on metadata contexts comes has the same verdict in both profiles.
use Rattle.nbd_judge.proofs.Common.{◌≡◌, ℕ, List, [], ◌∷◌, length, refl, sym, ◌∙◌, ap, subst, inl, inr, Entry, WireFault, Message, Side, Client, Server, Profile, ArePairs, Pair, AreBytes, Start, Item, pairs, without_service, Report, report, due_in, inside_in, IsRunOf, Obeys, IsPlaceOf, IsUnderWayOf, State, start_of, NothingParts, Both, fresh_of, reads, Busy, Idle, Loose, Open, Walk, ended, final, loose, middle, opening, serving, dues_agree, nothing_before, places_agree, runs_agree, under_way_in, pairs_unserved, each_with, HasNoOrderFault, IsFaultless, improper_count, IsOrderFault, OrderFault, Late, Missing, NotCovered, but_last, places_begin_no_run, read_no_place, walk_of, explained_passes, passing_is_explained, orders_are_faultless, reports_ignore_service, same_reports, IsOpenEndOf, IsRefusalOf, IsWireFaultOf, CompletesExactlyOf, completes_exactly, Verdict, Yes, Wire, Image, Order, HasVerdict, Answers, AnswersAtOnceIn, NothingPartsIn, with_improper, VerdictsAgree, IsVerdict, ◌⊎◌, Reader, IsFaultAt}
use Rattle.nbd_judge.proofs.verdicts.AnswerLemmas.{answers_runs}
use Rattle.nbd_wire.specs.Prelude.{get}

-- what is left of an open message are bytes
abbrev LeavesBytes : Side → Open → Type 0
LeavesBytes s (Busy m left) = AreBytes left
LeavesBytes s Idle = Unit {0}
LeavesBytes s Loose = Unit {0}

walk_bytes : {o : Both Open} {items : List Item} → Walk ⊥ o items → (state : State) → Obeys state items → ((s : Side) → LeavesBytes s (get o s)) → ArePairs (pairs items)
walk_bytes (ended c d) state ob are = tt
walk_bytes (serving k w) state ob are = walk_bytes w _ ob.1 are
walk_bytes {o} (opening s m b left is g f w) state ob are =
    let sent : AreBytes (b ∷ left) = subst AreBytes g ob.0.1 in
    (sent.0, walk_bytes w _ ob.1.1 (each_with LeavesBytes o s (Busy m left) are sent.1))
walk_bytes {o} (middle s m b left is f w) state ob are =
    let sent : AreBytes (b ∷ left) = subst (LeavesBytes s) is (are s) in
    (sent.0, walk_bytes w _ ob.1 (each_with LeavesBytes o s (Busy m left) are sent.1))
walk_bytes {o} (final s m b is w) state ob are =
    let sent : AreBytes (b ∷ []) = subst (LeavesBytes s) is (are s) in
    (sent.0, walk_bytes w _ ob.1.1 (each_with LeavesBytes o s Idle are tt))
walk_bytes (loose s b absent is w) state ob are = absurd absent

-- the bytes of a run
run_pairs : (profile : Profile) (items : List Item) → IsRunOf profile items → ArePairs (pairs items)
run_pairs profile items run = walk_bytes (walk_of run) (start_of profile) run.obeys (elim [ Client ↦ tt | Server ↦ tt ])

-- what the rules name as a place is a refusal
place_refuses : (profile : Profile) (ps : List Pair) (messages : List Message) (fault : WireFault) → IsPlaceOf profile ps messages fault → IsRefusalOf profile ps messages fault
place_refuses profile ps messages fault place = record {
  place = place;
  none = places_begin_no_run profile ps messages fault place;
  before = λ prefix last parts.
      (let same : place.prefix ≡ prefix = (but_last place.prefix prefix place.last last (sym place.parts ∙ parts)).0 in
      subst (λ qs. CompletesExactlyOf profile qs messages) same (completes_exactly place.prefix place.before.end messages place.before.are_pairs place.before.reads_it place.before.has_messages));
}

-- where the same is due, an order has the same fault
same_fault : (p q : Profile) (r : Report) (order : List Entry) (entry : ℕ) (fault : OrderFault) → due_in p r ≡ due_in q r → IsOrderFault p r order entry fault → IsOrderFault q r order entry fault
same_fault p q r order entry fault same h = subst (λ due. IsFaultAt (length r.asked) due (inside_in r) order entry fault) same h

same_faultless : (p q : Profile) (r : Report) (order : List Entry) → due_in p r ≡ due_in q r → IsFaultless p r order → IsFaultless q r order
same_faultless p q r order same h = subst (λ due. HasNoOrderFault (length r.asked) due (inside_in r) order) same h

-- a verdict is one of the other profile too, with its count
other_count : (p q : Profile) (r : Report) (order : List Entry) (initial : Start) (v : Verdict) → due_in p r ≡ due_in q r → IsVerdict p r order initial v → IsVerdict q r order initial (with_improper (improper_count q r) v)
other_count p q r order initial (Yes a b c) same h = (h.0, (same_faultless p q r order same h.1.0, h.1.1, h.1.2, h.1.3, refl))
other_count p q r order initial (Order e f) same h = (h.0, same_fault p q r order e f same h.1)
other_count p q r order initial (Image i s) same h = h
other_count p q r order initial (Wire at fault) same h = h
other_count p q r order initial v same h = (h.0, (same_faultless p q r order same h.1.0, h.1.1))

-- items with the same marks, but for those of service, have the same bytes
same_pairs : (items other : List Item) → without_service other ≡ without_service items → pairs other ≡ pairs items
same_pairs items other e = sym (pairs_unserved other) ∙ ap pairs e ∙ pairs_unserved items

module _ (p q : Profile) (capture : List Pair) (tells : NothingPartsIn capture) (at_once : AnswersAtOnceIn capture) where
  none_told : (profile : Profile) (items : List Item) → pairs items ≡ capture → NothingParts profile (pairs items)
  none_told profile items is = subst (NothingParts profile) (sym is) (tells profile)

  -- the verdict on a run
  same_verdict : (order : List Entry) (initial : Start) (v : Verdict) (h : HasVerdict p capture order initial v) → HasVerdict q capture order initial (with_improper (improper_count q (report h.items)) v)
  same_verdict order initial v h =
      let w : Verdict = with_improper (improper_count q (report h.items)) v in
      let other : (items : List Item) × IsRunOf q items × (without_service items ≡ without_service h.items) = runs_agree p q h.items (run_pairs p h.items h.is_run) (none_told p h.items h.has_pairs) h.is_run in
      let has : pairs other.0 ≡ capture = same_pairs h.items other.0 other.2 ∙ h.has_pairs in
      let same : report h.items ≡ report other.0 = sym (reports_ignore_service other.0 h.items other.2) in
      let due : due_in p (report h.items) ≡ due_in q (report h.items) = λ i k x. dues_agree p q p h.items k x h.is_run (at_once p h.items h.is_run h.has_pairs) i in
      let here : IsVerdict q (report other.0) order initial w =
      subst (λ (r : Report). IsVerdict q r order initial w) same (other_count p q (report h.items) order initial v due (h.is_verdict h.items h.is_run h.has_pairs)) in
      record {
        items = other.0;
        is_run = other.1;
        has_pairs = has;
        is_verdict = λ others is has'. subst (λ (r : Report). IsVerdict q r order initial w) (same_reports q other.0 others other.1 is (has ∙ sym has')) here;
        answers = subst (λ ps. Answers q ps order initial w) has (answers_runs passing_is_explained explained_passes orders_are_faultless same_reports q other.0 order initial w other.1 here);
      }

  -- an end within a message
  same_open_end : (messages : List Message) → IsOpenEndOf p capture messages → IsOpenEndOf q capture messages
  same_open_end messages e =
      let u : IsUnderWayOf p capture messages = e.accepted.under_way in
      let v = under_way_in p q capture messages (tells p) u in
      record {
        accepted = record {
          under_way = v.0;
          placeless = λ prefix rest more fault parts place. read_no_place prefix rest v.0.end (ap (reads (fresh_of q)) parts ∙ v.0.reads_it) more fault place;
          all = completes_exactly capture v.0.end messages v.0.are_pairs v.0.reads_it v.0.has_messages;
        };
        leaves_open = subst (λ (end : Reader). (end.rests.client.bytes ≡ [] → ⊥) ⊎ (end.rests.server.bytes ≡ [] → ⊥)) (sym v.1) e.leaves_open;
        none = λ items run has. (let other = runs_agree q p items (run_pairs q items run) (none_told q items has) run in e.none other.0 other.1 (same_pairs items other.0 other.2 ∙ has));
      }

  same_wire_fault : (messages : List Message) (at : ℕ) (fault : WireFault) → IsWireFaultOf p capture messages at fault → IsWireFaultOf q capture messages at fault
  same_wire_fault messages at fault (inl r) =
      let place : IsPlaceOf q r.0 messages fault = places_agree p q r.0 messages fault (nothing_before (fresh_of p) r.0 r.1 (subst (NothingParts p) (sym r.2) (tells p))) r.4.place in
      inl (r.0, r.1, r.2, r.3, place_refuses q r.0 messages fault place)
  same_wire_fault messages at fault (inr e) = inr (e.0, e.1, same_open_end messages e.2)

pub verdicts_agree : VerdictsAgree
verdicts_agree p q capture order initial (Wire at fault) tells once c = (0, (c.0, same_wire_fault p q capture tells once c.0 at fault c.1))
verdicts_agree p q capture order initial (Yes a b c) tells once h = (improper_count q (report h.items), same_verdict p q capture tells once order initial (Yes a b c) h)
verdicts_agree p q capture order initial v tells once h = (0, same_verdict p q capture tells once order initial v h)
