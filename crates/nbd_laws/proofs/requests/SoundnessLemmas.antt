-- What holds of each request of a core that completed messages lead to, and of every report.
use Rattle.nbd_laws.proofs.Common.{and_parts, not-true, or_cases, Simple, Chunk, ExtendedChunk, request_of_reply, is_error, nat_lt, ltb-false, ◌≡◌, ℕ, ◌≤◌, ◌+◌, List, [], ◌∷◌, length, refl, sym, ◌∙◌, ap, subst, Option, Some, None, false, eqb-true, arith, IsTrue, nat_le, ◌⊎◌, append-nil, leb-true, EXPORT_SIZE, Message, Item, Starts, Completes, Profile, reply_phase, next_phase, Asked, operations_of, export_of, known_count, known_from, report, asked_of, Operation, Exporting, has_range, is_finished, is_outside, is_proper, pieces, has, complete, ends_at, IsSendable, Core, Phase, Answering, Transmission, operation, start, target, with_reply, export_in, IsAfter, IsSoundAsked, IsSoundReport, ReportsAreSound, IsReached, at_start, after_message, Selection, eq-eqb, not-false}
use Rattle.nbd_laws.proofs.{judge.{WholeLemmas.allowed, AllowLemmas.{IsSuccess, answer_allow}, BoolLemmas.fault_none, PhaseLemmas.find}, runs.{PrefixLemmas.{phase-complete, transmission_row}, ProfileLemmas.at_base, ReachLemmas.run_reaches, RunLemmas.core_end-ends_at, TraceLemmas.answered_by-within}}
use Rattle.nbd_laws.proofs.{requests.{LaidLemmas.are_laid, ZeroLemmas.{no_df, told_of}, ReportLemmas.{asked-report, length-report, stated, told_if}, EachLemmas.{Each, each_complete, each_entry}, GoodLemmas.{IsGood, good_chunk, good_simple, good_asked, good_extended}}, service.{InsideLemmas.{core_end, entries_grow}, SoonerLemmas.{IsSooner, sooner_at_end}}}
unfoldable use Rattle.nbd_laws.proofs.judge.WholeLemmas.{IsAllowed, MayReply}
use Rattle.nbd_wire.specs.declared.commands.TheConstants as commands
use Rattle.nbd_wire.specs.declared.transmission.TheConstants as transmission

-- what a phase says of its requests
abbrev pub InPhase : Phase → List Operation → Type 0
InPhase (Transmission export) es = (export.size ≤ EXPORT_SIZE) × IsTrue (has export.flags transmission.HAS_FLAGS) × Each (IsGood export) es
InPhase (Answering option payload info) es = (es ≡ []) × ((export : Exporting) → info ≡ Some export → IsTrue (has export.flags transmission.HAS_FLAGS))
InPhase _ es = es ≡ []

-- the request that a reply answers is not finished
pub open_target : (core : Core) (cookie k : ℕ) (e : Operation) → target cookie core.entries ≡ Some k → operation k core.entries ≡ Some e → is_finished e ≡ false
open_target core cookie k e t is = grind (arith, not-true, and_parts, find cookie core.entries k t)

good_reply : (core : Core) (export : Exporting) (m : Message) (k : ℕ) (e : Operation) → request_of_reply core m ≡ Some k → operation k core.entries ≡ Some e → MayReply core.profile core.structured export e m → IsGood export e → IsGood export (with_reply e m)
unfolding MayReply
good_reply core export (Simple error cookie p) k e q is h g = good_simple core.profile core.structured export e error cookie p g h
good_reply core export (Chunk flags kind cookie p) k e q is h g = good_chunk core.profile core.structured export e flags kind cookie p g (open_target core cookie k e q is) h
good_reply core export (ExtendedChunk flags kind cookie at p) k e q is h g = good_extended core.profile core.structured export e flags kind cookie at p g (open_target core cookie k e q is) h
good_reply core export m k e q is h g = absurd h

good_transmitted : (core : Core) (export : Exporting) (m : Message) → IsAllowed core (Transmission export) m → IsSendable m → Each (IsGood export) core.entries → Each (IsGood export) (complete core m).entries
unfolding IsSendable
good_transmitted core export m ok sn g = each_complete (IsGood export) core (Transmission export) m ok g ((grind (arith, eq-eqb, good_asked)))
    (λ export' k e p q is h. good_reply core export m k e q is (let same : export' ≡ export = cc in subst (λ x. MayReply core.profile core.structured x e m) same h))

-- after an answer to an option
module _ (asked : ℕ) (asked_with : List ℕ) (info : Option Exporting) (es : List Operation) (g : InPhase (Answering asked asked_with info) es) where
  answered_in : {profile : Profile} (selection : Selection) (kind : ℕ) (p : List ℕ) → IsTrue (is_error kind) ⊎ IsSuccess profile asked asked_with info selection kind p → InPhase (reply_phase asked asked_with info kind p) es
  unfolding has
  answered_in selection kind p ok = grind (arith, eqb-true, or_cases, and_parts, fault_none, nat_lt, ltb-false)

pub sound : {core : Core} → IsReached core → InPhase core.phase core.entries
unfolding IsAllowed complete next_phase
sound at_start = refl
sound (after_message {c = c} m r sn ok) = grind (arith, nat_lt, fault_none, not-false, ltb-false, answered_in, answer_allow, phase-complete, good_transmitted, transmission_row, c.phase, allowed c c.phase m ok, sound r)

-- known counts lie between a request's own number and the number of all requests
known_between : (core : Core) (items : List Item) (k n : ℕ) → known_from core k items ≡ Some n → (k ≤ n) × (n ≤ length (core_end core items).entries)
known_between core [] k n e = absurd (cc)
known_between core (Starts s m ∷ items) k n e = grind (arith, core_end, answered_by-within, eqb-true, entries_grow, known_between core items k n)
known_between core (Completes s m ∷ items) k n e = known_between (complete core m) items k n e
known_between core (item ∷ items) k n e = known_between core items k n e

pub proper_range : (export : Exporting) (e : Operation) → IsTrue (is_proper export e) → IsTrue (has_range e.command) → e.offset + e.length ≤ export.size
unfolding is_proper
proper_range export e h r = grind (arith, and_parts, nat_le, leb-true)

outside_range : (e : Operation) → IsTrue (is_outside e) → IsTrue (has_range e.command)
outside_range e o = grind (arith, and_parts)

pub reports_are_sound : ReportsAreSound
unfolding report
reports_are_sound profile items run =
    go (ends_at start items).core.phase refl (subst (λ (c : Core). InPhase c.phase c.entries) (at_base profile items) (sound (run_reaches items run)))
  where
    no_requests : operations_of items ≡ [] → export_of items ≡ None → IsSoundReport (report items)
    no_requests e x = grind arith

    one : (export : Exporting) (k : ℕ) (e : Operation) (a : Asked) → export_of items ≡ Some export → IsGood export e → stated (ends_at start items).core (known_count items) k e ≡ a → IsSoundAsked export.size (length (report items).asked) k a
    one export k e a x g q = subst (λ (a : Asked). IsSoundAsked export.size (length (report items).asked) k a) (ap (λ o. asked_of o (known_count items k) ((ends_at start items).core.shown k) ((ends_at start items).core.ended_at k) e) (sym x) ∙ q) (record {
      known = λ n h. (let b : (k ≤ n) × (n ≤ length (core_end start.core items).entries) = known_between start.core items k n h in (b.0, subst (λ c. n ≤ c) (grind (arith, core_end-ends_at, length-report)) b.1));
      shown = λ x n h. after_start n (sooner.shown x n h);
      ended = λ n h. after_start n (sooner.ended n h);
      carried = g.carried;
      success = g.success;
      ranged = outside_range e;
      inside = λ p r. proper_range export e p r;
      reads = λ n m. grind (arith, told_of export e);
      statuses = λ c n. grind (arith, told_of export e, no_content);
      single = λ p d. grind (arith, told_of export e, no_df);
      laid = grind (arith, are_laid, told_of export e, no_content, append-nil);
      covered = λ c s. grind (arith, told_of export e, g.covered s c);
    })
      where
        sooner : IsSooner k (known_count items k) (ends_at start items).core
        sooner = sooner_at_end items run k

        after_start : (n : ℕ) → (u : ℕ) × (known_count items k ≡ Some u) × (u ≤ n) × (n ≤ length (operations_of items)) → IsAfter (known_count items k) (length (report items).asked) n
        after_start n (u, known, first, last) = ((u, known, first), subst (λ c. n ≤ c) (sym (length-report items)) last)

        no_content : e.command ≡ commands.BLOCK_STATUS → pieces e ≡ []
        no_content k = g.reads (λ c. (let w : commands.READ ≡ commands.BLOCK_STATUS = sym c ∙ k in omega (arith, w)))

    go : (phase : Phase) → (ends_at start items).core.phase ≡ phase → InPhase (ends_at start items).core.phase (operations_of items) → IsSoundReport (report items)
    go (Transmission export) q h =
        let x : export_of items ≡ Some export = ap export_in q in
        let i : InPhase (Transmission export) (operations_of items) = subst (λ phase. InPhase phase (operations_of items)) q h in
        record {
          limit = grind arith;
          none = λ y. absurd (let w : Some export ≡ None = sym x ∙ y in (cc));
          each = λ export' k a y at. (let same : export ≡ export' = (let w : Some export ≡ Some export' = sym x ∙ y in cc) in
              subst (λ (e : Exporting). IsSoundAsked e.size (length (report items).asked) k a) same
              (numbered export k a x i.2 (operation k (operations_of items)) refl (sym (asked-report items k) ∙ at)));
        }
      where
        numbered : (export : Exporting) (k : ℕ) (a : Asked) → export_of items ≡ Some export → Each (IsGood export) (operations_of items) → (o : Option Operation) → operation k (operations_of items) ≡ o → told_if (ends_at start items).core (known_count items) k o ≡ Some a →
            IsSoundAsked export.size (length (report items).asked) k a
        numbered export k a x g None p q = absurd (cc)
        numbered export k a x g (Some e) p q = one export k e a x (each_entry (IsGood export) k (operations_of items) e g p) (let w : Some (stated (ends_at start items).core (known_count items) k e) ≡ Some a = q in cc)
    go phase' q h = grind (arith, asked-report, told_if, one, each_entry, stated, no_requests)
