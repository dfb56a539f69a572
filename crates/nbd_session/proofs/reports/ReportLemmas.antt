-- What a session that ends states is the report of the runs with its bytes.
use Rattle.nbd_session.proofs.Common.{◌≡◌, ℕ, suc, ◌+◌, List, [], ◌∷◌, map, refl, sym, ◌∙◌, ap, subst, arith, Option, Some, None, slice_get, Item, pairs, report, asked_of, asked_list, Operation, Exporting, IsRunOf, IsRunBut, Core, Shown, export_in, Exchange, Follows, Monitor, State, past_of, IsOfRun, IsReported, SessionView, pairs_of, IsShown, AreKnown, AreShown, known_if, Shows, ended_if, shown_if, shown_in, IsSoundReport, Stands, report_of_request, export_of, transcript_report, reports_are_sound}
use Rattle.nbd_session.proofs.judge.RefusalLemmas.{is_of_run}
use Rattle.nbd_laws.proofs.reading.NotedLemmas.{read_report, report_by}

one_told : (export : Exporting) (e : Operation) (x : Exchange) (known : Option ℕ) (shown : List Shown) (ended : Option ℕ) → IsShown export e x → x.asked.known_at ≡ known → shown_in x.asked ≡ shown → x.asked.ended_at ≡ ended →
    report_of_request x.asked ≡ asked_of (Some export) known shown ended e
one_told export e x known shown ended s k sh en = grind arith

-- the exchanges have what is noted of the requests from number n + 1 on
record AreNotedFrom (n : ℕ) (core : Core) (known : ℕ → Option ℕ) (xs : List Exchange) : Type 0 where
  known_are : (place : ℕ) → known (suc (n + place)) ≡ known_if (slice_get xs place)
  shown_are : (place : ℕ) → core.shown (suc (n + place)) ≡ shown_if (slice_get xs place)
  ended_are : (place : ℕ) → core.ended_at (suc (n + place)) ≡ ended_if (slice_get xs place)

next_place : (n place : ℕ) → n + suc place ≡ suc n + place
next_place n place = omega arith

noted_rest : (n : ℕ) (core : Core) (known : ℕ → Option ℕ) (x : Exchange) (xs : List Exchange) → AreNotedFrom n core known (x ∷ xs) → AreNotedFrom (suc n) core known xs
noted_rest n core known x xs h = record {
  known_are = λ place. ap (λ m. known (suc m)) (sym (next_place n place)) ∙ h.known_are (suc place);
  shown_are = λ place. ap (λ m. core.shown (suc m)) (sym (next_place n place)) ∙ h.shown_are (suc place);
  ended_are = λ place. ap (λ m. core.ended_at (suc m)) (sym (next_place n place)) ∙ h.ended_are (suc place);
}

all_told : (n : ℕ) (core : Core) (export : Option Exporting) → export_in core.phase ≡ export → (known : ℕ → Option ℕ) (es : List Operation) (xs : List Exchange) → AreShown export es xs → AreNotedFrom n core known xs →
    map (λ (x : Exchange). report_of_request x.asked) xs ≡ asked_list n core known es
all_told n core export q known [] [] s h = refl
all_told n core (Some export) q known (e ∷ es) (x ∷ xs) s h =
    let first : n ≡ n + 0 = omega arith in
    (λ i. (one_told export e x (known (suc n)) (core.shown (suc n)) (core.ended_at (suc n)) s.0 (sym (ap (λ m. known (suc m)) first ∙ h.known_are 0))
    (sym (ap (λ m. core.shown (suc m)) first ∙ h.shown_are 0)) (sym (ap (λ m. core.ended_at (suc m)) first ∙ h.ended_are 0))
    ∙ ap (λ o. asked_of o (known (suc n)) (core.shown (suc n)) (core.ended_at (suc n)) e) (sym q)) i
    ∷ all_told (suc n) core (Some export) q known es xs s.1 (noted_rest n core known x xs h) i)
all_told n core None q known (e ∷ es) (x ∷ xs) s h = absurd s
all_told n core (Some export) q known [] (x ∷ xs) s h = absurd s
all_told n core export q known es xs s h = absurd s

told_by : (state : State) (core : Core) (noted : ℕ → Option ℕ) → Shows state core → AreKnown noted state.exchanges.items → transcript_report (export_of state.phase) state.exchanges.items ≡ report_by core noted
told_by state core noted shows known = grind (arith, all_told)

module _ (held : Monitor) (r : SessionView) (f : Follows held r) (st : Stands held (past_of r)) (client : r.client ≡ []) (server : r.server ≡ []) where
  -- any run with these bytes has what is told as its report
  told_of : (items : List Item) → IsRunOf r.profile items → pairs items ≡ pairs_of r → report items ≡ transcript_report (export_of held.state.phase) held.state.exchanges.items
  told_of items run has = told_as items (subst (λ p. IsRunOf p items) (sym f.profile_is) run) has
    where
      told_as : (items : List Item) → IsRunOf held.state.profile items → pairs items ≡ pairs_of r → report items ≡ transcript_report (export_of held.state.phase) held.state.exchanges.items
      told_as items run has = grind (arith, read_report, told_by)

  whole_run : (run : IsOfRun r) → IsRunOf r.profile run.items
  whole_run run = subst (λ c. IsRunBut r.profile run.items c []) client (subst (λ s. IsRunBut r.profile run.items r.client s) server run.is_run)

  pub sound_told : IsSoundReport (transcript_report (export_of held.state.phase) held.state.exchanges.items)
  sound_told =
      let run = is_of_run held r f in
      subst IsSoundReport (told_of run.items (whole_run run) run.has_pairs) (reports_are_sound r.profile run.items (whole_run run))

  pub reported : IsReported r (transcript_report (export_of held.state.phase) held.state.exchanges.items)
  reported =
      let run = is_of_run held r f in
      record {
        items = run.items;
        is_run = whole_run run;
        has_pairs = run.has_pairs;
        has_messages = run.has_messages;
        same_report = told_of;
      }
