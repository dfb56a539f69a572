-- Of each request that is finished it is noted when its reply began and ended.
use Rattle.std.specs.{List.list_any, Prelude.{◌++◌, ◌⊎◌}}
use Rattle.nbd_order.proofs.Common.{◌≡◌, ℕ, zero, suc, inl, inr, List, [], ◌∷◌, refl, sym, ◌∙◌, ap, subst, Option, Some, None, Bool, true, false, ◌&&◌, ◌||◌, ◌==◌, arith, is_some, length, and_from, eq-eqb, or_cases, Asked, Item, IsRunOf, Profile, asked_at, report}
use Rattle.nbd_judge.proofs.orders.TableLemmas.{some_of}
use Rattle.nbd_laws.proofs.{requests.ReportLemmas.{asked-report, stated, told_if}, runs.{ProfileLemmas.at_base, ReachLemmas.run_reaches}, service.SoonerLemmas.sooner_at_end}
use Rattle.nbd_laws.specs.Reached.{IsReached, at_start, after_message}
use Rattle.nbd_wire.specs.{declared.message.Message.{Message, TheVariants.{Chunk, ExtendedChunk, ExtendedRequest, Request, Simple}}, Prelude.{Operation, ends_reply, is_finished, known_count, operations_of, core_with_request, ends_at, noted, reply_to, request_of_reply, Core, operation, start, start_of, with_reply, with_reply_at, is_answered}, protocol.Rules.complete}
use Rattle.nbd_wire.specs.declared.commands.TheConstants as commands

-- of each reply that is finished the end is noted
abbrev NotesEnds : Core → Type 0
NotesEnds core = (k : ℕ) (e : Operation) → operation k core.entries ≡ Some e → list_any ends_reply e.replies ≡ true → is_some (core.ended_at k) ≡ true

noted_still : (o : Option ℕ) (b : Bool) (n : ℕ) → is_some o ≡ true → is_some (noted o b n) ≡ true
noted_still o b n e = grind arith

noted_now : (o : Option ℕ) (n : ℕ) → is_some (noted o true n) ≡ true
noted_now o n = grind arith

any_more : (p : Message → Bool) (ms : List Message) (m : Message) → list_any p (ms ++ m ∷ []) ≡ (list_any p ms || p m)
any_more p [] m = grind arith
any_more p (d ∷ ms) m = grind (arith, any_more p ms m)

-- request k, where a reply to request j came
replied : (j k : ℕ) (m : Message) (es : List Operation) (e : Operation) → operation k (with_reply_at j m es) ≡ Some e
    → (operation k es ≡ Some e) ⊎ ((j ≡ k) × ((d : Operation) × (operation k es ≡ Some d) × (e ≡ with_reply d m)))
replied j k m [] e at = inl at
replied zero k m (x ∷ es) e at = inl at
replied (suc zero) zero m (x ∷ es) e at = inl at
replied (suc zero) (suc zero) m (x ∷ es) e at = inr (refl, (x, refl, (let q : Some (with_reply x m) ≡ Some e = at in cc)))
replied (suc zero) (suc (suc k)) m (x ∷ es) e at = inl at
replied (suc (suc j)) zero m (x ∷ es) e at = inl at
replied (suc (suc j)) (suc zero) m (x ∷ es) e at = inl at
replied (suc (suc j)) (suc (suc k)) m (x ∷ es) e at = elim (replied (suc j) (suc k) m es e at) [ inl a ↦ inl a | inr b ↦ inr (ap suc b.0, b.1) ]

-- request k, where another one came
asked_new : (k : ℕ) (es : List Operation) (d e : Operation) → operation k (es ++ d ∷ []) ≡ Some e → (operation k es ≡ Some e) ⊎ (e ≡ d)
asked_new zero [] d e at = inl at
asked_new (suc zero) [] d e at = inr (let q : Some d ≡ Some e = at in cc)
asked_new (suc (suc k)) [] d e at = inl at
asked_new zero (x ∷ es) d e at = inl at
asked_new (suc zero) (x ∷ es) d e at = inl at
asked_new (suc (suc k)) (x ∷ es) d e at = asked_new (suc k) es d e at

notes_reply : (o : Option ℕ) (core : Core) (m : Message) → NotesEnds core → NotesEnds (reply_to o core m)
notes_reply None core m h = h
notes_reply (Some j) core m h = λ k e at ends. elim (replied j k m core.entries e at) [
  | inl was ↦ noted_still (core.ended_at k) ((j == k) && ends_reply m) (length core.entries) (h k e was ends)
  | inr now ↦ elim (or_cases (list_any ends_reply now.1.0.replies) (ends_reply m) (sym (any_more ends_reply now.1.0.replies m) ∙ ap (λ (y : Operation). list_any ends_reply y.replies) (sym now.1.2) ∙ ends)) [
    | inl before ↦ noted_still (core.ended_at k) ((j == k) && ends_reply m) (length core.entries) (h k now.1.0 now.1.1 before)
    | inr here ↦ ap (λ b. is_some (noted (core.ended_at k) b (length core.entries))) (and_from (j == k) (ends_reply m) (eq-eqb j k now.0) here) ∙ noted_now (core.ended_at k) (length core.entries)
  ]
]

notes_request : (b : Bool) (core : Core) (d : Operation) → list_any ends_reply d.replies ≡ false → NotesEnds core → NotesEnds (core_with_request b core d)
notes_request true core d none h = h
notes_request false core d none h = λ k e at ends. elim (asked_new k core.entries d e at) [
  | inl was ↦ h k e was ends
  | inr now ↦ absurd (cc (ap (λ (y : Operation). list_any ends_reply y.replies) now))
]

notes_complete : (core : Core) (m : Message) → NotesEnds core → NotesEnds (complete core m)
unfolding complete
notes_complete core (Request flags command cookie offset len payload) h = notes_request (command == commands.DISC) core _ refl h
notes_complete core (ExtendedRequest flags command cookie offset len payload) h = notes_request (command == commands.DISC) core _ refl h
notes_complete core (Simple error cookie payload) h = notes_reply (request_of_reply core (Simple error cookie payload)) core (Simple error cookie payload) h
notes_complete core (Chunk flags kind cookie payload) h = notes_reply (request_of_reply core (Chunk flags kind cookie payload)) core (Chunk flags kind cookie payload) h
notes_complete core (ExtendedChunk flags kind cookie at payload) h = notes_reply (request_of_reply core (ExtendedChunk flags kind cookie at payload)) core (ExtendedChunk flags kind cookie at payload) h
notes_complete core m h = h

notes_reached : {core : Core} → IsReached core → NotesEnds core
notes_reached at_start = λ k e at ends. absurd (let q : None ≡ Some e = at in (cc))
notes_reached (after_message {c = c} m r sn ok) = notes_complete c m (notes_reached r)

-- a request that is finished has ended
pub ended_at_end : {profile : Profile} (items : List Item) → IsRunOf profile items → (k : ℕ) (e : Operation) → operation k (ends_at start items).core.entries ≡ Some e → is_finished e ≡ true → (n : ℕ) × ((ends_at start items).core.ended_at k ≡ Some n)
ended_at_end {profile} items run k e at finished =
    let noted : NotesEnds (ends_at (start_of profile) items).core = notes_reached (run_reaches items run) in
    some_of ((ends_at start items).core.ended_at k) (subst NotesEnds (at_base profile items) noted k e at finished)

-- what is noted of a request
pub record IsTimed (a : Asked) : Type 0 where
  pub known : (n : ℕ) × (a.known_at ≡ Some n)
  pub ended : (n : ℕ) × (a.ended_at ≡ Some n)

pub timed : {profile : Profile} (items : List Item) → IsRunOf profile items → (k : ℕ) (a : Asked) → asked_at k (report items).asked ≡ Some a → is_answered a.outcome ≡ true → IsTimed a
timed items run k a at answered = go (operation k (operations_of items)) refl (sym (asked-report items k) ∙ at)
  where
    go : (o : Option Operation) → operation k (operations_of items) ≡ o → told_if (ends_at start items).core (known_count items) k o ≡ Some a → IsTimed a
    go None q e = absurd (cc)
    go (Some d) q e =
        let same : stated (ends_at start items).core (known_count items) k d ≡ a = cc in
        let finished : is_finished d ≡ true = grind (arith, ap (λ (y : Asked). is_answered y.outcome) same ∙ answered) in
        let end = ended_at_end items run k d q finished in
        let began = (sooner_at_end items run k).ended end.0 end.1 in
        subst IsTimed same (record { known = (began.0, began.1); ended = end })
