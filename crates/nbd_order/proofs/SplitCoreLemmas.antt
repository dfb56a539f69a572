-- What messages lead to behind requests that are finished, and what they lead to without these.
use Rattle.nbd_order.proofs.Common.{◌≡◌, ℕ, zero, suc, ◌+◌, ◌<◌, ◌≤◌, ◌==◌, List, [], ◌∷◌, length, refl, sym, ap, subst, ◌∙◌, Bool, true, false, not, Option, Some, None, arith, Entry, Item, Exporting, cases_Bool, inl, inr}
use Rattle.std.specs.Prelude.{◌++◌, option_and_then}
use Rattle.std.proofs.Common.{append_assoc, length-append}
use Rattle.nbd_wire.specs.declared.commands.TheConstants as commands
use Rattle.nbd_wire.specs.declared.message.Message.{Message, TheVariants.{Simple, Chunk, ExtendedChunk}}
use Rattle.nbd_wire.specs.Prelude.{Byte, Starts, Completes, Serves, without_service, Operation, is_finished, Obeys, cookie_of, core_with_request, filter_in, inside_at, inside_operation, is_reply_to, is_this, makes_due, reply_to, request_of_reply, written, Filter, sizes_kept, Core, Transmission, export_in, has_contexts, in_force, operation, target_from, with_reply_at}
use Rattle.nbd_wire.specs.protocol.Rules.{is_by_chunk, operation_asked}
unfoldable use Rattle.nbd_wire.specs.protocol.{Rules.complete, States.target}
use Rattle.nbd_laws.proofs.{runs.{PrefixLemmas.{InTransmission, asks, asks_more, gives as gives_chunk, gives_more, in_transmission, phase-complete, replies}, TraceLemmas.{answered_by-within, due_within}}, service.{DueLemmas.{known_if, due_from, or_later}, InsideLemmas.{core_end, entries_grow}}}

-- so many more, where there is a number
abbrev pub plus : ℕ → Option ℕ → Option ℕ
plus n (Some k) = Some (n + k)
plus n None = None

-- each request is finished
abbrev pub AllDone : List Operation → Type 0
AllDone [] = Unit {0}
AllDone (e ∷ es) = (is_finished e ≡ true) × AllDone es

-- finished requests are no targets
target_behind : (i cookie : ℕ) (done es : List Operation) → AllDone done → target_from i cookie (done ++ es) ≡ target_from (i + length done) cookie es
target_behind i cookie [] es d = ap (λ j. target_from j cookie es) (let q : i ≡ i + 0 = omega arith in q)
target_behind i cookie (e ∷ done) es d = grind (arith, d.0, target_behind (suc i) cookie done es d.1)

target_plus : (n i cookie : ℕ) (es : List Operation) → target_from (n + i) cookie es ≡ plus n (target_from i cookie es)
target_plus n i cookie [] = refl
target_plus n i cookie (e ∷ es) = grind (arith, target_plus n (suc i) cookie es)

pub target_of_behind : (o : Option ℕ) (done es : List Operation) → AllDone done → option_and_then (λ k. target k (done ++ es)) o ≡ plus (length done) (option_and_then (λ k. target k es) o)
unfolding target
target_of_behind None done es d = refl
target_of_behind (Some cookie) done es d = grind (arith, target_behind 0 cookie done es d, target_plus (length done) 0 cookie es)

-- a later request stands behind them
pub operation_behind : (k : ℕ) (done es : List Operation) → 0 < k → operation (length done + k) (done ++ es) ≡ operation k es
operation_behind k [] es h = ap (λ j. operation j es) (let q : 0 + k ≡ k = omega arith in q)
operation_behind k (e ∷ done) es h = next (length done + k) (omega arith) (omega arith) ∙ operation_behind k done es h
  where
    next : (j : ℕ) → 0 < j → suc (length done) + k ≡ suc j → operation (suc (length done) + k) (e ∷ (done ++ es)) ≡ operation j (done ++ es)
    next zero l q = absurd (omega arith)
    next (suc j) l q = ap (λ i. operation i (e ∷ (done ++ es))) q

-- and each of them where it stood
pub operation_before : (k : ℕ) (done es : List Operation) → 0 < k → k ≤ length done → operation k (done ++ es) ≡ operation k done
operation_before k [] es h l = absurd (omega arith)
operation_before zero (e ∷ done) es h l = absurd (omega arith)
operation_before (suc zero) (e ∷ done) es h l = refl
operation_before (suc (suc k)) (e ∷ done) es h l = operation_before (suc k) done es (omega arith) (omega arith)

reply_behind : (k : ℕ) (m : Message) (done es : List Operation) → 0 < k → with_reply_at (length done + k) m (done ++ es) ≡ done ++ with_reply_at k m es
reply_behind k m [] es h = ap (λ j. with_reply_at j m es) (let q : 0 + k ≡ k = omega arith in q)
reply_behind k m (e ∷ done) es h = next (length done + k) (omega arith) (omega arith) ∙ ap (λ l. e ∷ l) (reply_behind k m done es h)
  where
    next : (j : ℕ) → 0 < j → suc (length done) + k ≡ suc j → with_reply_at (suc (length done) + k) m (e ∷ (done ++ es)) ≡ e ∷ with_reply_at j m (done ++ es)
    next zero l q = absurd (omega arith)
    next (suc j) l q = ap (λ i. with_reply_at i m (e ∷ (done ++ es))) q

-- one core stands where the other does, behind requests that are finished
pub record Behind (done : List Operation) (c d : Core) : Type 0 where
  pub profile : c.profile ≡ d.profile
  pub phase : c.phase ≡ d.phase
  pub structured : c.structured ≡ d.structured
  pub contexts : in_force c ≡ in_force d
  pub sizes : sizes_kept c.sizing ≡ sizes_kept d.sizing
  pub entries : c.entries ≡ done ++ d.entries

-- the same request is asked where both stand
same_asked : (done : List Operation) (c d : Core) → Behind done c d → (extended : Bool) (flags command cookie offset len : ℕ) (p : List ℕ) (filter : Option Filter) → operation_asked extended c flags command cookie offset len p filter ≡ operation_asked extended d flags command cookie offset len p filter
same_asked done c d b extended flags command cookie offset len p filter = cc (b.structured, b.contexts, b.sizes)

requested_behind : (done : List Operation) (c d : Core) → Behind done c d → (is_disc : Bool) (e f : Operation) → e ≡ f → Behind done (core_with_request is_disc c e) (core_with_request is_disc d f)
requested_behind done c d b true e f same = record { profile = b.profile; phase = b.phase; structured = b.structured; contexts = b.contexts; sizes = b.sizes; entries = b.entries }
requested_behind done c d b false e f same = record {
  profile = b.profile;
  phase = b.phase;
  structured = b.structured;
  contexts = b.contexts;
  sizes = b.sizes;
  entries = ap (λ l. l ++ e ∷ []) b.entries ∙ append_assoc done d.entries (e ∷ []) ∙ ap (λ x. done ++ (d.entries ++ x ∷ [])) same;
}

answered_behind : (done : List Operation) (c d : Core) → Behind done c d → (m : Message) (o : Option ℕ) → ((k : ℕ) → o ≡ Some k → 0 < k) → Behind done (reply_to (plus (length done) o) c m) (reply_to o d m)
answered_behind done c d b m None within = b
answered_behind done c d b m (Some k) within = record {
  profile = b.profile;
  phase = b.phase;
  structured = b.structured;
  contexts = b.contexts;
  sizes = b.sizes;
  entries = ap (with_reply_at (length done + k) m) b.entries ∙ reply_behind k m done d.entries (within k refl);
}

pub answers_behind : (done : List Operation) (c d : Core) → AllDone done → Behind done c d → (m : Message) → request_of_reply c m ≡ plus (length done) (request_of_reply d m)
answers_behind done c d all b m = ap (λ es. option_and_then (λ k. target k es) (cookie_of m)) b.entries ∙ target_of_behind (cookie_of m) done d.entries all

replied_behind : (done : List Operation) (c d : Core) → AllDone done → Behind done c d → (m : Message) → Behind done (reply_to (request_of_reply c m) c m) (reply_to (request_of_reply d m) d m)
replied_behind done c d all b m =
    subst (λ o. Behind done (reply_to o c m) (reply_to (request_of_reply d m) d m)) (sym (answers_behind done c d all b m))
    (answered_behind done c d b m (request_of_reply d m) (λ k e. (answered_by-within d m k e).0))

pub complete_behind : (done : List Operation) (c d : Core) → AllDone done → Behind done c d → (export : Exporting) (m : Message) → InTransmission c export m → Behind done (complete c m) (complete d m)
unfolding complete
complete_behind done c d all b export m (asks flags command cookie offset len p h) =
    requested_behind done c d b (command == commands.DISC) _ _ (same_asked done c d b false flags command cookie offset len p None)
complete_behind done c d all b export m (asks_more flags command cookie offset len p h) =
    requested_behind done c d b (command == commands.DISC) _ _ (
    same_asked done c d b true flags command cookie offset len (written command p) (filter_in (has_contexts c) flags command p)
    ∙ ap (λ contexts. operation_asked true d flags command cookie offset len (written command p) (filter_in (not (length contexts == 0)) flags command p)) b.contexts
    )
complete_behind done c d all b export m (replies error cookie p h) = replied_behind done c d all b (Simple error cookie p)
complete_behind done c d all b export m (gives_chunk flags kind cookie p h) = replied_behind done c d all b (Chunk flags kind cookie p)
complete_behind done c d all b export m (gives_more flags kind cookie at p h) = replied_behind done c d all b (ExtendedChunk flags kind cookie at p)

pub same_number : (n j k : ℕ) → (n + j == n + k) ≡ (j == k)
same_number n j k = grind arith

is_plus : (n : ℕ) (o : Option ℕ) (k : ℕ) → is_this (plus n o) (n + k) ≡ is_this o k
is_plus n None k = refl
is_plus n (Some j) k = same_number n j k

module _ (done : List Operation) (all : AllDone done) (c d : Core) (b : Behind done c d) (k x : ℕ) (h : 0 < k) where
  same_operation : operation (length done + k) c.entries ≡ operation k d.entries
  same_operation = ap (operation (length done + k)) b.entries ∙ operation_behind k done d.entries h

  is_reply_behind : (m : Message) → is_reply_to c m (length done + k) ≡ is_reply_to d m k
  is_reply_behind m = ap (λ o. is_this o (length done + k)) (answers_behind done c d all b m) ∙ is_plus (length done) (request_of_reply d m) k

  chunk_behind : is_by_chunk c.profile (operation (length done + k) c.entries) ≡ is_by_chunk d.profile (operation k d.entries)
  chunk_behind = ap (is_by_chunk c.profile) same_operation ∙ ap (λ p. is_by_chunk p (operation k d.entries)) b.profile

  pub inside_behind : inside_at c (length done + k) ≡ inside_at d k
  inside_behind = ap (inside_operation (export_in c.phase)) same_operation ∙ ap (λ p. inside_operation (export_in p) (operation k d.entries)) b.phase

  pub due_behind_at : (item : Item) → makes_due c item (length done + k) x ≡ makes_due d item k x
  due_behind_at (Starts s m) = cc (is_reply_behind m, chunk_behind)
  due_behind_at (Completes s m) = cc (is_reply_behind m, chunk_behind, inside_behind, same_operation)
  due_behind_at (Byte s y) = refl
  due_behind_at (Serves e) = refl

count_behind : (done : List Operation) (c d : Core) → Behind done c d → length c.entries ≡ length done + length d.entries
count_behind done c d b = ap length b.entries ∙ length-append done d.entries

known_behind : (done : List Operation) (c d : Core) → Behind done c d → (v w : Bool) → v ≡ w → (later now : Option ℕ) → later ≡ plus (length done) now → known_if v c later ≡ plus (length done) (known_if w d now)
known_behind done c d b v w same later now is = (let n = count_behind done c d b in grind arith)

-- transmission goes on, both end up so, and a later request is due with so many more
pub items_behind : (done : List Operation) → AllDone done → (export : Exporting) (items : List Item) (c d : Core) (js : List Entry) → c.phase ≡ Transmission export → Behind done c d → Obeys (record { core = c; served = js }) items →
    Behind done (core_end c items) (core_end d items) × ((core_end c items).phase ≡ Transmission export) × ((k x : ℕ) → 0 < k → due_from c items (length done + k) x ≡ plus (length done) (due_from d items k x))
items_behind done all export [] c d js t b ob = (b, t, λ k x h. refl)
items_behind done all export (Completes s m ∷ items) c d js t b ob =
    let i : InTransmission c export m = in_transmission t ob.0.0 in
    let r = items_behind done all export items (complete c m) (complete d m) js (phase-complete c export m i ∙ t) (complete_behind done c d all b export m i) ob.1 in
    (r.0, r.1, λ k x h. known_behind done c d b _ _ (due_behind_at done all c d b k x h (Completes s m)) _ _ (r.2 k x h))
items_behind done all export (Starts s m ∷ items) c d js t b ob =
    let r = items_behind done all export items c d js t b ob.1 in
    (r.0, r.1, λ k x h. known_behind done c d b _ _ (due_behind_at done all c d b k x h (Starts s m)) _ _ (r.2 k x h))
items_behind done all export (Byte s y ∷ items) c d js t b ob = items_behind done all export items c d js t b ob.1
items_behind done all export (Serves e ∷ items) c d js t b ob = items_behind done all export items c d _ t b ob.1

-- what is due is of a request that has completed
pub due_completed : (core : Core) (items : List Item) (k x n : ℕ) → due_from core items k x ≡ Some n → (0 < k) × (k ≤ length (core_end core items).entries)
due_completed core [] k x n e = absurd (cc)
due_completed core (Byte s b ∷ items) k x n e = due_completed core items k x n e
due_completed core (Serves y ∷ items) k x n e = due_completed core items k x n e
due_completed core (Starts s m ∷ items) k x n e = elim (cases_Bool (makes_due core (Starts s m) k x)) [
  | inl q ↦ (let w = due_within core (Starts s m) k x q in let l = w.1 in let g = entries_grow core items in (w.0, omega (arith, l, g)))
  | inr q ↦ due_completed core items k x n (grind arith)
]
due_completed core (Completes s m ∷ items) k x n e = elim (cases_Bool (makes_due core (Completes s m) k x)) [
  | inl q ↦ (let w = due_within core (Completes s m) k x q in let l = w.1 in let g = entries_grow core (Completes s m ∷ items) in (w.0, omega (arith, l, g)))
  | inr q ↦ due_completed (complete core m) items k x n (grind arith)
]

-- what is due does not hang on the moments of service
pub due_unserved : (core : Core) (items : List Item) (k x : ℕ) → due_from core items k x ≡ due_from core (without_service items) k x
due_unserved core [] k x = refl
due_unserved core (Serves e ∷ items) k x = due_unserved core items k x
due_unserved core (Byte s b ∷ items) k x = due_unserved core items k x
due_unserved core (Starts s m ∷ items) k x = ap (known_if (makes_due core (Starts s m) k x) core) (due_unserved core items k x)
due_unserved core (Completes s m ∷ items) k x = ap (known_if (makes_due core (Completes s m) k x) core) (due_unserved (complete core m) items k x)

pub end_unserved : (core : Core) (items : List Item) → core_end core items ≡ core_end core (without_service items)
end_unserved core [] = refl
end_unserved core (Completes s m ∷ items) = end_unserved (complete core m) items
end_unserved core (Serves e ∷ items) = end_unserved core items
end_unserved core (Byte s b ∷ items) = end_unserved core items
end_unserved core (Starts s m ∷ items) = end_unserved core items

known_or : (v : Bool) (core : Core) (first second : Option ℕ) → known_if v core (or_later first second) ≡ or_later (known_if v core first) second
known_or v core first second = grind arith

-- of two stretches the first counts
pub due_append : (core : Core) (items more : List Item) (k x : ℕ) → due_from core (items ++ more) k x ≡ or_later (due_from core items k x) (due_from (core_end core items) more k x)
due_append core [] more k x = refl
due_append core (Byte s b ∷ items) more k x = due_append core items more k x
due_append core (Serves e ∷ items) more k x = due_append core items more k x
due_append core (Starts s m ∷ items) more k x = ap (known_if (makes_due core (Starts s m) k x) core) (due_append core items more k x) ∙ known_or (makes_due core (Starts s m) k x) core (due_from core items k x) (due_from (core_end core items) more k x)
due_append core (Completes s m ∷ items) more k x = ap (known_if (makes_due core (Completes s m) k x) core) (due_append (complete core m) items more k x) ∙ known_or (makes_due core (Completes s m) k x) core (due_from (complete core m) items k x) (due_from (core_end (complete core m) items) more k x)

pub end_append : (core : Core) (items more : List Item) → core_end core (items ++ more) ≡ core_end (core_end core items) more
end_append core [] more = refl
end_append core (Completes s m ∷ items) more = end_append (complete core m) items more
end_append core (Serves e ∷ items) more = end_append core items more
end_append core (Byte s b ∷ items) more = end_append core items more
end_append core (Starts s m ∷ items) more = end_append core items more
