-- A run but for open bytes without them is a run.
use Rattle.nbd_laws.proofs.Common.{◌≡◌, ℕ, List, [], ◌∷◌, length, refl, sym, ◌∙◌, ap, subst, append-nil, arith, lt-ltb, Side, Client, Server, Item, Byte, Starts, Completes, Serves, completed_messages, pairs, Pair, OpenBytesEndRuns, first_bytes, bytes_from, IsRunOf, Obeys, State, start_of, Both, get, put}
use Rattle.nbd_laws.proofs.{reading.ReaderLemmas.{Busy, Idle, IsNotBusy, Loose, Open, Walk, ended, final, get-put_same, loose, middle, opening, serving}, runs.{BlockLemmas.{Idles, marked_is_walk}, RunLemmas.run_of, RunByteLemmas.{AreBytesOf, run_bytes}}}

-- all items but the bytes of no completed message
abbrev kept : {P : Type 0} {o : Both Open} {items : List Item} → Walk P o items → List Item
kept (ended c d) = []
kept (serving k w) = Serves k ∷ kept w
kept (opening s m b left is f g w) = Starts s m ∷ Byte s b ∷ kept w
kept (middle s m b left is g w) = Byte s b ∷ kept w
kept (final s m b is w) = Byte s b ∷ Completes s m ∷ kept w
kept (loose s b p is w) = kept w

-- a side with open bytes is idle without them
abbrev idle : Open → Open
idle Idle = Idle
idle (Busy m left) = Busy m left
idle Loose = Idle

abbrev idles : Both Open → Both Open
idles o = record { client = idle o.client; server = idle o.server }

idles-put : (o : Both Open) (s : Side) (x : Open) → idles (put o s x) ≡ put (idles o) s (idle x)
idles-put o s x = grind arith

get-idles : (o : Both Open) (s : Side) → get (idles o) s ≡ idle (get o s)
get-idles o s = grind arith

calm : (x : Open) → IsNotBusy x → IsNotBusy (idle x)
calm x h = grind arith

kept_walk : {P : Type 0} {o : Both Open} {items : List Item} (w : Walk P o items) → Walk ⊥ (idles o) (kept w)
kept_walk {o = o} (ended c d) = ended (calm o.client c) (calm o.server d)
kept_walk (serving k w) = serving k (kept_walk w)
kept_walk {o = o} (opening s m b left is f g w) = opening s m b left (get-idles o s ∙ ap idle is) f g (subst (λ x. Walk ⊥ x (kept w)) (idles-put o s (Busy m left)) (kept_walk w))
kept_walk {o = o} (middle s m b left is g w) = middle s m b left (get-idles o s ∙ ap idle is) g (subst (λ x. Walk ⊥ x (kept w)) (idles-put o s (Busy m left)) (kept_walk w))
kept_walk {o = o} (final s m b is w) = final s m b (get-idles o s ∙ ap idle is) (subst (λ x. Walk ⊥ x (kept w)) (idles-put o s Idle) (kept_walk w))
kept_walk {o = o} (loose s b p is w) = subst (λ x. Walk ⊥ x (kept w)) (idles-put o s Loose ∙ (grind arith)) (kept_walk w)

kept_obeys : {P : Type 0} {o : Both Open} {items : List Item} (w : Walk P o items) (state : State) → Obeys state items → Obeys state (kept w)
kept_obeys (ended c d) state h = tt
kept_obeys (serving k w) state h = (h.0, kept_obeys w _ h.1)
kept_obeys (opening s m b left is f g w) state h = (h.0, (tt, kept_obeys w state h.1.1))
kept_obeys (middle s m b left is g w) state h = (tt, kept_obeys w state h.1)
kept_obeys (final s m b is w) state h = (tt, (h.1.0, kept_obeys w _ h.1.1))
kept_obeys (loose s b p is w) state h = kept_obeys w state h.1

kept_completed : {P : Type 0} {o : Both Open} {items : List Item} (w : Walk P o items) → completed_messages (kept w) ≡ completed_messages items
kept_completed (ended c d) = refl
kept_completed (serving k w) = kept_completed w
kept_completed (opening s m b left is f g w) = kept_completed w
kept_completed (middle s m b left is g w) = kept_completed w
kept_completed (final s m b is w) = ap (λ l. m ∷ l) (kept_completed w)
kept_completed (loose s b p is w) = kept_completed w

-- how many bytes of a side are kept
abbrev count : Side → List Item → ℕ
count s items = length (bytes_from s (pairs items))

-- a side with open bytes keeps none after them
put-same_or : (o : Both Open) (s t : Side) (x : Open) → get o t ≡ Loose → (s ≡ t → x ≡ Loose) → get (put o s x) t ≡ Loose
put-same_or o s t x e h = grind arith

none_kept : {P : Type 0} {o : Both Open} {items : List Item} (w : Walk P o items) (t : Side) → get o t ≡ Loose → count t (kept w) ≡ 0
none_kept (ended c d) t e = refl
none_kept (serving k w) t e = none_kept w t e
none_kept {o = o} (opening s m b left is f g w) t e = other s t is e (none_kept w t (put-same_or o s t (Busy m left) e (λ q. (let z : get o s ≡ Loose = ap (get o) q ∙ e in let y : Idle ≡ Loose = sym is ∙ z in absurd (cc)))))
  where
    other : (s t : Side) → get o s ≡ Idle → get o t ≡ Loose → count t (kept w) ≡ 0 → count t (Starts s m ∷ Byte s b ∷ kept w) ≡ 0
    other s t i l h = grind arith
none_kept {o = o} (middle s m b left is g w) t e = other s t is e (none_kept w t (put-same_or o s t (Busy m left) e (λ q. (let z : get o s ≡ Loose = ap (get o) q ∙ e in let y : Busy m (b ∷ left) ≡ Loose = sym is ∙ z in absurd (cc)))))
  where
    other : (s t : Side) → get o s ≡ Busy m (b ∷ left) → get o t ≡ Loose → count t (kept w) ≡ 0 → count t (Byte s b ∷ kept w) ≡ 0
    other s t i l h = grind arith
none_kept {o = o} (final s m b is w) t e = other s t is e (none_kept w t (put-same_or o s t Idle e (λ q. (let z : get o s ≡ Loose = ap (get o) q ∙ e in let y : Busy m (b ∷ []) ≡ Loose = sym is ∙ z in absurd (cc)))))
  where
    other : (s t : Side) → get o s ≡ Busy m (b ∷ []) → get o t ≡ Loose → count t (kept w) ≡ 0 → count t (Byte s b ∷ Completes s m ∷ kept w) ≡ 0
    other s t i l h = grind arith
none_kept {o = o} (loose s b p is w) t e = none_kept w t (put-same_or o s t Loose e (λ q. refl))

-- one more kept byte
kept_byte : (s : Side) (b : ℕ) (items : List Item) (ps : List Pair) → pairs items ≡ first_bytes (count Client items) (count Server items) ps →
    record { from = s; byte = b } ∷ pairs items ≡ first_bytes (count Client (Byte s b ∷ items)) (count Server (Byte s b ∷ items)) (record { from = s; byte = b } ∷ ps)
kept_byte s b items ps h = grind (arith, lt-ltb)

kept_pairs : {P : Type 0} {o : Both Open} {items : List Item} (w : Walk P o items) → pairs (kept w) ≡ first_bytes (count Client (kept w)) (count Server (kept w)) (pairs items)
kept_pairs (ended c d) = refl
kept_pairs (serving k w) = kept_pairs w
kept_pairs (opening s m b left {items = items} is f g w) = kept_byte s b (kept w) (pairs items) (kept_pairs w)
kept_pairs (middle s m b left {items = items} is g w) = kept_byte s b (kept w) (pairs items) (kept_pairs w)
kept_pairs (final s m b {items = items} is w) = kept_byte s b (kept w) (pairs items) (kept_pairs w)
kept_pairs {o = o} (loose s b {items = items} p is w) = grind (arith, kept w, pairs items, none_kept w s (get-put_same o s Loose), kept_pairs w)

pub open_bytes_end_runs : OpenBytesEndRuns
open_bytes_end_runs profile items client server run =
    let w : Walk (Unit {0}) Idles items = marked_is_walk items client server (λ f. tt) (λ f. tt) run.marked in
    let whole : IsRunOf profile (kept w) = run_of (λ x. x) (kept_walk w) (kept_obeys w (start_of profile) run.obeys) in
    let bytes : AreBytesOf (kept w) [] [] = run_bytes (kept w) [] [] whole in
    grind (arith, w, whole, bytes, marked_is_walk, run_of, kept_walk, kept_obeys, run_bytes, append-nil, kept_completed, kept_pairs)
