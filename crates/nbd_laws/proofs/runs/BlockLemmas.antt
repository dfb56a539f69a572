-- Marked captures by blocks are those that are read from the left.
use Rattle.nbd_laws.proofs.Common.{arith, ◌≡◌, ℕ, List, [], ◌∷◌, ◌++◌, map, flat_map, refl, sym, ◌∙◌, ap, subst, inl, inr, append_assoc, whole, Side, Client, Server, Message, enc, Item, Byte, Starts, Completes, Serves, of_side, block, MayFollow, IsTight, IsMarkedBut, Both, get, put, IsFilled}
use Rattle.nbd_laws.proofs.{reading.ReaderLemmas.{put_both, get-put_same, get-put_other, same_or_not, Open, Idle, Busy, Loose, IsNotBusy, Walk, ended, serving, opening, middle, final, loose}, runs.{TraceLemmas.enc-long, FollowLemmas.each_with}}

pub byte_same : (s : Side) (b : ℕ) (items : List Item) → of_side s (Byte s b ∷ items) ≡ Byte s b ∷ of_side s items
byte_same s b items = grind arith

pub byte_other : (s t : Side) (b : ℕ) (items : List Item) → (t ≡ s → ⊥) → of_side s (Byte t b ∷ items) ≡ of_side s items
byte_other s t b items ne = grind arith

pub starts_same : (s : Side) (m : Message) (items : List Item) → of_side s (Starts s m ∷ items) ≡ Starts s m ∷ of_side s items
starts_same s m items = grind arith

pub starts_other : (s t : Side) (m : Message) (items : List Item) → (t ≡ s → ⊥) → of_side s (Starts t m ∷ items) ≡ of_side s items
starts_other s t m items ne = grind arith

pub completes_same : (s : Side) (m : Message) (items : List Item) → of_side s (Completes s m ∷ items) ≡ Completes s m ∷ of_side s items
completes_same s m items = grind arith

pub completes_other : (s t : Side) (m : Message) (items : List Item) → (t ≡ s → ⊥) → of_side s (Completes t m ∷ items) ≡ of_side s items
completes_other s t m items ne = grind arith

abbrev pub bytes_of : Side → List ℕ → List Item
bytes_of s bs = map (λ b. Byte s b) bs

-- what is to come of an open message
abbrev pub to_come : Side → Open → List Item
to_come s Idle = []
to_come s (Busy m left) = bytes_of s left ++ Completes s m ∷ []
to_come s Loose = []

-- the rest of a side: its open message, whole messages, loose bytes
pub record IsLeft (P : Type 0) (s : Side) (open_ : Open) (items : List Item) : Type 0 where
  pub messages : List Message
  pub rest : List ℕ
  pub blocks : of_side s items ≡ to_come s open_ ++ (flat_map (block s) messages ++ bytes_of s rest)
  pub loosely : open_ ≡ Loose → messages ≡ []
  pub strays : IsFilled rest → P

abbrev Lefts : Type 0 → Both Open → List Item → Type 0
Lefts P o items = (s : Side) → IsLeft P s (get o s) items

-- an item of neither side, or of the other side, changes nothing
left_same : {P : Type 0} {s : Side} {x : Open} {items items' : List Item} → of_side s items' ≡ of_side s items → IsLeft P s x items → IsLeft P s x items'
left_same e l = record { messages = l.messages; rest = l.rest; blocks = e ∙ l.blocks; loosely = l.loosely; strays = l.strays }

opening_left : {P : Type 0} (s : Side) (m : Message) (b : ℕ) (left : List ℕ) (items : List Item) → enc m ≡ b ∷ left → IsLeft P s (Busy m left) items → IsLeft P s Idle (Starts s m ∷ Byte s b ∷ items)
opening_left s m b left items e l =
    let f : List Item = flat_map (block s) l.messages in
    let r : List Item = bytes_of s l.rest in
    record {
      messages = m ∷ l.messages;
      rest = l.rest;
      blocks = starts_same s m (Byte s b ∷ items) ∙ ap (λ x. Starts s m ∷ x) (byte_same s b items ∙ ap (λ x. Byte s b ∷ x) l.blocks)
          ∙ ap (λ bs. ((Starts s m ∷ bytes_of s bs) ++ Completes s m ∷ []) ++ (f ++ r)) (sym e) ∙ sym (append_assoc (block s m) f r);
      loosely = λ q. absurd (cc);
      strays = l.strays;
    }

final_left : {P : Type 0} (s : Side) (m : Message) (b : ℕ) (items : List Item) → IsLeft P s Idle items → IsLeft P s (Busy m (b ∷ [])) (Byte s b ∷ Completes s m ∷ items)
final_left s m b items l = grind (arith, byte_same, completes_same)

loose_left : {P : Type 0} (s : Side) (b : ℕ) (items : List Item) (x : Open) → P → IsNotBusy x → IsLeft P s Loose items → IsLeft P s x (Byte s b ∷ items)
loose_left {P} s b items x p n l = go x n
  where
    go : (x : Open) → IsNotBusy x → IsLeft P s x (Byte s b ∷ items)
    go (Busy m left) n = absurd n
    go x n = record { messages = []; rest = b ∷ l.rest; blocks = grind (arith, byte_same); loosely = λ e. refl; strays = λ f. p }

-- one side takes a step and the other does not
stepped : {P : Type 0} (o : Both Open) (t : Side) (x : Open) (items items' : List Item) → Lefts P (put o t x) items → (IsLeft P t x items → IsLeft P t (get o t) items') → ((s : Side) → (t ≡ s → ⊥) → of_side s items' ≡ of_side s items) → Lefts P o items'
stepped {P} o t x items items' all same other s = elim (same_or_not t s) [
  | inl q ↦ subst (λ u. IsLeft P u (get o u) items') q (same (subst (λ y. IsLeft P t y items) (get-put_same o t x) (all t)))
  | inr ne ↦ subst (λ y. IsLeft P s y items') (get-put_other o t s x ne) (left_same (other s ne) (all s))
]

-- each side of a walk
lefts : {P : Type 0} {o : Both Open} {items : List Item} → Walk P o items → Lefts P o items
lefts {P} {o} (ended c d) s = go (get o s) (elim s as (λ s. IsNotBusy (get o s)) [ Client ↦ c | Server ↦ d ])
  where
    go : (x : Open) → IsNotBusy x → IsLeft P s x []
    go Idle n = record { messages = []; rest = []; blocks = refl; loosely = λ e. refl; strays = λ f. absurd f }
    go (Busy m left) n = absurd n
    go Loose n = record { messages = []; rest = []; blocks = refl; loosely = λ e. refl; strays = λ f. absurd f }
lefts {P} (serving k w) s = left_same refl (lefts w s)
lefts {P} {o} (opening t m b left {items = items} i e f w) s =
    stepped o t (Busy m left) items (Starts t m ∷ Byte t b ∷ items) (lefts w)
    (λ l. subst (λ y. IsLeft P t y (Starts t m ∷ Byte t b ∷ items)) (sym i) (opening_left t m b left items e l))
    (λ u ne. starts_other u t m (Byte t b ∷ items) ne ∙ byte_other u t b items ne) s
lefts {P} {o} (middle t m b left {items = items} i f w) s =
    stepped o t (Busy m left) items (Byte t b ∷ items) (lefts w)
    (λ l. subst (λ y. IsLeft P t y (Byte t b ∷ items)) (sym i) ((grind (arith, byte_same)))) (λ u ne. byte_other u t b items ne) s
lefts {P} {o} (final t m b {items = items} i w) s =
    stepped o t Idle items (Byte t b ∷ Completes t m ∷ items) (lefts w)
    (λ l. subst (λ y. IsLeft P t y (Byte t b ∷ Completes t m ∷ items)) (sym i) (final_left t m b items l))
    (λ u ne. byte_other u t b (Completes t m ∷ items) ne ∙ completes_other u t m items ne) s
lefts {P} {o} (loose t b {items = items} p i w) s =
    stepped o t Loose items (Byte t b ∷ items) (lefts w) (λ l. loose_left t b items (get o t) p i l) (λ u ne. byte_other u t b items ne) s

abbrev pub IsCalm : Item → Type 0
IsCalm (Byte s b) = Unit {0}
IsCalm (Starts s m) = ⊥
IsCalm (Completes s m) = Unit {0}
IsCalm (Serves k) = Unit {0}

abbrev pub IsNoEnd : Item → Type 0
IsNoEnd (Completes s m) = ⊥
IsNoEnd _ = Unit {0}

calm_before : (x y : Item) → IsCalm x → IsNoEnd y → MayFollow x y
calm_before x y c n = grind arith

tight_after : {P : Type 0} {o : Both Open} {items : List Item} → Walk P o items → (x : Item) → IsCalm x → IsTight (x ∷ items)
tight_after (ended c d) x k = tt
tight_after (serving j w) x k = (calm_before x (Serves j) k tt, tight_after w (Serves j) tt)
tight_after (opening t m b left i e f w) x k = (calm_before x (Starts t m) k tt, (refl, tight_after w (Byte t b) tt))
tight_after (middle t m b left i f w) x k = (calm_before x (Byte t b) k tt, tight_after w (Byte t b) tt)
tight_after (final t m b i w) x k = (calm_before x (Byte t b) k tt, (refl, tight_after w (Completes t m) tt))
tight_after (loose t b p i w) x k = (calm_before x (Byte t b) k tt, tight_after w (Byte t b) tt)

tight_tail : (x : Item) (items : List Item) → IsTight (x ∷ items) → IsTight items
tight_tail x items h = grind arith

abbrev pub Idles : Both Open
Idles = record { client = Idle; server = Idle }

-- a walk from nothing is a marked capture
pub walk_is_marked : {P : Type 0} {items : List Item} → Walk P Idles items → (client : List ℕ) × (server : List ℕ) × IsMarkedBut items client server × (IsFilled client → P) × (IsFilled server → P)
walk_is_marked {P} {items} w =
    let c : IsLeft P Client Idle items = lefts w Client in
    let s : IsLeft P Server Idle items = lefts w Server in (
      c.rest,
      s.rest,
      record {
        client_side = record { messages = c.messages; blocks = c.blocks };
        server_side = record { messages = s.messages; blocks = s.blocks };
        tight = tight_tail (Serves (whole 0)) items (tight_after w (Serves (whole 0)) tt);
      },
      c.strays,
      s.strays,
    )

-- what stands after an open message
abbrev pub beyond : Side → List Message → List ℕ → List Item
beyond s ms rest = flat_map (block s) ms ++ bytes_of s rest

starts_in : (s : Side) (m : Message) (items : List Item) (x : Open) (ms : List Message) (rest : List ℕ) → (x ≡ Loose → ms ≡ []) → Starts s m ∷ items ≡ to_come s x ++ beyond s ms rest →
    (x ≡ Idle) × ((ms' : List Message) × (items ≡ (bytes_of s (enc m) ++ Completes s m ∷ []) ++ beyond s ms' rest))
starts_in s m items Idle [] [] lo e = absurd (cc)
starts_in s m items Idle (n ∷ ms) rest lo e = grind (arith, append_assoc)
starts_in s m items (Busy n []) ms rest lo e = absurd (cc)
starts_in s m items Loose [] [] lo e = absurd (cc)
starts_in s m items x ms rest lo e = grind (arith, append_assoc)

-- the open message that a byte goes on with, or none
pub data ByteIn (s : Side) (b : ℕ) (items : List Item) (x : Open) (ms : List Message) (rest : List ℕ) : Type 0 where
  of_message : (m : Message) (left : List ℕ) → x ≡ Busy m (b ∷ left) → items ≡ to_come s (Busy m left) ++ beyond s ms rest → ByteIn s b items x ms rest
  of_none : (rest' : List ℕ) → IsFilled rest → IsNotBusy x → ms ≡ [] → items ≡ bytes_of s rest' → ByteIn s b items x ms rest

byte_in : (s : Side) (b : ℕ) (items : List Item) (x : Open) (ms : List Message) (rest : List ℕ) → Byte s b ∷ items ≡ to_come s x ++ beyond s ms rest → ByteIn s b items x ms rest
byte_in s b items Idle [] [] e = absurd (cc)
byte_in s b items Idle [] (c ∷ rest) e = of_none rest tt tt refl (cc)
byte_in s b items (Busy n []) ms rest e = absurd (cc)
byte_in s b items (Busy n (c ∷ left)) ms rest e =
    let bc : c ≡ b = cc in
    of_message n left (ap (λ x. Busy n (x ∷ left)) bc) (cc)
byte_in s b items Loose [] [] e = absurd (cc)
byte_in s b items Loose [] (c ∷ rest) e = of_none rest tt tt refl (cc)
byte_in s b items x ms rest e = absurd (cc)

ends_in : (s : Side) (m : Message) (items : List Item) (x : Open) (ms : List Message) (rest : List ℕ) → Completes s m ∷ items ≡ to_come s x ++ beyond s ms rest →
    (x ≡ Busy m []) × (items ≡ beyond s ms rest)
ends_in s m items Idle [] [] e = absurd (cc)
ends_in s m items (Busy n []) ms rest e = let nm : n ≡ m = cc in (ap (λ k. Busy k []) nm, cc)
ends_in s m items (Busy n (c ∷ left)) ms rest e = absurd (cc)
ends_in s m items Loose [] [] e = absurd (cc)
ends_in s m items x ms rest e = absurd (cc)

nothing_in : (s : Side) (x : Open) (ms : List Message) (rest : List ℕ) → [] ≡ to_come s x ++ beyond s ms rest → IsNotBusy x
nothing_in s (Busy n []) ms rest e = absurd (cc)
nothing_in s x ms rest e = grind arith

-- the last byte's message completes at once
ends_now : (s : Side) (m : Message) (items : List Item) (y : List Item) (x : Item) → (MayFollow (Starts s m) x → ⊥) → IsTight (x ∷ items) → of_side s items ≡ Completes s m ∷ y → ⊥
ends_now s m (Byte u b ∷ items) y x nb t e = elim (same_or_not u s) [
  | inl q ↦ (let e' : of_side s (Byte s b ∷ items) ≡ Completes s m ∷ y = subst (λ v. of_side s (Byte v b ∷ items) ≡ Completes s m ∷ y) q e in
      let c : Byte s b ∷ of_side s items ≡ Completes s m ∷ y = sym (byte_same s b items) ∙ e' in (cc))
  | inr ne ↦ ends_now s m items y (Byte u b) (λ q. ne (sym q)) t.1 (sym (byte_other s u b items ne) ∙ e)
]
ends_now s m (Starts u n ∷ items) y x nb t e = elim (same_or_not u s) [
  | inl q ↦ (let e' : of_side s (Starts s n ∷ items) ≡ Completes s m ∷ y = subst (λ v. of_side s (Starts v n ∷ items) ≡ Completes s m ∷ y) q e in
      let c : Starts s n ∷ of_side s items ≡ Completes s m ∷ y = sym (starts_same s n items) ∙ e' in (cc))
  | inr ne ↦ ends_now s m items y (Starts u n) (λ q. q) t.1 (sym (starts_other s u n items ne) ∙ e)
]
ends_now s m (Serves k ∷ items) y x nb t e = ends_now s m items y (Serves k) (λ q. q) t.1 e
ends_now s m (Completes u n ∷ items) y (Byte v b) nb t e = elim (same_or_not u s) [
  | inl q ↦ nb (sym (t.0 ∙ q))
  | inr ne ↦ ends_now s m items y (Completes u n) (λ q. q) t.1 (sym (completes_other s u n items ne) ∙ e)
]
ends_now s m items y x nb t e = grind (arith, same_or_not, byte_same, byte_other, starts_same, starts_other, completes_other)

abbrev IsUnfinished : Side → Open → Type 0
IsUnfinished s Idle = Unit {0}
IsUnfinished s (Busy m left) = IsFilled left
IsUnfinished s Loose = Unit {0}

abbrev Walks : Type 0 → List Item → Type 0
Walks P items = (o : Both Open) → ((s : Side) → IsUnfinished s (get o s)) → Lefts P o items → IsTight items → Walk P o items

-- one side of the rest changes
lefts_put : {P : Type 0} (o : Both Open) (t : Side) (x : Open) (items items' : List Item) → Lefts P o items' → IsLeft P t x items → ((s : Side) → (t ≡ s → ⊥) → of_side s items' ≡ of_side s items) → Lefts P (put o t x) items
lefts_put {P} o t x items items' all here other s = put_both (λ u y _. IsLeft P u y items) o o t x x here (λ u ne. left_same (sym (other u ne)) (all u)) s

unstarted : {P : Type 0} (t : Side) (m : Message) (b : ℕ) (items : List Item) → Walks P items → Walks P (Starts t m ∷ Byte t b ∷ items)
unstarted {P} t m b items next o un l tight =
    let lt : IsLeft P t (get o t) (Starts t m ∷ Byte t b ∷ items) = l t in
    let st : (get o t ≡ Idle) × ((ms' : List Message) × (Byte t b ∷ of_side t items ≡ (bytes_of t (enc m) ++ Completes t m ∷ []) ++ beyond t ms' lt.rest)) =
    starts_in t m _ (get o t) lt.messages lt.rest lt.loosely (sym (starts_same t m (Byte t b ∷ items) ∙ ap (λ x. Starts t m ∷ x) (byte_same t b items)) ∙ lt.blocks) in
    go (enc m) refl st.0 st.1.0 lt.rest lt.strays st.1.1
  where
    go : (bs : List ℕ) → enc m ≡ bs → get o t ≡ Idle → (ms : List Message) (rest : List ℕ) → (IsFilled rest → P) → Byte t b ∷ of_side t items ≡ (bytes_of t bs ++ Completes t m ∷ []) ++ beyond t ms rest → Walk P o (Starts t m ∷ Byte t b ∷ items)
    go [] e i ms rest str h = absurd (cc)
    go (c ∷ []) e i ms rest str h = absurd (enc-long m c e)
    go (c ∷ d ∷ left) e i ms rest str h =
        let cb : c ≡ b = cc in
        let h' : of_side t items ≡ (bytes_of t (d ∷ left) ++ Completes t m ∷ []) ++ beyond t ms rest = cc in
        opening t m b (d ∷ left) i (e ∙ ap (λ x. x ∷ d ∷ left) cb) tt
        (next (put o t (Busy m (d ∷ left))) (each_with IsUnfinished o t (Busy m (d ∷ left)) un tt)
        (lefts_put o t (Busy m (d ∷ left)) items (Starts t m ∷ Byte t b ∷ items) l (record { messages = ms; rest = rest; blocks = h'; loosely = λ q. absurd (cc); strays = str })
        (λ s ne. starts_other s t m (Byte t b ∷ items) ne ∙ byte_other s t b items ne))
        (tight_tail (Byte t b) items tight.1))

-- a byte that is not the last of its message
unbyted : {P : Type 0} (t : Side) (b : ℕ) (items : List Item) → Walks P items → ((m : Message) (y : List Item) → of_side t items ≡ Completes t m ∷ y → ⊥) → Walks P (Byte t b ∷ items)
unbyted {P} t b items next more o un l tight =
    let lt : IsLeft P t (get o t) (Byte t b ∷ items) = l t in
    go lt (byte_in t b _ (get o t) lt.messages lt.rest (sym (byte_same t b items) ∙ lt.blocks))
  where
    go : (lt : IsLeft P t (get o t) (Byte t b ∷ items)) → ByteIn t b (of_side t items) (get o t) lt.messages lt.rest → Walk P o (Byte t b ∷ items)
    go lt (of_message m [] i h) = absurd (more m (beyond t lt.messages lt.rest) h)
    go lt (of_message m (c ∷ left) i h) =
        middle t m b (c ∷ left) i tt (next (put o t (Busy m (c ∷ left))) (each_with IsUnfinished o t (Busy m (c ∷ left)) un tt)
        (lefts_put o t (Busy m (c ∷ left)) items (Byte t b ∷ items) l (record { messages = lt.messages; rest = lt.rest; blocks = h; loosely = λ q. absurd (cc); strays = lt.strays }) (λ s ne. byte_other s t b items ne))
        (tight_tail (Byte t b) items tight))
    go lt (of_none rest f n e h) =
        loose t b (lt.strays f) n (next (put o t Loose) (each_with IsUnfinished o t Loose un tt)
        (lefts_put o t Loose items (Byte t b ∷ items) l (record { messages = []; rest = rest; blocks = h; loosely = λ q. refl; strays = λ g. lt.strays f }) (λ s ne. byte_other s t b items ne))
        (tight_tail (Byte t b) items tight))

-- the last byte of its message
unended : {P : Type 0} (t u : Side) (m : Message) (b : ℕ) (items : List Item) → Walks P items → Walks P (Byte t b ∷ Completes u m ∷ items)
unended {P} t u m b items next o un l tight =
    let l' : Lefts P o (Byte t b ∷ Completes t m ∷ items) = subst (λ v. Lefts P o (Byte t b ∷ Completes v m ∷ items)) (sym tight.0) l in
    let lt : IsLeft P t (get o t) (Byte t b ∷ Completes t m ∷ items) = l' t in
    subst (λ v. Walk P o (Byte t b ∷ Completes v m ∷ items)) tight.0
    (go l' lt (byte_in t b _ (get o t) lt.messages lt.rest (sym (byte_same t b (Completes t m ∷ items) ∙ ap (λ x. Byte t b ∷ x) (completes_same t m items)) ∙ lt.blocks)))
  where
    go : Lefts P o (Byte t b ∷ Completes t m ∷ items) → (lt : IsLeft P t (get o t) (Byte t b ∷ Completes t m ∷ items)) → ByteIn t b (Completes t m ∷ of_side t items) (get o t) lt.messages lt.rest → Walk P o (Byte t b ∷ Completes t m ∷ items)
    go l' lt (of_message n [] i h) =
        let nm : n ≡ m = cc in
        let h' : of_side t items ≡ beyond t lt.messages lt.rest = cc in
        final t m b (i ∙ ap (λ k. Busy k (b ∷ [])) nm) (next (put o t Idle) (each_with IsUnfinished o t Idle un tt)
        (lefts_put o t Idle items (Byte t b ∷ Completes t m ∷ items) l' (record { messages = lt.messages; rest = lt.rest; blocks = h'; loosely = λ q. absurd (cc); strays = lt.strays })
        (λ s ne. byte_other s t b (Completes t m ∷ items) ne ∙ completes_other s t m items ne))
        (tight_tail (Completes u m) items tight.1))
    go l' lt (of_message n (c ∷ left) i h) = absurd (cc)
    go l' lt (of_none [] f n e h) = absurd (cc)
    go l' lt (of_none (c ∷ rest) f n e h) = absurd (cc)

-- marked captures by blocks are read from the left
unblocked : {P : Type 0} (items : List Item) → Walks P items
unblocked {P} [] o un l t = ended (nothing_in Client o.client _ _ (l Client).blocks) (nothing_in Server o.server _ _ (l Server).blocks)
unblocked {P} (Serves k ∷ items) o un l t = serving k (unblocked items o un (λ s. left_same refl (l s)) (tight_tail (Serves k) items t))
unblocked {P} (Completes u m ∷ items) o un l t =
    let e : get o u ≡ Busy m [] = (ends_in u m _ (get o u) (l u).messages (l u).rest (sym (completes_same u m items) ∙ (l u).blocks)).0 in
    absurd (subst (IsUnfinished u) e (un u))
unblocked {P} (Starts u m ∷ Byte v b ∷ items) o un l t = subst (λ w. Walk P o (Starts u m ∷ Byte w b ∷ items)) t.0
    (unstarted u m b items (unblocked items) o un (subst (λ w. Lefts P o (Starts u m ∷ Byte w b ∷ items)) (sym t.0) l) (refl, subst (λ w. IsTight (Byte w b ∷ items)) (sym t.0) t.1))
unblocked {P} (Starts u m ∷ []) o un l t =
    let lu : IsLeft P u (get o u) (Starts u m ∷ []) = l u in
    let st : (get o u ≡ Idle) × ((ms' : List Message) × ([] ≡ (bytes_of u (enc m) ++ Completes u m ∷ []) ++ beyond u ms' lu.rest)) =
    starts_in u m [] (get o u) lu.messages lu.rest lu.loosely (sym (starts_same u m []) ∙ lu.blocks) in
    absurd (nothing_in u (Busy m (enc m)) st.1.0 lu.rest st.1.1)
unblocked {P} (Byte u b ∷ Completes v m ∷ items) o un l t = unended u v m b items (unblocked items) o un l t
unblocked {P} (Byte u b ∷ []) o un l t = unbyted u b [] (unblocked []) (λ m y e. (cc)) o un l t
unblocked {P} (Byte u b ∷ Byte v c ∷ items) o un l t = unbyted u b (Byte v c ∷ items) (unblocked (Byte v c ∷ items)) (λ n y e. ends_now u n (Byte v c ∷ items) y (Serves (whole 0)) (λ q. q) (tt, t.1) e) o un l t
unblocked {P} (Byte u b ∷ Starts v m ∷ items) o un l t = unbyted u b (Starts v m ∷ items) (unblocked (Starts v m ∷ items)) (λ n y e. ends_now u n (Starts v m ∷ items) y (Serves (whole 0)) (λ q. q) (tt, t.1) e) o un l t
unblocked {P} (Byte u b ∷ Serves k ∷ items) o un l t = unbyted u b (Serves k ∷ items) (unblocked (Serves k ∷ items)) (λ m y e. ends_now u m items y (Serves k) (λ q. q) t.1 e) o un l t
unblocked {P} items o un l t = elim t.0 [ ]

-- a marked capture is read from the left
pub marked_is_walk : {P : Type 0} (items : List Item) (client server : List ℕ) → (IsFilled client → P) → (IsFilled server → P) → IsMarkedBut items client server → Walk P Idles items
marked_is_walk items client server cs ss m = grind (arith, unblocked)
