use Rattle.nbd_laws.proofs.Common.{judge, arith, ◌≡◌, ℕ, ◌<◌, ◌⊎◌, List, [], ◌∷◌, ◌++◌, refl, sym, ◌∙◌, ap, subst, Ok, Entry, Side, Client, Server, Message, enc, side, Item, Byte, Starts, Completes, Serves, Pair, ArePairs, Core, IsSendable, MayStart, MayComplete, complete, Both, get, put, IsFilled, Rest, Reader, Reading, old_of, settle, rest_with, on_ok, reads, More, Whole, Bad, IsReached, after_message, with_message}

pub get-put_same : {A : Type 0} (p : Both A) (s : Side) (a : A) → get (put p s a) s ≡ a
get-put_same p s a = grind arith

pub get-put_other : {A : Type 0} (p : Both A) (s t : Side) (a : A) → (s ≡ t → ⊥) → get (put p s a) t ≡ get p t
get-put_other p s t a ne = grind arith

pub put-put : {A : Type 0} (p : Both A) (s : Side) (a b : A) → get p s ≡ b → put (put p s a) s b ≡ p
put-put p s a b e = grind arith

-- one side changes
pub put_both : {A B : Type 0} (P : Side → A → B → Type 0) (p : Both A) (q : Both B) (s : Side) (a : A) (b : B) → P s a b → ((u : Side) → (s ≡ u → ⊥) → P u (get p u) (get q u)) → (u : Side) → P u (get (put p s a) u) (get (put q s b) u)
put_both P p q Client a b here other Client = here
put_both P p q Client a b here other Server = other Server (λ e. cc)
put_both P p q Server a b here other Client = other Client (λ e. cc)
put_both P p q Server a b here other Server = here

pub same_or_not : (s t : Side) → (s ≡ t) ⊎ (s ≡ t → ⊥)
same_or_not s t = grind arith

-- the message that a side is in, with the bytes to come; or bytes that belong to none
pub data Open : Type 0 where
  Idle : Open
  Busy : (message : Message) (left : List ℕ) → Open
  Loose : Open

abbrev pub IsNotBusy : Open → Type 0
IsNotBusy Idle = Unit {0}
IsNotBusy (Busy m left) = ⊥
IsNotBusy Loose = Unit {0}

-- marked captures, read from the left. Where a byte belongs to no message, P holds
pub data Walk (P : Type 0) : Both Open → List Item → Type 0 where
  ended : {o : Both Open} → IsNotBusy (get o Client) → IsNotBusy (get o Server) → Walk P o []
  serving : {o : Both Open} (e : Entry) {items : List Item} → Walk P o items → Walk P o (Serves e ∷ items)
  opening : {o : Both Open} (s : Side) (m : Message) (b : ℕ) (left : List ℕ) {items : List Item} →
      get o s ≡ Idle → enc m ≡ b ∷ left → IsFilled left → Walk P (put o s (Busy m left)) items → Walk P o (Starts s m ∷ Byte s b ∷ items)
  middle : {o : Both Open} (s : Side) (m : Message) (b : ℕ) (left : List ℕ) {items : List Item} →
      get o s ≡ Busy m (b ∷ left) → IsFilled left → Walk P (put o s (Busy m left)) items → Walk P o (Byte s b ∷ items)
  final : {o : Both Open} (s : Side) (m : Message) (b : ℕ) {items : List Item} →
      get o s ≡ Busy m (b ∷ []) → Walk P (put o s Idle) items → Walk P o (Byte s b ∷ Completes s m ∷ items)
  loose : {o : Both Open} (s : Side) (b : ℕ) {items : List Item} →
      P → IsNotBusy (get o s) → Walk P (put o s Loose) items → Walk P o (Byte s b ∷ items)

-- what the other side's completed messages lead to
pub data Later : Side → Core → Core → Type 0 where
  at_once : {s : Side} {c : Core} → Later s c c
  behind : {s : Side} {c d : Core} (m : Message) → (side m ≡ s → ⊥) → MayComplete c c.phase m → Later s (complete c m) d → Later s c d

pub Later-trans : {s : Side} {c d e : Core} → Later s c d → Later s d e → Later s c e
Later-trans at_once k = k
Later-trans (behind m ne ok l) k = behind m ne ok (Later-trans l k)

-- these bytes of a side were judged to go on, one after the other
pub data Kept (s : Side) (old : Core) : Core → List ℕ → Type 0 where
  begun : (b : ℕ) → b < 256 → IsReached old → Kept s old old (b ∷ [])
  kept : {now next : Core} {bytes : List ℕ} (b : ℕ) → b < 256 → Kept s old now bytes → judge old now s bytes ≡ More → Later s now next → IsReached next → Kept s old next (bytes ++ b ∷ [])

-- the reader that the items lead to
abbrev pub led : Reader → List Item → Reader
led reader [] = reader
led reader (Byte s b ∷ items) = led (record reader { rests = put reader.rests s (rest_with reader.core (get reader.rests s) b) }) items
led reader (Starts s m ∷ items) = led reader items
led reader (Completes s m ∷ items) =
    led (with_message reader s (get reader.rests s) m) items
led reader (Serves k ∷ items) = led reader items

abbrev pub with_byte : Reader → Side → ℕ → Reader
with_byte reader s b = record reader { rests = put reader.rests s (rest_with reader.core (get reader.rests s) b) }

abbrev pub IsMoreAt : Core → Side → Rest → Type 0
IsMoreAt core s rest = (judge rest.since core s rest.bytes ≡ More) × Kept s rest.since core rest.bytes

abbrev pub IsMore : Reader → Side → Type 0
IsMore reader s = IsMoreAt reader.core s (get reader.rests s)

-- each byte but the last was judged to go on, or completes its message
abbrev pub Tracks : Reader → List Item → Type 0
Tracks reader [] = Unit {0}
Tracks reader (Starts s m ∷ items) = Tracks reader items
Tracks reader (Serves k ∷ items) = Tracks reader items
Tracks reader (Completes s m ∷ items) = ⊥
Tracks reader (Byte s b ∷ []) = Unit {0}
Tracks reader (Byte s b ∷ Completes t m ∷ items) = (t ≡ s) × Tracks (led reader (Byte s b ∷ Completes s m ∷ [])) items
Tracks reader (Byte s b ∷ Byte t c ∷ items) = IsMore (with_byte reader s b) s × Tracks (with_byte reader s b) (Byte t c ∷ items)
Tracks reader (Byte s b ∷ Starts t m ∷ items) = IsMore (with_byte reader s b) s × Tracks (with_byte reader s b) items
Tracks reader (Byte s b ∷ Serves k ∷ items) = IsMore (with_byte reader s b) s × Tracks (with_byte reader s b) items

-- a whole message is one that the rules allow
pub record IsSoundAt (old now : Core) (s : Side) (bytes : List ℕ) (m : Message) : Type 0 where
  pub encodes : bytes ≡ enc m
  pub sided : side m ≡ s
  pub sendable : IsSendable m
  pub starts : MayStart old s m
  pub completes : MayComplete now now.phase m

abbrev pub IsSound : Type 0
IsSound = (old now : Core) (s : Side) (bytes : List ℕ) (m : Message) → Kept s old now bytes → judge old now s bytes ≡ Whole m → IsSoundAt old now s bytes m

-- a message that a run holds is read as it is
pub record IsExact : Type 0 where
  pub more : (old now then : Core) (s : Side) (m : Message) (bytes left : List ℕ) → Later s old now → Later s now then →
      side m ≡ s → MayStart old s m → MayComplete then then.phase m → enc m ≡ bytes ++ left → IsFilled bytes → IsFilled left → Kept s old now bytes →
      judge old now s bytes ≡ More
  pub whole : (old now : Core) (s : Side) (m : Message) → Later s old now →
      side m ≡ s → MayStart old s m → MayComplete now now.phase m → Kept s old now (enc m) → judge old now s (enc m) ≡ Whole m

pub old-empty : (core : Core) (rest : Rest) → rest.bytes ≡ [] → old_of core rest ≡ core
old-empty core rest e = ap (λ bs. old_of core (record rest { bytes = bs })) e

pub old-filled : (core : Core) (rest : Rest) → IsFilled rest.bytes → old_of core rest ≡ rest.since
old-filled core rest f = grind arith

pub IsFilled-snoc : (bs : List ℕ) (b : ℕ) → IsFilled (bs ++ b ∷ [])
IsFilled-snoc [] b = tt
IsFilled-snoc (c ∷ cs) b = tt

-- a rest was judged to go on before the other side's last messages
pub data Held (core : Core) (s : Side) (rest : Rest) : Type 0 where
  none_held : IsReached core → rest.bytes ≡ [] → Held core s rest
  some_held : IsReached core → (now : Core) → IsFilled rest.bytes → Kept s rest.since now rest.bytes → judge rest.since now s rest.bytes ≡ More → Later s now core → Held core s rest

abbrev pub AreHeld : Reader → Type 0
AreHeld reader = (s : Side) → Held reader.core s (get reader.rests s)

pub reached_of : {core : Core} {s : Side} {rest : Rest} → Held core s rest → IsReached core
reached_of h = grind arith

pub kept_next : (core : Core) (s : Side) (rest : Rest) (b : ℕ) → b < 256 → Held core s rest → Kept s (rest_with core rest b).since core (rest_with core rest b).bytes
kept_next core s rest b lt (none_held rc e) =
    subst (λ c. Kept s c core (rest.bytes ++ b ∷ [])) (sym (old-empty core rest e)) (subst (λ l. Kept s core core (l ++ b ∷ [])) (sym e) (begun b lt rc))
kept_next core s rest b lt (some_held rc now f k m l) =
    subst (λ c. Kept s c core (rest.bytes ++ b ∷ [])) (sym (old-filled core rest f)) (kept b lt k m l rc)

held_with : (rests : Both Rest) (core next : Core) (s : Side) (rest : Rest) → ((u : Side) → Held core u (get rests u)) → Held next s rest → ((u : Side) → (s ≡ u → ⊥) → Held core u (get rests u) → Held next u (get rests u)) → (u : Side) → Held next u (get (put rests s rest) u)
held_with rests core next s rest all here other u = put_both (λ u r _. Held next u r) rests rests s rest rest here (λ u ne. other u ne (all u)) u

pub held_more : (reader : Reader) (s : Side) (b : ℕ) → b < 256 → AreHeld reader →
    judge (rest_with reader.core (get reader.rests s) b).since reader.core s (rest_with reader.core (get reader.rests s) b).bytes ≡ More → AreHeld (with_byte reader s b)
held_more reader s b lt all m = held_with reader.rests reader.core reader.core s (rest_with reader.core (get reader.rests s) b) all
    (some_held (reached_of (all s)) reader.core (IsFilled-snoc (get reader.rests s).bytes b) (kept_next reader.core s (get reader.rests s) b lt (all s)) m at_once) (λ u ne h. h)

later_held : (core : Core) (m : Message) (u : Side) (rest : Rest) → (side m ≡ u → ⊥) → IsSendable m → MayComplete core core.phase m → Held core u rest → Held (complete core m) u rest
later_held core m u rest ne sn ok (none_held rc e) = none_held (after_message m rc sn ok) e
later_held core m u rest ne sn ok (some_held rc now f k j l) = some_held (after_message m rc sn ok) now f k j (Later-trans l (behind m ne ok at_once))

pub held_whole : (reader : Reader) (s : Side) (m : Message) (rest : Rest) → rest.bytes ≡ [] → AreHeld reader → side m ≡ s → IsSendable m → MayComplete reader.core reader.core.phase m → (u : Side) → Held (complete reader.core m) u (get (put reader.rests s rest) u)
held_whole reader s m rest e all sd sn ok = held_with reader.rests reader.core (complete reader.core m) s rest all (none_held (after_message m (reached_of (all s)) sn ok) e)
    (λ u ne h. later_held reader.core m u (get reader.rests u) (λ q. ne (sym sd ∙ q)) sn ok h)

held_on : IsSound → (reader mid : Reader) (p : Pair) (ps : List Pair) → p.byte < 256 → AreHeld reader → ((next : Reader) → AreHeld next → reads next ps ≡ Ok mid → AreHeld mid) →
    (r : Reading) → judge (rest_with reader.core (get reader.rests p.from) p.byte).since reader.core p.from (rest_with reader.core (get reader.rests p.from) p.byte).bytes ≡ r →
    on_ok (settle reader p.from (rest_with reader.core (get reader.rests p.from) p.byte) r) (λ next. reads next ps) ≡ Ok mid → AreHeld mid
held_on sound reader mid p ps lt held ih More is h = ih _ (held_more reader p.from p.byte lt held is) h
held_on sound reader mid p ps lt held ih (Whole m) is h =
    let ok : IsSoundAt (rest_with reader.core (get reader.rests p.from) p.byte).since reader.core p.from (rest_with reader.core (get reader.rests p.from) p.byte).bytes m =
    sound _ _ _ _ m (kept_next reader.core p.from (get reader.rests p.from) p.byte lt (held p.from)) is in
    ih _ (held_whole reader p.from m (record (rest_with reader.core (get reader.rests p.from) p.byte) { bytes = [] }) refl held ok.sided ok.sendable ok.completes) h
held_on sound reader mid p ps lt held ih (Bad f) is h = absurd (cc)

-- what was read without a fault was judged so
pub reads_held : IsSound → (ps : List Pair) (reader mid : Reader) → ArePairs ps → AreHeld reader → reads reader ps ≡ Ok mid → AreHeld mid
reads_held sound [] reader mid lt held e = let q : reader ≡ mid = cc in subst (AreHeld) q held
reads_held sound (p ∷ ps) reader mid lt held e = held_on sound reader mid p ps lt.0 held (λ next hd h. reads_held sound ps next mid lt.1 hd h) _ refl e
