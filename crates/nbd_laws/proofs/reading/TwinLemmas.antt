-- Two runs with the same bytes have the same marks, but for those of service.
use Rattle.nbd_laws.proofs.{Common.{arith, ◌≡◌, ℕ, List, [], ◌∷◌, ◌++◌, refl, sym, ◌∙◌, ap, subst, append_assoc, append-nil, Side, Client, Server, Message, enc, Item, Byte, Starts, Completes, pairs, Pair, MayComplete, complete, side, Core, Both, get, put, IsFilled}, runs.FollowLemmas.{IsBegun, Follows, IsBare, HasEnd, IsSidedOpen, completes_later}, judge.SameLemmas.same_message}
use Rattle.nbd_laws.proofs.reading.ReaderLemmas.{put_both, get-put_same, Open, Idle, Busy, IsNotBusy, Walk, ended, serving, opening, middle, final, loose, Later, Later-trans, at_once, behind}

-- two messages that a side may be in, of which the same bytes have come
pub record AreTwins (core : Core) (s : Side) (m n : Message) (left left' : List ℕ) : Type 0 where
  pub old : Core
  pub bytes : List ℕ
  pub before : Later s old core
  pub begun : IsBegun old s m
  pub begun_too : IsBegun old s n
  pub encodes : enc m ≡ bytes ++ left
  pub encodes_too : enc n ≡ bytes ++ left'

abbrev pub Twin : Core → Side → Open → Open → Type 0
Twin core s Idle Idle = Unit {0}
Twin core s (Busy m left) (Busy n left') = AreTwins core s m n left left'
Twin core s _ _ = ⊥

abbrev pub Twins : Core → Both Open → Both Open → Type 0
Twins core o o' = (s : Side) → Twin core s (get o s) (get o' s)

abbrev pub AreEqual : Both Open → List Item → Both Open → List Item → Type 0
AreEqual o items o' items' = (items ≡ items') × ((s : Side) → get o s ≡ get o' s)

-- what is claimed of the items after these open messages
abbrev pub Claim : Both Open → List Item → Type 0
Claim o items = (o' : Both Open) (items' : List Item) (core : Core) → Walk ⊥ o' items' → Follows core items → Follows core items' → IsBare items → IsBare items' → Twins core o o' → pairs items ≡ pairs items' → AreEqual o items o' items'

-- one side changes on both
twins_with : (core : Core) (o o' : Both Open) (s : Side) (x x' : Open) → Twins core o o' → Twin core s x x' → Twins core (put o s x) (put o' s x')
twins_with core o o' s x x' all here u = put_both (Twin core) o o' s x x' here (λ u ne. all u) u

equal_with : (o o' : Both Open) (s : Side) (x x' : Open) → ((u : Side) → get (put o s x) u ≡ get (put o' s x') u) → get o s ≡ get o' s → (u : Side) → get o u ≡ get o' u
equal_with o o' Client x x' all here Client = here
equal_with o o' Client x x' all here Server = all Server
equal_with o o' Server x x' all here Client = all Client
equal_with o o' Server x x' all here Server = here

-- a completed message of one side leaves the twins of the other
twins_moved : (core : Core) (s : Side) (m : Message) (o o' : Both Open) → side m ≡ s → MayComplete core core.phase m → Twins core o o' → Twins (complete core m) (put o s Idle) (put o' s Idle)
twins_moved core s m o o' sd ok all u = put_both (Twin (complete core m)) o o' s Idle Idle tt (λ u ne. moved u (get o u) (get o' u) ne (all u)) u
  where
    moved : (u : Side) (x x' : Open) → (s ≡ u → ⊥) → Twin core u x x' → Twin (complete core m) u x x'
    moved u Idle Idle ne t = tt
    moved u (Busy n left) (Busy n' left') ne t = record {
      old = t.old;
      bytes = t.bytes;
      before = Later-trans t.before (behind m (λ q. ne (sym sd ∙ q)) ok at_once);
      begun = t.begun;
      begun_too = t.begun_too;
      encodes = t.encodes;
      encodes_too = t.encodes_too;
    }
    moved u x' x ne t = grind (arith, Later-trans, behind)

-- each open message is of its side
sided_first : (core : Core) (o o' : Both Open) → Twins core o o' → (u : Side) → IsSidedOpen u (get o u)
sided_first core o o' all u = grind arith

sided_second : (core : Core) (o o' : Both Open) → Twins core o o' → (u : Side) → IsSidedOpen u (get o' u)
sided_second core o o' all u = grind arith

-- how a walk takes its next byte
pub data Next (o : Both Open) (items : List Item) (s : Side) (b : ℕ) : Type 0 where
  opens : (m : Message) (left : List ℕ) (rest : List Item) → get o s ≡ Idle → enc m ≡ b ∷ left → IsFilled left → Walk ⊥ (put o s (Busy m left)) rest → items ≡ Starts s m ∷ Byte s b ∷ rest → Next o items s b
  goes_on : (m : Message) (left : List ℕ) (rest : List Item) → get o s ≡ Busy m (b ∷ left) → IsFilled left → Walk ⊥ (put o s (Busy m left)) rest → items ≡ Byte s b ∷ rest → Next o items s b
  ends : (m : Message) (rest : List Item) → get o s ≡ Busy m (b ∷ []) → Walk ⊥ (put o s Idle) rest → items ≡ Byte s b ∷ Completes s m ∷ rest → Next o items s b

next_is : {o : Both Open} {items : List Item} (s t : Side) (b c : ℕ) (ps qs : List Pair) → Next o items t c → record { from = t; byte = c } ∷ qs ≡ record { from = s; byte = b } ∷ ps → Next o items s b
next_is {o} {items} s t b c ps qs n e =
    let p : record { from = t; byte = c } ≡ record { from = s; byte = b } = cc in
    subst (λ (p : Pair). Next o items p.from p.byte) p n

pub next : {o : Both Open} {items : List Item} → Walk ⊥ o items → IsBare items → (s : Side) (b : ℕ) (ps : List Pair) → pairs items ≡ record { from = s; byte = b } ∷ ps → Next o items s b
next (ended c d) bare s b ps e = absurd (cc)
next (serving k w) bare s b ps e = absurd bare
next (opening t m c left {items = items} i f g w) bare s b ps e = next_is s t b c ps (pairs items) (opens m left items i f g w refl) e
next (middle t m c left {items = items} i f w) bare s b ps e = next_is s t b c ps (pairs items) (goes_on m left items i f w refl) e
next (final t m c {items = items} i w) bare s b ps e = next_is s t b c ps (pairs items) (ends m items i w refl) e
next (loose t c p i w) bare s b ps e = absurd p

nothing_next : {o : Both Open} {items : List Item} → Walk ⊥ o items → IsBare items → pairs items ≡ [] → (items ≡ []) × IsNotBusy (get o Client) × IsNotBusy (get o Server)
nothing_next x bare e = grind arith

both_idle : (core : Core) (s : Side) (x x' : Open) → Twin core s x x' → IsNotBusy x → x ≡ x'
both_idle core s x x' t n = grind arith

-- of two twins, one cannot end where the other goes on
no_early_end : (core : Core) (s : Side) (m n : Message) (b : ℕ) (left : List ℕ) → AreTwins core s n m (b ∷ left) (b ∷ []) → MayComplete core core.phase m → HasEnd s core n → IsFilled left → ⊥
no_early_end core s m n b left t ok end f =
    let e : enc n ≡ enc m ++ left = t.encodes ∙ sym (append_assoc t.bytes (b ∷ []) left) ∙ ap (λ l. l ++ left) (sym t.encodes_too) in
    grind (arith, e, append_assoc, same_message)

grown_twins : (core : Core) (s : Side) (m n : Message) (b : ℕ) (left left' : List ℕ) → AreTwins core s m n (b ∷ left) (b ∷ left') → AreTwins core s m n left left'
grown_twins core s m n b left left' t = record {
  old = t.old;
  bytes = t.bytes ++ b ∷ [];
  before = t.before;
  begun = t.begun;
  begun_too = t.begun_too;
  encodes = t.encodes ∙ sym (append_assoc t.bytes (b ∷ []) left);
  encodes_too = t.encodes_too ∙ sym (append_assoc t.bytes (b ∷ []) left');
}

module _ (o o' : Both Open) (core : Core) (s : Side) (b : ℕ) (items' : List Item) (follow' : Follows core items') (bare' : IsBare items') (twins : Twins core o o') where
  -- the first walk opens a message
  opening_step : (m : Message) (left : List ℕ) (items : List Item) → get o s ≡ Idle → enc m ≡ b ∷ left → Claim (put o s (Busy m left)) items →
      Follows core (Starts s m ∷ Byte s b ∷ items) → IsBare items → pairs (Byte s b ∷ items) ≡ pairs items' → Next o' items' s b → AreEqual o (Starts s m ∷ Byte s b ∷ items) o' items'
  opening_step m left items i e claim follow bare ps (opens n left' rest i' e' f w is) =
      let fl : Follows core (Starts s n ∷ Byte s b ∷ rest) = subst (Follows core) is follow' in
      let tw : Twin core s (Busy m left) (Busy n left') = record {
        old = core;
        bytes = b ∷ [];
        before = at_once;
        begun = follow.0;
        begun_too = fl.0;
        encodes = e;
        encodes_too = e';
      } in
      let q : pairs (Byte s b ∷ items) ≡ pairs (Byte s b ∷ rest) = ps ∙ ap pairs is in
      let r : AreEqual (put o s (Busy m left)) items (put o' s (Busy n left')) rest =
      claim (put o' s (Busy n left')) rest core w follow.1 fl.1 bare (subst IsBare is bare') (twins_with core o o' s (Busy m left) (Busy n left') twins tw) (cc) in
      let same : Busy m left ≡ Busy n left' = sym (get-put_same o s (Busy m left)) ∙ r.1 s ∙ get-put_same o' s (Busy n left') in
      let mn : m ≡ n = cc in (
        ap (λ x. Starts s x ∷ Byte s b ∷ items) mn ∙ ap (λ l. Starts s n ∷ Byte s b ∷ l) r.0 ∙ sym is,
        equal_with o o' s (Busy m left) (Busy n left') r.1 (i ∙ sym i'),
      )
  opening_step m left items i e claim follow bare ps (goes_on n left' rest i' f w is) = grind (arith, twins)
  opening_step m left items i e claim follow bare ps (ends n rest i' w is) =
      absurd (subst (λ x. Twin core s x (Busy n (b ∷ []))) i (subst (λ x. Twin core s (get o s) x) i' (twins s)))

  -- what the twins of this side are
  twin_here : (x x' : Open) → get o s ≡ x → get o' s ≡ x' → Twin core s x x'
  twin_here x x' i i' = subst (λ y. Twin core s y x') i (subst (λ y. Twin core s (get o s) y) i' (twins s))

  -- the first walk goes on with a message
  middle_step : (m : Message) (left : List ℕ) (items : List Item) → get o s ≡ Busy m (b ∷ left) → IsFilled left → Walk ⊥ (put o s (Busy m left)) items → Claim (put o s (Busy m left)) items →
      Follows core items → IsBare items → pairs (Byte s b ∷ items) ≡ pairs items' → Next o' items' s b → AreEqual o (Byte s b ∷ items) o' items'
  middle_step m left items i f w claim follow bare ps (opens n left' rest i' e' f' w' is) = absurd (twin_here (Busy m (b ∷ left)) Idle i i')
  middle_step m left items i f w claim follow bare ps (goes_on n left' rest i' f' w' is) =
      let tw : AreTwins core s m n left left' = grown_twins core s m n b left left' (twin_here (Busy m (b ∷ left)) (Busy n (b ∷ left')) i i') in
      let q : pairs (Byte s b ∷ items) ≡ pairs (Byte s b ∷ rest) = ps ∙ ap pairs is in
      let r : AreEqual (put o s (Busy m left)) items (put o' s (Busy n left')) rest =
      claim (put o' s (Busy n left')) rest core w' follow (subst (Follows core) is follow') bare (subst IsBare is bare') (twins_with core o o' s (Busy m left) (Busy n left') twins tw) (cc) in
      let same : Busy m left ≡ Busy n left' = sym (get-put_same o s (Busy m left)) ∙ r.1 s ∙ get-put_same o' s (Busy n left') in (
        ap (λ l. Byte s b ∷ l) r.0 ∙ sym is,
        equal_with o o' s (Busy m left) (Busy n left') r.1 (i ∙ (grind arith) ∙ sym i'),
      )
  middle_step m left items i f w claim follow bare ps (ends n rest i' w' is) =
      let tw : AreTwins core s m n (b ∷ left) (b ∷ []) = twin_here (Busy m (b ∷ left)) (Busy n (b ∷ [])) i i' in
      let fl : Follows core (Byte s b ∷ Completes s n ∷ rest) = subst (Follows core) is follow' in
      let sd : (u : Side) → IsSidedOpen u (get (put o s (Busy m left)) u) = sided_first core (put o s (Busy m left)) (put o' s (Busy n [])) (twins_with core o o' s (Busy m left) (Busy n []) twins (grown_twins core s m n b left [] tw)) in
      absurd (no_early_end core s n m b left tw fl.0 (completes_later w core follow sd s m left (get-put_same o s (Busy m left))) f)

  -- the first walk ends a message
  final_step : (m : Message) (items : List Item) → get o s ≡ Busy m (b ∷ []) → Claim (put o s Idle) items →
      Follows core (Byte s b ∷ Completes s m ∷ items) → IsBare items → pairs (Byte s b ∷ items) ≡ pairs items' → Next o' items' s b → AreEqual o (Byte s b ∷ Completes s m ∷ items) o' items'
  final_step m items i claim follow bare ps (opens n left' rest i' e' f' w' is) = absurd (twin_here (Busy m (b ∷ [])) Idle i i')
  final_step m items i claim follow bare ps (goes_on n left' rest i' f' w' is) =
      let tw : AreTwins core s m n (b ∷ []) (b ∷ left') = twin_here (Busy m (b ∷ [])) (Busy n (b ∷ left')) i i' in
      let fl : Follows core (Byte s b ∷ rest) = subst (Follows core) is follow' in
      let sd : (u : Side) → IsSidedOpen u (get (put o' s (Busy n left')) u) = sided_second core (put o s (Busy m [])) (put o' s (Busy n left')) (twins_with core o o' s (Busy m []) (Busy n left') twins (grown_twins core s m n b [] left' tw)) in
      absurd (no_early_end core s m n b left' ((grind arith)) follow.0 (completes_later w' core fl sd s n left' (get-put_same o' s (Busy n left'))) f')
  final_step m items i claim follow bare ps (ends n rest i' w' is) =
      let tw : AreTwins core s m n (b ∷ []) (b ∷ []) = twin_here (Busy m (b ∷ [])) (Busy n (b ∷ [])) i i' in
      let fl : Follows core (Byte s b ∷ Completes s n ∷ rest) = subst (Follows core) is follow' in
      let mn : m ≡ n = (same_message tw.old core core s m n [] tw.before at_once tw.begun tw.begun_too follow.0 fl.0
      (tw.encodes ∙ sym tw.encodes_too ∙ sym (append-nil (enc n)))).0 in
      let q : pairs (Byte s b ∷ items) ≡ pairs (Byte s b ∷ rest) = ps ∙ ap pairs is in
      let r : AreEqual (put o s Idle) items (put o' s Idle) rest =
      claim (put o' s Idle) rest (complete core m) w' follow.1 (subst (λ x. Follows (complete core x) rest) (sym mn) fl.1) bare (subst IsBare is bare')
      (twins_moved core s m o o' tw.begun.sided follow.0 twins) (cc) in (
        ap (λ x. Byte s b ∷ Completes s x ∷ items) mn ∙ ap (λ l. Byte s b ∷ Completes s n ∷ l) r.0 ∙ sym is,
        equal_with o o' s Idle Idle r.1 (i ∙ ap (λ x. Busy x (b ∷ [])) mn ∙ sym i'),
      )

pub twins : {o : Both Open} {items : List Item} → Walk ⊥ o items → Claim o items
twins {o} (ended c d) o' items' core w' follow follow' bare bare' tw e =
    let n : (items' ≡ []) × IsNotBusy (get o' Client) × IsNotBusy (get o' Server) = nothing_next w' bare' (sym e) in
    (sym n.0, elim [ Client ↦ both_idle core Client o.client o'.client (tw Client) c | Server ↦ both_idle core Server o.server o'.server (tw Server) d ])
twins (serving k w) o' items' core w' follow follow' bare bare' tw e = absurd bare
twins {o} (opening s m b left {items = items} i f g w) o' items' core w' follow follow' bare bare' tw e =
    opening_step o o' core s b items' follow' bare' tw m left items i f (twins w) follow bare e (next w' bare' s b (pairs items) (sym e))
twins {o} (middle s m b left {items = items} i f w) o' items' core w' follow follow' bare bare' tw e =
    middle_step o o' core s b items' follow' bare' tw m left items i f w (twins w) follow bare e (next w' bare' s b (pairs items) (sym e))
twins {o} (final s m b {items = items} i w) o' items' core w' follow follow' bare bare' tw e =
    final_step o o' core s b items' follow' bare' tw m items i (twins w) follow bare e (next w' bare' s b (pairs items) (sym e))
twins (loose s b p i w) o' items' core w' follow follow' bare bare' tw e = absurd p
