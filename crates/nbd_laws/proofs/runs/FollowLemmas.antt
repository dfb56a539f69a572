-- The rules on messages alone, whatever was served.
use Rattle.nbd_laws.proofs.Common.{enc, AreBytes, ◌≡◌, ℕ, List, [], ◌∷◌, refl, sym, ◌∙◌, ap, subst, inl, inr, Side, Client, Server, Message, Item, Byte, Starts, Completes, Serves, without_service, pairs, MayStart, MayComplete, Obeys, complete, side, Core, State, Both, get, put}
use Rattle.nbd_laws.proofs.reading.ReaderLemmas.{put_both, get-put_same, get-put_other, same_or_not, Open, Idle, Busy, Loose, IsNotBusy, Walk, ended, serving, opening, middle, final, loose, Later, at_once, behind}

-- what a side needs to begin a message
pub record IsBegun (old : Core) (s : Side) (m : Message) : Type 0 where
  pub sided : side m ≡ s
  pub are_bytes : AreBytes (enc m)
  pub starts : MayStart old s m

-- each mark of a message is allowed where it stands
abbrev pub Follows : Core → List Item → Type 0
Follows core [] = Unit {0}
Follows core (Byte s b ∷ items) = Follows core items
Follows core (Starts s m ∷ items) = IsBegun core s m × Follows core items
Follows core (Completes s m ∷ items) = MayComplete core core.phase m × Follows (complete core m) items
Follows core (Serves k ∷ items) = Follows core items

pub follows : (items : List Item) (state : State) → Obeys state items → Follows state.core items
follows [] state ob = tt
follows (Byte s b ∷ items) state ob = follows items state ob.1
follows (Starts s m ∷ items) state ob = (record { sided = ob.0.0; are_bytes = ob.0.1; starts = ob.0.2 }, follows items state ob.1)
follows (Completes s m ∷ items) state ob = (ob.0.0, follows items _ ob.1)
follows (Serves k ∷ items) state ob = follows items _ ob.1

-- nothing of this speaks of service
abbrev pub IsBare : List Item → Type 0
IsBare [] = Unit {0}
IsBare (Byte s b ∷ items) = IsBare items
IsBare (Starts s m ∷ items) = IsBare items
IsBare (Completes s m ∷ items) = IsBare items
IsBare (Serves k ∷ items) = ⊥

pub bare : (items : List Item) → IsBare (without_service items)
bare [] = tt
bare (Byte s b ∷ items) = bare items
bare (item ∷ items) = bare items

pub follows_unserved : (items : List Item) (core : Core) → Follows core items → Follows core (without_service items)
follows_unserved [] core f = tt
follows_unserved (Starts s m ∷ items) core f = (f.0, follows_unserved items core f.1)
follows_unserved (Completes s m ∷ items) core f = (f.0, follows_unserved items (complete core m) f.1)
follows_unserved (item ∷ items) core f = follows_unserved items core f

pub walk_unserved : {P : Type 0} {o : Both Open} {items : List Item} → Walk P o items → Walk P o (without_service items)
walk_unserved (ended c s) = ended c s
walk_unserved (serving k w) = walk_unserved w
walk_unserved (opening s m b left e f g w) = opening s m b left e f g (walk_unserved w)
walk_unserved (middle s m b left e f w) = middle s m b left e f (walk_unserved w)
walk_unserved (final s m b e w) = final s m b e (walk_unserved w)
walk_unserved (loose s b p e w) = loose s b p e (walk_unserved w)

pub pairs_unserved : (items : List Item) → pairs (without_service items) ≡ pairs items
pairs_unserved [] = refl
pairs_unserved (Byte s b ∷ items) = ap (λ l. record { from = s; byte = b } ∷ l) (pairs_unserved items)
pairs_unserved (item ∷ items) = pairs_unserved items

abbrev pub IsSidedOpen : Side → Open → Type 0
IsSidedOpen s Idle = Unit {0}
IsSidedOpen s (Busy m left) = side m ≡ s
IsSidedOpen s Loose = Unit {0}

-- one side changes
pub each_with : (P : Side → Open → Type 0) (o : Both Open) (s : Side) (x : Open) → ((u : Side) → P u (get o u)) → P s x → (u : Side) → P u (get (put o s x) u)
each_with P o s x all h u = put_both (λ u y _. P u y) o o s x x h (λ u ne. all u) u

-- a message that was started completes later
pub record HasEnd (s : Side) (core : Core) (m : Message) : Type 0 where
  pub end : Core
  pub later : Later s core end
  pub completes : MayComplete end end.phase m

pub completes_later : {P : Type 0} {o : Both Open} {items : List Item} (w : Walk P o items) (core : Core) → Follows core items → ((u : Side) → IsSidedOpen u (get o u)) →
    (s : Side) (m : Message) (left : List ℕ) → get o s ≡ Busy m left → HasEnd s core m
completes_later (ended c d) core ob sd Client m left e = absurd (subst IsNotBusy e c)
completes_later (ended c d) core ob sd Server m left e = absurd (subst IsNotBusy e d)
completes_later (serving k w) core ob sd s m left e = completes_later w core ob sd s m left e
completes_later {o} (opening t n b rest i f g w) core ob sd s m left e = elim (same_or_not t s) [
  | inl q ↦ (let i' : get o s ≡ Idle = subst (λ u. get o u ≡ Idle) q i in absurd (cc))
  | inr ne ↦ completes_later w core ob.1 (each_with IsSidedOpen o t (Busy n rest) sd ob.0.sided) s m left (get-put_other o t s (Busy n rest) ne ∙ e)
]
completes_later {o} (middle t n b rest i f w) core ob sd s m left e =
    let sd' : side n ≡ t = subst (IsSidedOpen t) i (sd t) in
    elim (same_or_not t s) [
      | inl q ↦ (let i' : get o s ≡ Busy n (b ∷ rest) = subst (λ u. get o u ≡ Busy n (b ∷ rest)) q i in
          let nm : n ≡ m = cc in
          subst (HasEnd s core) nm (completes_later w core ob (each_with IsSidedOpen o t (Busy n rest) sd sd') s n rest (subst (λ u. get (put o t (Busy n rest)) u ≡ Busy n rest) q (get-put_same o t (Busy n rest)))))
      | inr ne ↦ completes_later w core ob (each_with IsSidedOpen o t (Busy n rest) sd sd') s m left (get-put_other o t s (Busy n rest) ne ∙ e)
    ]
completes_later {o} (final t n b i w) core ob sd s m left e =
    let sd' : side n ≡ t = subst (IsSidedOpen t) i (sd t) in
    elim (same_or_not t s) [
      | inl q ↦ (let i' : get o s ≡ Busy n (b ∷ []) = subst (λ u. get o u ≡ Busy n (b ∷ [])) q i in
          let nm : n ≡ m = cc in
          record { end = core; later = at_once; completes = subst (λ x. MayComplete core core.phase x) nm ob.0 })
      | inr ne ↦ (let r : HasEnd s (complete core n) m = completes_later w (complete core n) ob.1 (each_with IsSidedOpen o t Idle sd tt) s m left (get-put_other o t s Idle ne ∙ e) in
          record { end = r.end; later = behind n (λ q. ne (sym sd' ∙ q)) ob.0 r.later; completes = r.completes })
    ]
completes_later {o} (loose t b p i w) core ob sd s m left e = elim (same_or_not t s) [
  | inl q ↦ absurd (subst IsNotBusy (subst (λ u. get o u ≡ Busy m left) (sym q) e) i)
  | inr ne ↦ completes_later w core ob (each_with IsSidedOpen o t Loose sd tt) s m left (get-put_other o t s Loose ne ∙ e)
]
