-- The judge is sound: a message that it calls whole is one that the rules allow.
use Rattle.nbd_laws.proofs.Common.{IsSendable, side, enc, read_by, reply_in, arith, ◌≡◌, ℕ, ◌⊎◌, List, [], ◌∷◌, refl, sym, ◌∙◌, ap, subst, inl, inr, Some, is_some, IsTrue, Side, Client, Server, Message, AreBytes, turn, AreBytes-snoc, Exporting, MayStartIn, MayComplete, request_of_reply, is_extended, Phase, Transmission, Core, OutOfTurn, judge_in, judge, Reading, More, Whole, Bad, IsReached}
use Rattle.nbd_laws.proofs.{reading.ReaderLemmas.{Kept, begun, kept, Later, at_once, Later-trans, IsSoundAt, IsSound}, judge.{PhaseLemmas.{IsTransmitting, completes_in_turn, Later-disconnected, Later-transmission, Later-turn, Later-extended}, SoundClientLemmas.{IsAsked, request_sound}, SoundNegotiationLemmas.{IsFit, negotiation_sound}, SoundServerLemmas.{IsReplying, reply_sound}, TidyLemmas.tidy}}

pub kept_bytes : {s : Side} {old now : Core} {bytes : List ℕ} → Kept s old now bytes → AreBytes bytes
kept_bytes (begun b lt r) = (lt, tt)
kept_bytes (kept {bytes = bytes} b lt k m l r) = AreBytes-snoc bytes b (kept_bytes k) lt

pub kept_later : {s : Side} {old now : Core} {bytes : List ℕ} → Kept s old now bytes → Later s old now
kept_later (begun b lt r) = at_once
kept_later (kept b lt k m l r) = Later-trans (kept_later k) l

pub kept_reached : {s : Side} {old now : Core} {bytes : List ℕ} → Kept s old now bytes → IsReached now
kept_reached h = grind arith

abbrev pub IsFirst : Side → Core → Core → List ℕ → Type 0
IsFirst s old now bytes = ((old ≡ now) × ((b : ℕ) × (bytes ≡ b ∷ []))) ⊎ ((b : ℕ) × (judge old old s (b ∷ []) ≡ More))

-- the first byte is this one, or it was judged to go on
pub kept_first : {s : Side} {old now : Core} {bytes : List ℕ} → Kept s old now bytes → IsFirst s old now bytes
kept_first (begun b lt r) = inl (refl, (b, refl))
kept_first {s} {old} (kept {now = now} {bytes = bytes} b lt k m l r) = elim (kept_first k) [
  | inl (same, (c, is)) ↦ inr (c, ap (λ l. judge old old s l) (sym is) ∙ ap (λ x. judge old x s bytes) same ∙ m)
  | inr h ↦ inr h
]

-- in turn, or in transmission
in_turn : (phase : Phase) (old now : Core) (s : Side) (bytes : List ℕ) → (judge_in phase old now s bytes ≡ Bad OutOfTurn) ⊎ (turn phase ≡ Some s) ⊎ IsTransmitting phase
in_turn phase old now s bytes = grind arith

-- a side's bytes that were not refused began in its turn, or in transmission
pub turn_of_reading : {s : Side} {old now : Core} {bytes : List ℕ} (r : Reading) → Kept s old now bytes → judge old now s bytes ≡ r → (r ≡ Bad OutOfTurn → ⊥) → (turn old.phase ≡ Some s) ⊎ IsTransmitting old.phase
turn_of_reading {s} {old} {now} {bytes} r k e n = grind (arith, kept_first, in_turn)

-- what reading says of a message's own bytes
read_whole : (now : Core) (phase : Phase) (s : Side) (bytes : List ℕ) (m : Message) → bytes ≡ enc m → side m ≡ s → judge_in phase now now s bytes ≡ Whole m → MayComplete now phase m
unfolding MayComplete
read_whole now phase s bytes m is sd e = (λ i. judge_in phase now now (sd i) (sym is i)) ∙ e

sound_in_turn : (now : Core) (s : Side) (bytes : List ℕ) (m : Message) → AreBytes bytes → turn now.phase ≡ Some s → judge now now s bytes ≡ Whole m → IsSoundAt now now s bytes m
unfolding MayStartIn
sound_in_turn now s bytes m a t e =
    let f : IsFit s bytes m = negotiation_sound now.phase now s bytes m a t e in
    record { encodes = f.encodes; sided = f.sided; sendable = f.sendable; starts = grind arith; completes = read_whole now now.phase s bytes m f.encodes f.sided e }

server_starts : (export : Exporting) (core : Core) (m : Message) → IsTrue (is_some (request_of_reply core m)) → is_extended m ≡ core.extended → MayStartIn (Transmission export) core Server m
unfolding MayStartIn
server_starts export core m h x = (h, x)

sound_in_transmission : (old now : Core) (s : Side) (bytes : List ℕ) (m : Message) (export : Exporting) → Later s old now → IsReached now → AreBytes bytes → old.phase ≡ Transmission export → now.phase ≡ Transmission export →
    judge_in (Transmission export) old now s bytes ≡ Whole m → IsSoundAt old now s bytes m
unfolding MayStartIn
sound_in_transmission old now Client bytes m export l r a t0 t1 e =
    let q : IsAsked now bytes m = request_sound now bytes m a e in
    record {
      encodes = q.fit.encodes;
      sided = q.fit.sided;
      sendable = q.fit.sendable;
      starts = subst (λ p. MayStartIn p old Client m) (sym t0) ((grind (arith, sym (Later-disconnected l) ∙ q.open_still, q.headed ∙ Later-extended l export t0)));
      completes = subst (λ p. MayComplete now p m) (sym t1) (read_whole now (Transmission export) Client bytes m q.fit.encodes q.fit.sided e);
    }
sound_in_transmission old now Server bytes m export l r a t0 t1 e =
    let q : IsReplying old now export bytes m = reply_sound old now export bytes m l t0 (tidy r) a e in
    let at_end : judge_in (Transmission export) now now Server bytes ≡ Whole m = ap (λ o. read_by (reply_in now.extended export now o bytes) bytes) (sym q.named) ∙ e in
    record {
      encodes = q.fit.encodes;
      sided = q.fit.sided;
      sendable = q.fit.sendable;
      starts = subst (λ p. MayStartIn p old Server m) (sym t0) (server_starts export old m q.starts (q.headed ∙ Later-extended l export t0));
      completes = subst (λ p. MayComplete now p m) (sym t1) (read_whole now (Transmission export) Server bytes m q.fit.encodes q.fit.sided at_end);
    }

-- the fields of a message that may complete fit, where its encoding is of bytes
pub sendable_of : {core : Core} (m : Message) → IsReached core → MayComplete core core.phase m → AreBytes (enc m) → IsSendable m
unfolding MayComplete
sendable_of {core} m r ok a = elim (completes_in_turn core core.phase m ok) [
  | inl t ↦ (negotiation_sound core.phase core (side m) (enc m) m a t ok).sendable
  | inr (export, p) ↦ go (side m) export p (subst (λ q. judge_in q core core (side m) (enc m) ≡ Whole m) p ok)
]
  where
    go : (s : Side) (export : Exporting) → core.phase ≡ Transmission export → judge_in (Transmission export) core core s (enc m) ≡ Whole m → IsSendable m
    go Client export p e = (request_sound core (enc m) m a e).fit.sendable
    go Server export p e = (reply_sound core core export (enc m) m at_once p (tidy r) a e).fit.sendable

pub sound : IsSound
sound old now s bytes m k e = elim (turn_of_reading (Whole m) k e (λ q. (cc))) [
  | inl t ↦ (let same : old ≡ now = Later-turn (kept_later k) t in
      subst (λ c. IsSoundAt c now s bytes m) (sym same) (sound_in_turn now s bytes m (kept_bytes k) (subst (λ (c : Core). turn c.phase ≡ Some s) same t) (subst (λ c. judge c now s bytes ≡ Whole m) same e)))
  | inr (export, t0) ↦ (let t1 : now.phase ≡ Transmission export = Later-transmission (kept_later k) export t0 in
      sound_in_transmission old now s bytes m export (kept_later k) (kept_reached k) (kept_bytes k) t0 t1 (subst (λ p. judge_in p old now s bytes ≡ Whole m) t1 e))
]
