-- Of two messages of a side that may complete, neither's bytes are a proper prefix of the other's.
use Rattle.nbd_laws.proofs.Common.{arith, ◌≡◌, ℕ, List, [], ◌∷◌, ◌++◌, refl, sym, ◌∙◌, ap, subst, IsTrue, is_some, false, append-nil, Side, Client, Server, Message, enc, Exporting, More, Whole, judge, judge_in, MayComplete, MayStart, MayStartIn, is_extended, operation_of, option_and_then, target, side, Core, Phase, Transmission, NoProperPrefix}
use Rattle.nbd_laws.proofs.{judge.{SentLemmas.message_bytes, ExactLemmas.{deciding_of, exact_more, exact_whole, taken_by}, SteadyLemmas.IsDeciding, WholeLemmas.{IsReply, IsRequest, as_long, as_short, cookie_read, named_one, reply_read, request_read}}, reading.ReaderLemmas.{Later, Later-trans, at_once}, runs.FollowLemmas.IsBegun}

-- the same message, and nothing after it
abbrev pub IsSame : Message → Message → List ℕ → Type 0
IsSame m n left = (m ≡ n) × (left ≡ [])

-- a message that may complete is no proper prefix of one that the side could have begun and may complete now or later:
-- the one is read to its end where the other goes on
pub same_message : (old now end : Core) (s : Side) (m n : Message) (left : List ℕ) → Later s old now → Later s now end → IsBegun old s m → IsBegun old s n →
    MayComplete end end.phase m → MayComplete now now.phase n → enc m ≡ enc n ++ left → IsSame m n left
same_message old now end s m n [] before between b b' ok ok' e =
    let d : IsDeciding s old = deciding_of old.phase s old m refl b.starts in
    let is : enc m ≡ enc n = e ∙ append-nil (enc n) in
    let at_end = (taken_by old end s m d (Later-trans before between) b.sided b.starts ok).is in
    let at_now = (taken_by old now s n d before b'.sided b'.starts ok').is in
    (sym at_end ∙ ap (λ bytes. (d.F end bytes).message) is ∙ d.one_message end now (enc n) ∙ at_now, refl)
same_message old now end s m n (x ∷ left) before between b b' ok ok' e = absurd (
    let more : judge old now s (enc n) ≡ More = exact_more old now end s m (enc n) (x ∷ left) before between b.sided b.starts ok e tt in
    let whole : judge old now s (enc n) ≡ Whole n = exact_whole old now s n before b'.sided b'.starts ok' in
    let q : More ≡ Whole n = sym more ∙ whole in cc
    )

request_starts : (core : Core) (export : Exporting) (bytes : List ℕ) (m : Message) → (core.disconnected ≡ false) × IsRequest core bytes m → MayStartIn (Transmission export) core Client m
unfolding MayStartIn
request_starts core export bytes m (d, as_short x w) = (d, ap is_extended (sym w.is) ∙ sym x)
request_starts core export bytes m (d, as_long x w) = (d, ap is_extended (sym w.is) ∙ sym x)

reply_starts : (core : Core) (export : Exporting) (bytes : List ℕ) (m : Message) → IsReply export (operation_of core core) core bytes m → MayStartIn (Transmission export) core Server m
unfolding MayStartIn
reply_starts core export bytes m r =
    let c = cookie_read r in
    let f = named_one r in
    (subst (λ o. IsTrue (is_some o)) (sym (ap (λ c. option_and_then (λ k. target k core.entries) c) c.0 ∙ f.1)) refl, c.1)

-- a message that may complete may start where its session stands
starts_now : (core : Core) (s : Side) (m : Message) → side m ≡ s → MayComplete core core.phase m → MayStart core s m
unfolding MayComplete MayStartIn
starts_now core s m sd ok = go core.phase s (subst (λ u. judge_in core.phase core core u (enc m) ≡ Whole m) sd ok)
  where
    go : (phase : Phase) (s : Side) → judge_in phase core core s (enc m) ≡ Whole m → MayStartIn phase core s m
    go (Transmission export) Client e = request_starts core export (enc m) m (request_read core (enc m) m e)
    go (Transmission export) Server e = reply_starts core export (enc m) m (reply_read export (operation_of core core) core (enc m) m e)
    go phase s e = grind arith

-- neither message's bytes are a proper prefix of the other's
pub no_proper_prefix : NoProperPrefix
no_proper_prefix core m n rest sd sn sn' ok ok' e =
    same_message core core core (side n) m n rest at_once at_once (record { sided = sd; are_bytes = message_bytes m sn; starts = starts_now core (side n) m sd ok })
    (record { sided = refl; are_bytes = message_bytes n sn'; starts = starts_now core (side n) n refl ok' }) ok ok' e
