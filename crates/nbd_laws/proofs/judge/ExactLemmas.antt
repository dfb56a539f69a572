-- The judge is exact: it takes each message that the rules allow, at its last byte and not before.
use Rattle.nbd_laws.proofs.Common.{◌≡◌, ℕ, ◌+◌, List, [], ◌++◌, length, refl, sym, ◌∙◌, ap, subst, None, Err, nat_lt, is_some, IsTrue, arith, length-append, ltb-false, ltb-true, Profile, Side, Client, Server, Message, enc, ArePairs, Pair, Item, pairs, number_at, Exporting, IsRunOf, MayComplete, MayStart, MayStartIn, request_of_reply, option_and_then, side, Core, Phase, Greet, Flags, Choosing, Naming, Aborting, Answering, Transmission, target, WireFault, Decision, operation_of, reply_in, request_by, judge, judge_in, read_by, reading_by_decision, IsFilled, More, Whole, reads, fresh_of}
use Rattle.nbd_laws.proofs.{judge.{DecideLemmas.request_unless, AwaitedLemmas.{in_head, in_payload}, PhaseLemmas.{IsAppended, Later-appended, Later-transmission, Later-turn, target-append}, SteadyLemmas.{IsDeciding, IsSteady, deciding}, WholeLemmas.{IsWhole, cookie_read, reply_read, whole}}, reading.ReaderLemmas.{IsExact, Later, Later-trans}, runs.RunLemmas.no_run}

-- a reply answers the request that it answered when it started
same_named : (old now : Core) (cookie : ℕ) → IsAppended old now → IsTrue (is_some (target cookie old.entries)) → operation_of now now cookie ≡ operation_of old now cookie
same_named old now cookie a began = grind (arith, target-append)

-- so its bytes are read as they are by what has completed now
same_reply : (old now : Core) (export : Exporting) (m : Message) → Later Server old now → old.phase ≡ Transmission export → IsTrue (is_some (request_of_reply old m)) → judge_in (Transmission export) now now Server (enc m) ≡ Whole m → judge_in (Transmission export) old now Server (enc m) ≡ Whole m
same_reply old now export m l t st e =
    let c = (cookie_read (reply_read export (operation_of now now) now (enc m) m e)).0 in
    let began = subst (λ o. IsTrue (is_some (option_and_then (λ k. target k old.entries) o))) c st in
    ap (λ o. read_by (reply_in now.extended export now o (enc m)) (enc m)) (sym (same_named old now (number_at 8 8 (enc m)) (Later-appended l export t) began)) ∙ e

-- where a reply's session stood when it started
begun_reply : (old now : Core) (export : Exporting) (m : Message) → Later Server old now → now.phase ≡ Transmission export → MayStart old Server m → (old.phase ≡ Transmission export) × IsTrue (is_some (request_of_reply old m))
unfolding MayStartIn
begun_reply old now export m l p st = grind (arith, Later-turn, Later-transmission)

pub exact_whole : (old now : Core) (s : Side) (m : Message) → Later s old now → side m ≡ s → MayStart old s m → MayComplete now now.phase m → judge old now s (enc m) ≡ Whole m
unfolding MayComplete
exact_whole old now s m l sd st ok = go s now.phase refl (subst (λ u. judge_in now.phase now now u (enc m) ≡ Whole m) sd ok) l st
  where
    go : (s : Side) (phase : Phase) → now.phase ≡ phase → judge_in phase now now s (enc m) ≡ Whole m → Later s old now → MayStart old s m → judge_in phase old now s (enc m) ≡ Whole m
    go Server (Transmission export) p e l st = let b = begun_reply old now export m l p st in same_reply old now export m l b.0 b.1 e
    go s phase p e l st = grind arith

-- a message that may start is decided on from its first byte
pub deciding_of : (phase : Phase) (s : Side) (old : Core) (m : Message) → old.phase ≡ phase → MayStartIn phase old s m → IsDeciding s old
unfolding MayStartIn
deciding_of Greet Server old m p st = deciding Greet Server old [] _ p refl
deciding_of Flags Client old m p st = deciding Flags Client old [] _ p refl
deciding_of Choosing Client old m p st = deciding Choosing Client old [] _ p refl
deciding_of Naming Server old m p st = deciding Naming Server old [] _ p refl
deciding_of Aborting Server old m p st = deciding Aborting Server old [] _ p refl
deciding_of (Answering option given info) Server old m p st = deciding (Answering option given info) Server old [] _ p refl
deciding_of (Transmission export) Client old m p st = deciding (Transmission export) Client old [] (request_by old.extended old []) p (ap (λ b. request_unless b old []) st.0)
deciding_of (Transmission export) Server old m p st = deciding (Transmission export) Server old [] _ p refl
deciding_of phase s old m p st = absurd (cc)

-- a part of what is taken goes on
part_goes_on : (s : Side) (now next : Core) (F : Core → List ℕ → Decision) → IsSteady s now F → Later s now next → (bytes left : List ℕ) → IsFilled left →
    length (bytes ++ left) ≡ (F next (bytes ++ left)).head_length + (F next (bytes ++ left)).payload_length → (F next (bytes ++ left)).head_fault ≡ None → read_by (F now bytes) bytes ≡ More
part_goes_on s now next F st l bytes left f long clean = grind (arith, nat_lt, in_head, ltb-true, ltb-false, in_payload, length-append)

-- what is decided of a message at its last byte
pub taken_by : (old now : Core) (s : Side) (m : Message) (d : IsDeciding s old) → Later s old now → side m ≡ s → MayStart old s m → MayComplete now now.phase m → IsWhole (d.F now (enc m)) (enc m) m
taken_by old now s m d l sd st ok = whole (d.F now (enc m)) (enc m) m (ap (λ o. reading_by_decision o (enc m)) (sym (d.decides now l (enc m))) ∙ exact_whole old now s m l sd st ok)

pub exact_more : (old now later : Core) (s : Side) (m : Message) (bytes left : List ℕ) → Later s old now → Later s now later →
    side m ≡ s → MayStart old s m → MayComplete later later.phase m → enc m ≡ bytes ++ left → IsFilled left → judge old now s bytes ≡ More
exact_more old now later s m bytes left l l' sd st ok e f = grind (arith, deciding_of, taken_by, Later-trans, part_goes_on)

pub exact : IsExact
exact = grind (arith, exact_more, exact_whole)

-- no run's bytes begin with a list that the reader refuses
pub none_refused : {profile : Profile} (items : List Item) → IsRunOf profile items → (ps more : List Pair) → ArePairs ps → pairs items ≡ ps ++ more → (fault : WireFault) → reads (fresh_of profile) ps ≡ Err fault → ⊥
none_refused items run ps more lt e fault refused = no_run exact items run ps more lt e fault refused
