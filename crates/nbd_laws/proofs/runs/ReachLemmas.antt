-- What a run leads to is reached by messages that may complete and have an encoding.
use Rattle.nbd_laws.proofs.{Common.{enc, AreBytes, ◌≡◌, List, [], ◌∷◌, ◌++◌, refl, sym, ◌∙◌, ap, subst, Message, Profile, Side, Client, Server, Item, Completes, completed_messages, IsRunOf, MayComplete, complete, ends_at, IsSendable, Core, start_of, Both, get, IsReached, at_start, after_message}, judge.SoundLemmas.sendable_of}
use Rattle.nbd_laws.proofs.{runs.{FollowLemmas.{Follows, each_with, follows}, RunLemmas.{core_end-ends_at, walk_of}}, service.InsideLemmas.core_end, reading.ReaderLemmas.{Open, Idle, Busy, Loose, Walk, ended, serving, opening, middle, final, loose}}

-- an open message is of bytes
abbrev pub IsSentOpen : Side → Open → Type 0
IsSentOpen s Idle = Unit {0}
IsSentOpen s (Busy m left) = AreBytes (enc m)
IsSentOpen s Loose = Unit {0}

-- messages that may complete one after the other, each with an encoding
abbrev pub Passes : Core → List Message → Type 0
Passes core [] = Unit {0}
Passes core (m ∷ ms) = IsSendable m × MayComplete core core.phase m × Passes (complete core m) ms

-- what messages lead to
abbrev pub led : Core → List Message → Core
led core [] = core
led core (m ∷ ms) = led (complete core m) ms

passing : {P : Type 0} {o : Both Open} {items : List Item} → Walk P o items → (core : Core) → IsReached core → Follows core items → ((u : Side) → IsSentOpen u (get o u)) → Passes core (completed_messages items)
passing (ended c d) core r f h = tt
passing (serving k w) core r f h = passing w core r f h
passing {P} {o} (opening s m b left i e g w) core r f h = passing w core r f.1 (each_with IsSentOpen o s (Busy m left) h f.0.are_bytes)
passing {P} {o} (middle s m b left i g w) core r f h = passing w core r f (each_with IsSentOpen o s (Busy m left) h (subst (IsSentOpen s) i (h s)))
passing {P} {o} (final s m b i w) core r f h =
    let sn : IsSendable m = sendable_of m r f.0 (subst (IsSentOpen s) i (h s)) in
    (sn, f.0, passing w (complete core m) (after_message m r sn f.0) f.1 (each_with IsSentOpen o s Idle h tt))
passing {P} {o} (loose s b p e w) core r f h = passing w core r f (each_with IsSentOpen o s _ h tt)

led_end : (core : Core) (items : List Item) → core_end core items ≡ led core (completed_messages items)
led_end core [] = refl
led_end core (Completes s m ∷ items) = led_end (complete core m) items
led_end core (item ∷ items) = led_end core items

pub led-append : (xs ys : List Message) (core : Core) → led core (xs ++ ys) ≡ led (led core xs) ys
led-append [] ys core = refl
led-append (m ∷ xs) ys core = led-append xs ys (complete core m)

pub passes-append : (xs ys : List Message) (core : Core) → Passes core (xs ++ ys) → Passes core xs × Passes (led core xs) ys
passes-append [] ys core p = (tt, p)
passes-append (m ∷ xs) ys core p = let r = passes-append xs ys (complete core m) p.2 in ((p.0, p.1, r.0), r.1)

completed-append : (items more : List Item) → completed_messages (items ++ more) ≡ completed_messages items ++ completed_messages more
completed-append [] more = refl
completed-append (Completes s m ∷ items) more = ap (λ ms. m ∷ ms) (completed-append items more)
completed-append (item ∷ items) more = completed-append items more

-- those of a run, and what they lead to
pub run_passes : {profile : Profile} (items : List Item) → IsRunOf profile items → Passes (start_of profile).core (completed_messages items)
run_passes {profile} items run = passing (walk_of run) (start_of profile).core at_start (follows items (start_of profile) run.obeys) (elim [ Client ↦ tt | Server ↦ tt ])

pub run_leads : (profile : Profile) (items : List Item) → led (start_of profile).core (completed_messages items) ≡ (ends_at (start_of profile) items).core
run_leads profile items = sym (led_end (start_of profile).core items) ∙ core_end-ends_at (start_of profile).core [] items

-- those before a mark, and those after it
pub parts_pass : {profile : Profile} (items more : List Item) → IsRunOf profile (items ++ more) →
    Passes (start_of profile).core (completed_messages items) × Passes (led (start_of profile).core (completed_messages items)) (completed_messages more)
parts_pass {profile} items more run = passes-append (completed_messages items) (completed_messages more) (start_of profile).core
    (subst (Passes (start_of profile).core) (completed-append items more) (run_passes (items ++ more) run))

reached : (ms : List Message) (core : Core) → Passes core ms → IsReached core → IsReached (led core ms)
reached [] core p r = r
reached (m ∷ ms) core p r = reached ms (complete core m) p.2 (after_message m r p.0 p.1)

pub run_reaches : {profile : Profile} (items : List Item) → IsRunOf profile items → IsReached (ends_at (start_of profile) items).core
run_reaches {profile} items run = subst IsReached (run_leads profile items) (reached (completed_messages items) (start_of profile).core (run_passes items run) at_start)
