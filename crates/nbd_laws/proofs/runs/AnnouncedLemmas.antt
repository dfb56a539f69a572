-- The block sizes that a client has to keep are those that came last.
use Rattle.nbd_laws.proofs.Common.{arith, ◌≡◌, ◌≢◌, ℕ, List, [], ◌∷◌, ◌++◌, refl, ◌∙◌, ap, Option, None, All-head, All-tail, Message, Choice, Answer, Sizes, Sizing, Item, Completes, Serves, completed_messages, after, complete, ends_at, last_sizes, sizing_after, sizing_at, State, SizesAreAnnounced, announced, last_announced, ChooseNone}

-- what a message makes of what was asked and told
abbrev sizing_by : Message → Sizing → Sizing
sizing_by (Choice id payload) s = sizing_at id payload
sizing_by (Answer option kind payload) s = sizing_after kind payload s
sizing_by m s = s

abbrev sizing_of : Sizing → List Message → Sizing
sizing_of s [] = s
sizing_of s (m ∷ messages) = sizing_of (sizing_by m s) messages

led : (state : State) (items : List Item) → (ends_at state items).core.sizing ≡ sizing_of state.core.sizing (completed_messages items)
unfolding complete
led state [] = refl
led state (Completes s m ∷ items) = led (after state (Completes s m)) items ∙ ap (λ x. sizing_of x (completed_messages items)) ((grind (arith)))
led state (Serves e ∷ items) = led (after state (Serves e)) items
led state (item ∷ items) = led state items

joined : (s : Sizing) (xs ys : List Message) → sizing_of s (xs ++ ys) ≡ sizing_of (sizing_of s xs) ys
joined s [] ys = refl
joined s (m ∷ xs) ys = joined (sizing_by m s) xs ys

never : (a c : Option Sizes) → last_sizes a c ≡ last_sizes (last_sizes a None) c
never a c = grind arith

-- an answer counts where it is an announcement
one : (s : Sizing) (option kind : ℕ) (p : List ℕ) (late : List Message) → ((t : Sizing) → sizing_of t late ≡ record { asked = t.asked; told = last_sizes (last_announced late) t.told })
    → sizing_of (sizing_after kind p s) late ≡ record { asked = s.asked; told = last_sizes (last_sizes (last_announced late) (announced (Answer option kind p))) s.told }
one s option kind p late rest = grind (arith, never)

abbrev IsNoChoice : Message → Type 0
IsNoChoice m = (id : ℕ) (payload : List ℕ) → m ≢ Choice id payload

-- since the last option only announcements count
since : (s : Sizing) (late : List Message) → ChooseNone late → sizing_of s late ≡ record { asked = s.asked; told = last_sizes (last_announced late) s.told }
since s [] none = refl
since s (Choice id p ∷ late) none = absurd (All-head IsNoChoice (Choice id p) late none id p refl)
since s (Answer option kind p ∷ late) none = one s option kind p late (λ t. since t late (All-tail IsNoChoice (Answer option kind p) late none))
since s (m ∷ late) none = since s late (All-tail IsNoChoice m late none) ∙ ap (λ t. record { asked = s.asked; told = t }) (never (last_announced late) s.told)

pub sizes_are_announced : SizesAreAnnounced
sizes_are_announced profile items early late id payload cut none = grind (arith, led, joined, since)
