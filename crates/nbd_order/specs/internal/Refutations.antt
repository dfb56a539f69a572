-- Why no order explains a report at one offset: READs that get their byte there in no order of some changes, and no
-- other change can help. A BLOCK_STATUS that calls the offset zero is such a READ too, of the byte 0.
use Rattle.std.specs.Prelude.{ℕ, List, ◌≡◌, ◌<◌, ◌⊎◌, ◌==◌, ◌||◌, Bool, true, false, Option, Some, None, IsTrue, slice_get}
use Rattle.nbd_order.specs.{declared.refutation.State.State, Unexplained.{IsReadOf, has}, Common.{Differs, Effect, effect_byte, effects, touches, Report, due_in, Profile}}

-- each entry that serves x of request j stands before each of request k, where an order is not late: j was due at x
-- before k was complete
abbrev pub IsBefore : Profile → Report → (x j k : ℕ) → Type 0
IsBefore profile r x j k = (n : ℕ) × (due_in profile r j x ≡ Some n) × (n < k)

-- request w is a WRITE, TRIM or WRITE_ZEROES with x in its range
abbrev pub IsChange : Report → (w x : ℕ) → Effect → Type 0
IsChange r w x e = (effects r w ≡ Some e) × IsTrue (touches None e x)

-- request k has x, and was due there
pub record IsReadAt (profile : Profile) (r : Report) (x k : ℕ) : Type 0 where
  pub gave : IsReadOf r x k
  pub is_due : (n : ℕ) × (due_in profile r k x ≡ Some n)

-- request k is a change of x
abbrev pub IsChangeAt : Report → (x k : ℕ) → Type 0
IsChangeAt r x k = (e : Effect) × IsChange r k x e

-- request p is one of the READs or of the changes
abbrev pub is_kept : (reads changes : List ℕ) → ℕ → Bool
is_kept reads changes p = has reads p || has changes p

-- request k can't be served yet: one of the READs and changes surely comes before it, and was not served
abbrev pub IsHeld : Profile → Report → (x : ℕ) → (reads changes served : List ℕ) → ℕ → Type 0
IsHeld profile r x reads changes served k = (p : ℕ) × (is_kept reads changes p ≡ true) × (has served p ≡ false)
    × IsBefore profile r x p k

-- the byte is known, and request k gave another one at x
abbrev pub IsOther : Report → (x k : ℕ) → (byte : Option ℕ) → Type 0
IsOther r x k byte = (e : Effect) → effects r k ≡ Some e → Differs (λ y. byte) e.read x

-- request k gave this byte at x, if it gave one
abbrev pub HasGot : Report → (x k : ℕ) → (byte : Option ℕ) → Type 0
HasGot r x k byte = (e : Effect) → effects r k ≡ Some e → e.read x ≡ byte

-- READ k is served, or can't be served where x holds this byte
abbrev pub IsFitting : Profile → Report → (x : ℕ) → (reads changes served : List ℕ) → (byte : Option ℕ) → ℕ → Type 0
IsFitting profile r x reads changes served byte k = (has served k ≡ true) ⊎ IsHeld profile r x reads changes served k
    ⊎ IsOther r x k byte

-- each READ that can be served where x holds this byte is served
abbrev pub Fits : Profile → Report → (x : ℕ) → (reads changes served : List ℕ) → (byte : Option ℕ) → Type 0
Fits profile r x reads changes served byte = (k : ℕ) → has reads k ≡ true
    → IsFitting profile r x reads changes served byte k

-- from what is served to what is served next: of the changes c alone is added, and no READ is lost
abbrev pub Follows : (reads changes served : List ℕ) → (c : ℕ) → (next : List ℕ) → Type 0
Follows reads changes served c next =
    ((d : ℕ) → has changes d ≡ true → has next d ≡ (has served d || (c == d)))
    × ((k : ℕ) → has reads k ≡ true → has served k ≡ true → has next k ≡ true)

-- change c leads from what is served to what is served next, where each READ fits the byte that it leaves
abbrev pub Leads : Profile → Report → (x : ℕ) → (reads changes served : List ℕ) → (c : ℕ) → (next : List ℕ) → Type 0
Leads profile r x reads changes served c next =
    Follows reads changes served c next
    × ((e : Effect) → effects r c ≡ Some e → Fits profile r x reads changes next (effect_byte e x))

-- change c leads from what is served to one of the states
abbrev pub LeadsOn : Profile → Report → (x : ℕ) → (reads changes : List ℕ) → (states : List State)
    → (served : List ℕ) → (c : ℕ) → Type 0
LeadsOn profile r x reads changes states served c = (j : ℕ) × (t : State) × (slice_get states j ≡ Some t)
    × Leads profile r x reads changes served c t.served.items

-- change c is served, can't be served yet, or leads to one of the states
abbrev pub IsStep : Profile → Report → (x : ℕ) → (reads changes : List ℕ) → (states : List State)
    → (served : List ℕ) → (c : ℕ) → Type 0
IsStep profile r x reads changes states served c = (has served c ≡ true) ⊎ IsHeld profile r x reads changes served c
    ⊎ LeadsOn profile r x reads changes states served c

-- the same of each change
abbrev pub AreSteps : Profile → Report → (x : ℕ) → (reads changes : List ℕ) → (states : List State)
    → (served : List ℕ) → Type 0
AreSteps profile r x reads changes states served = (c : ℕ) → has changes c ≡ true
    → IsStep profile r x reads changes states served c

-- the change w, which leaves this byte, is no help to READ k: k gave another byte, or surely came before, or one of the
-- changes surely comes between the two
abbrev pub IsNoHelp : Profile → Report → (x : ℕ) → (changes : List ℕ) → (w : ℕ) → (byte : Option ℕ) → (k : ℕ) → Type 0
IsNoHelp profile r x changes w byte k =
    IsOther r x k byte ⊎ IsBefore profile r x k w
    ⊎ ((o : ℕ) × (has changes o ≡ true) × IsBefore profile r x w o × IsBefore profile r x o k)

-- if w is another change of x, it is no help to READ k
abbrev pub HelpsNot : Profile → Report → (x : ℕ) → (changes : List ℕ) → (w k : ℕ) → Type 0
HelpsNot profile r x changes w k =
    (e : Effect) → IsChange r w x e → has changes w ≡ false → IsNoHelp profile r x changes w (effect_byte e x) k

-- the same of each READ
abbrev pub HelpsNone : Profile → Report → (x : ℕ) → (reads changes : List ℕ) → (w : ℕ) → Type 0
HelpsNone profile r x reads changes w =
    (e : Effect) → IsChange r w x e → has changes w ≡ false → (k : ℕ) → has reads k ≡ true
    → IsNoHelp profile r x changes w (effect_byte e x) k

-- the same of each state
abbrev pub EachSteps : Profile → Report → (x : ℕ) → (reads changes : List ℕ) → (states : List State) → Type 0
EachSteps profile r x reads changes states = (i : ℕ) (s : State) → slice_get states i ≡ Some s
    → AreSteps profile r x reads changes states s.served.items

-- in this state no change is served, and each READ fits the byte at the start
abbrev pub IsBeginning : Profile → Report → (initial : ℕ → Option ℕ) → (x : ℕ) → (reads changes served : List ℕ)
    → Type 0
IsBeginning profile r initial x reads changes served =
    ((c : ℕ) → has changes c ≡ true → has served c ≡ false) × Fits profile r x reads changes served (initial x)

-- one of the states is such a beginning
abbrev pub HasBeginning : Profile → Report → (initial : ℕ → Option ℕ) → (x : ℕ) → (reads changes : List ℕ)
    → (states : List State) → Type 0
HasBeginning profile r initial x reads changes states =
    (i : ℕ) × (s : State) × (slice_get states i ≡ Some s) × IsBeginning profile r initial x reads changes s.served.items

-- some READ is not served
abbrev pub IsUnfinished : (reads served : List ℕ) → Type 0
IsUnfinished reads served = (k : ℕ) × (has reads k ≡ true) × (has served k ≡ false)

-- in no state all READs are served
abbrev pub NoneIsLast : (reads : List ℕ) → (states : List State) → Type 0
NoneIsLast reads states = (i : ℕ) (s : State) → slice_get states i ≡ Some s → IsUnfinished reads s.served.items
