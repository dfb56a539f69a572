-- What earlier and later requests tell, joined.
use Rattle.nbd_order.proofs.Common.{◌≡◌, ℕ, Option, Bool, ◌||◌, arith}
use Rattle.std.specs.{Prelude.{max, min}, Option.option_or}
use Rattle.nbd_order.specs.{declared.here.Here.Here, internal.Here.{joined, nothing}}

pub joined_nothing : (h : Here) → joined h nothing ≡ h
joined_nothing h = grind arith

pub nothing_joined : (h : Here) → joined nothing h ≡ h
nothing_joined h = grind arith

or_assoc : (a b c : Bool) → ((a || b) || c) ≡ (a || (b || c))
or_assoc a b c = grind arith

some_assoc : {A : Type 0} (a b c : Option A) → option_or c (option_or b a) ≡ option_or (option_or c b) a
some_assoc a b c = grind arith

-- the next to the greatest of the greatest ones
between : (p q r : ℕ) → max (min p q) (min (max p q) r) ≡ max (min q r) (min p (max q r))
between p q r = omega arith

sorted : (a b c m n : ℕ) → max (max (max (max a b) m) c) n ≡ max (max (max a b) c) (max m n)
sorted a b c m n = omega arith

resorted : (a b c m n : ℕ) → max (max a (max (max b c) m)) n ≡ max (max (max a b) c) (max m n)
resorted a b c m n = omega arith

pub joined_assoc : (a b c : Here) → joined (joined a b) c ≡ joined a (joined b c)
joined_assoc a b c =
    let any_open = or_assoc a.any_open b.any_open c.any_open in
    let last = some_assoc a.last b.last c.last in
    let latest : max (max a.latest b.latest) c.latest ≡ max a.latest (max b.latest c.latest) = omega arith in
    let next = between a.latest b.latest c.latest in
    let sorted_so = sorted a.second b.second c.second (min a.latest b.latest) (min (max a.latest b.latest) c.latest) in
    let resorted_so = resorted a.second b.second c.second (min b.latest c.latest) (min a.latest (max b.latest c.latest)) in
    let vague : max (max a.vague b.vague) c.vague ≡ max a.vague (max b.vague c.vague) = omega arith in
    let read = some_assoc a.read b.read c.read in
    cc
