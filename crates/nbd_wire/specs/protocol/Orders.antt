-- The faults of an order of service (this project's choice). `count` is the number of requests, `inside` says of a
-- request which offsets lie inside it, and `due` of a request and an offset how many requests had completed when it had
-- to be served there; a number that is no offset inside stands for the request itself.
use Rattle.std.specs.Prelude.{ℕ, List, ◌≡◌, ◌+◌, ◌<◌, ◌≤◌, ◌⊎◌, Bool, Option, Some, IsTrue, drop, slice_get, take}
use Rattle.nbd_wire.specs.{declared.{entry.Entry.Entry, verdict.OrderFault.{OrderFault, TheVariants.{NoSuchRequest, Twice, Late, Missing, BadPart, NotCovered}}}, protocol.Entries.{IsServedAt, Names, is_served, IsAgain, IsMisplaced}}

-- the least number with the property
abbrev pub IsFirst : (ℕ → Type 0) → ℕ → Type 0
IsFirst P n = P n × ((m : ℕ) → m < n → P m → ⊥)

-- entry i, counted from 0, names no request
abbrev pub NamesNone : ℕ → List Entry → ℕ → Type 0
NamesNone count order i = (e : Entry) × (slice_get order i ≡ Some e) × ((e.request ≡ 0) ⊎ (count < e.request))

-- entry i repeats an earlier one
abbrev pub NamesAgain : List Entry → ℕ → Type 0
NamesAgain order i = (e : Entry) × (slice_get order i ≡ Some e) × IsAgain (take i order) e.request e.part

-- entry i has a part that may not be served after the entries before it
abbrev pub IsBadPart : (inside : ℕ → ℕ → Bool) → List Entry → ℕ → Type 0
IsBadPart inside order i =
    (e : Entry) × (slice_get order i ≡ Some e) × IsMisplaced (inside e.request) (take i order) e.request e.part

-- entry i has one of these three faults
abbrev pub IsBad : ℕ → (inside : ℕ → ℕ → Bool) → List Entry → ℕ → Type 0
IsBad count inside order i = NamesNone count order i ⊎ NamesAgain order i ⊎ IsBadPart inside order i

-- entry i or a later one serves a request at an offset that was due before the request of entry i had completed; an
-- entry without a part serves each offset
abbrev pub IsLate : (due : ℕ → ℕ → Option ℕ) → List Entry → ℕ → Type 0
IsLate due order i = (e : Entry) × (k : ℕ) × (x : ℕ) × (n : ℕ) × (slice_get order i ≡ Some e)
    × IsTrue (is_served (drop i order) k x) × (due k x ≡ Some n) × (n < e.request)

-- request k was due at x
abbrev pub IsDue : ℕ → (due : ℕ → ℕ → Option ℕ) → (k x : ℕ) → Type 0
IsDue count due k x = (0 < k) × (k ≤ count) × ((n : ℕ) × (due k x ≡ Some n))

-- something of request k was due, and no entry names it
abbrev pub IsMissing : ℕ → (due : ℕ → ℕ → Option ℕ) → List Entry → ℕ → Type 0
IsMissing count due order k = ((x : ℕ) × IsDue count due k x) × (Names order k → ⊥)

-- request k was due at an offset, and entries name it that do not serve it there
abbrev pub IsNotCovered : ℕ → (due : ℕ → ℕ → Option ℕ) → (inside : ℕ → ℕ → Bool) → List Entry → ℕ → Type 0
IsNotCovered count due inside order k =
    ((x : ℕ) × IsDue count due k x × (IsServedAt (inside k) order k x → ⊥)) × Names order k

-- request k has one of these two faults
abbrev pub IsUnserved : ℕ → (due : ℕ → ℕ → Option ℕ) → (inside : ℕ → ℕ → Bool) → List Entry → ℕ → Type 0
IsUnserved count due inside order k = IsMissing count due order k ⊎ IsNotCovered count due inside order k

-- no entry is bad, no entry is late, and what was due is served
pub record HasNoOrderFault (count : ℕ) (due : ℕ → ℕ → Option ℕ) (inside : ℕ → ℕ → Bool)
    (order : List Entry) : Type 0 where
  pub none_bad : (i : ℕ) → IsBad count inside order i → ⊥
  pub none_late : (i : ℕ) → IsLate due order i → ⊥
  pub served : (k x : ℕ) → IsDue count due k x → IsServedAt (inside k) order k x

-- no entry is bad and none is late, and each request below this one is served as it has to be
abbrev pub IsElseServed : ℕ → (due : ℕ → ℕ → Option ℕ) → (inside : ℕ → ℕ → Bool) → List Entry → ℕ → Type 0
IsElseServed count due inside order request =
    ((j : ℕ) → IsBad count inside order j → ⊥) × ((j : ℕ) → IsLate due order j → ⊥)
    × ((k : ℕ) → k < request → IsUnserved count due inside order k → ⊥)

-- the order is answered with this fault at this entry, counted from 1, and at no earlier one; with Missing and
-- NotCovered at the request with this number, where no entry is at fault
abbrev pub IsFaultAt : ℕ → (due : ℕ → ℕ → Option ℕ) → (inside : ℕ → ℕ → Bool) → List Entry → ℕ → OrderFault → Type 0
IsFaultAt count due inside order at NoSuchRequest =
    (i : ℕ) × (at ≡ i + 1) × NamesNone count order i × ((j : ℕ) → j < i → IsBad count inside order j → ⊥)
IsFaultAt count due inside order at Twice =
    (i : ℕ) × (at ≡ i + 1) × NamesAgain order i × ((j : ℕ) → j < i → IsBad count inside order j → ⊥)
IsFaultAt count due inside order at BadPart =
    (i : ℕ) × (at ≡ i + 1) × IsBadPart inside order i × (NamesNone count order i → ⊥) × (NamesAgain order i → ⊥)
    × ((j : ℕ) → j < i → IsBad count inside order j → ⊥)
IsFaultAt count due inside order at Late =
    (i : ℕ) × (at ≡ i + 1) × ((j : ℕ) → IsBad count inside order j → ⊥) × IsFirst (IsLate due order) i
IsFaultAt count due inside order at Missing =
    IsElseServed count due inside order at × IsMissing count due order at
IsFaultAt count due inside order at NotCovered =
    IsElseServed count due inside order at × IsNotCovered count due inside order at
