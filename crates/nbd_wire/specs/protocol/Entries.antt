-- Entries of an order of service, and what of its request each of them serves (this project's choice).
use Rattle.std.specs.Prelude.{ℕ, List, [], ◌∷◌, ◌≡◌, ◌⊎◌, ◌==◌, ◌&&◌, ◌||◌, Bool, true, false, not, nat_lt, Option, Some, None, IsTrue}
use Rattle.nbd_wire.specs.declared.commands.TheConstants as commands
use Rattle.nbd_wire.specs.{declared.entry.{Entry.Entry, Part.Part}, protocol.{Operations.{Exporting, has_range}, Pieces.is_in}}

-- the entry that serves request k atomically
abbrev pub whole : ℕ → Entry
whole k = record { request = k; part = None }

-- the entry that serves a part of request k: so many bytes from an offset of the export on
abbrev pub part : (k offset length : ℕ) → Entry
part k offset len = record { request = k; part = Some (record { offset = offset; length = len }) }

-- an entry names request k
abbrev pub Names : List Entry → ℕ → Type 0
Names [] k = ⊥
Names (e ∷ entries) k = (e.request ≡ k) ⊎ Names entries k

-- an entry without a part names request k
abbrev pub NamesWhole : List Entry → ℕ → Type 0
NamesWhole [] k = ⊥
NamesWhole (e ∷ entries) k = ((e.request ≡ k) × (e.part ≡ None)) ⊎ NamesWhole entries k

-- x lies in the part; where there is none, the request is served atomically, and each offset counts
abbrev pub in_part : Option Part → ℕ → Bool
in_part None x = true
in_part (Some p) x = is_in p.offset p.length x

-- one of the entries serves offset x of request k
abbrev pub is_served : List Entry → ℕ → ℕ → Bool
is_served [] k x = false
is_served (e ∷ entries) k x = ((e.request == k) && in_part e.part x) || is_served entries k x

-- x lies inside a request of this type, offset and length: in its range, and below the export's size; nothing does
-- where the type has no range
abbrev pub inside : Option Exporting → (command offset length : ℕ) → ℕ → Bool
inside (Some export) command offset len x = has_range command && (is_in offset len x && nat_lt x export.size)
inside None command offset len x = false

-- the same, where a BLOCK_STATUS that is not proper has nothing inside (this project's choice)
abbrev pub inside_of : (proper : Bool) → Option Exporting → (command offset length : ℕ) → ℕ → Bool
inside_of proper export command offset len x =
    (proper || not (command == commands.BLOCK_STATUS)) && inside export command offset len x

-- request k, inside which these offsets lie, is served as far as x asks for it: an entry names it, and one serves x,
-- where x lies inside
pub record IsServedAt (within : ℕ → Bool) (entries : List Entry) (k x : ℕ) : Type 0 where
  pub named : Names entries k
  pub covered : IsTrue (within x) → IsTrue (is_served entries k x)

-- after these entries request k is served again: atomically though an entry names it, or in part though one serves it
-- atomically
abbrev pub IsAgain : List Entry → ℕ → Option Part → Type 0
IsAgain before k None = Names before k
IsAgain before k (Some p) = NamesWhole before k

-- the part of request k is empty, leaves the inside of the request, or has an offset that one of the entries before
-- serves
abbrev pub IsMisplaced : (within : ℕ → Bool) → List Entry → ℕ → Option Part → Type 0
IsMisplaced within before k None = ⊥
IsMisplaced within before k (Some p) =
    (p.length ≡ 0)
    ⊎ ((x : ℕ) × IsTrue (is_in p.offset p.length x) × (within x ≡ false))
    ⊎ ((x : ℕ) × IsTrue (is_in p.offset p.length x) × IsTrue (is_served before k x))

-- the entry may be served after those before it
abbrev pub MayServe : (within : ℕ → Bool) → List Entry → Entry → Type 0
MayServe within before e =
    (IsAgain before e.request e.part → ⊥) × (IsMisplaced within before e.request e.part → ⊥)
