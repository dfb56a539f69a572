-- What `order` says of a session that has ended.
use Rattle.std.specs.Prelude.{◌≡◌, ℕ, List, Option, Result, Ok, Err}
use Rattle.nbd_explain.specs.{Common.{WireFault, Profile, Start, Item, Report, report, IsRunOf, SessionFault, size_of, IsFound, IsWanted, Says, Found, Wanted, IsBeginningOf, IsReadAs, room_in, line, Beginning}, Ordering.{found_text, ordered_of}, declared.ordering.Ordered.{Ordered, TheVariants.Refuted}}
use Rattle.nbd_session.specs.declared.fault.SessionFault.TheVariants.{Wire}
use Rattle.nbd_wire.specs.declared.verdict.Verdict.TheVariants as verdict

-- the answer and the text: of a report those of what is found of it from this beginning, of a refused session the
-- verdict's line
pub data IsToldOf (profile : Profile) (beginning : Beginning) (wanted : Wanted)
    : Result Report SessionFault → Ordered → List ℕ → Type 0 where
  of_report : (told : Report) (f : Found) → ((initial : Start) → IsReadAs (size_of told.export) initial beginning
      → IsFound profile told initial f)
      → IsWanted wanted f
      → ((initial : Start) (items : List Item) → IsReadAs (size_of told.export) initial beginning
      → IsRunOf profile items → report items ≡ told → Says profile items initial f)
      → IsToldOf profile beginning wanted (Ok told) (ordered_of f) (found_text told f)
  of_refusal : (at : ℕ) (fault : WireFault) → IsToldOf profile beginning wanted (Err (Wire at fault)) Refuted
      (line (verdict.Wire at fault))

-- the same from a beginning that was read of a start, which is so
abbrev pub IsToldFrom : Profile → (Option Start → Type 0) → Wanted → Result Report SessionFault → Ordered → List ℕ
    → Type 0
IsToldFrom profile IsStart wanted finished ordered text =
    (beginning : Beginning)
    × ((initial : Option Start) → IsStart initial → IsBeginningOf initial (room_in finished) beginning)
    × IsToldOf profile beginning wanted finished ordered text
