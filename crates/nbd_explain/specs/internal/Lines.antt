-- The text that is made of what looking for an order came to.
use Rattle.std.specs.{Prelude.{◌≡◌, ℕ, List, ◌++◌, Option, Some, None, Result, Ok, Err}, Io.KnownBytes.Appends}
use Rattle.nbd_explain.specs.{Common.{Profile, Verdict, Entry, Start, Item, pairs, Report, report, IsRunOf, SessionFault, Answers, IsConclusion, IsReportOf, size_of, IsFound, IsWanted, Says, Found, GaveUp, NoneWhole, Order, Unexplained, Any, IsReadAs, room_in, line, Beginning}, Ordering.found_text, declared.answer.Answer.Answer, Answering.{IsAnswerTo, answer_to}, Orderless.found_lines}
use Rattle.nbd_session.specs.declared.fault.SessionFault.TheVariants.{Memory, Wire}
use Rattle.nbd_wire.specs.declared.verdict.Verdict.TheVariants as verdict
use Rattle.nbd_order.specs.declared.finding.Found.TheVariants.{Image}

-- the line of the verdict on the order, from each start that was read so, and that the order was found
pub record HasVerdictLine (profile : Profile) (told : Report) (entries : List Entry) (beginning : Beginning)
    (text : List ℕ) : Type 0 where
  pub verdict : Verdict
  pub is_line : text ≡ found_lines verdict
  pub concludes : (initial : Start) → IsReadAs (size_of told.export) initial beginning
      → IsConclusion profile (Ok told) entries initial verdict
  pub answers : (initial : Start) (items : List Item)
      → IsReadAs (size_of told.export) initial beginning → IsRunOf profile items → IsReportOf items (Ok told)
      → Answers profile (pairs items) entries initial verdict

-- the line of what was found: of an order that of the verdict on it, else that of `order`
abbrev pub IsLineOf : Profile → Report → Found → Beginning → List ℕ → Type 0
IsLineOf profile told (Order entries) beginning text = HasVerdictLine profile told entries.items beginning text
IsLineOf profile told (Unexplained refutation) beginning text = text ≡ found_text told (Unexplained refutation)
IsLineOf profile told (Image image size) beginning text = text ≡ found_text told (Image image size)
IsLineOf profile told NoneWhole beginning text = text ≡ found_text told NoneWhole
IsLineOf profile told (GaveUp request offset reason) beginning text =
    text ≡ found_text told (GaveUp request offset reason)

-- a text begins with that line
pub record BeginsWithLineOf (profile : Profile) (told : Report) (found : Found) (beginning : Beginning)
    (text : List ℕ) : Type 0 where
  pub first : List ℕ
  pub explanation : List ℕ
  pub is_line : IsLineOf profile told found beginning first
  pub parts : text ≡ first ++ explanation

-- a text is this one, and some text behind it
abbrev pub Begins : (first text : List ℕ) → Type 0
Begins first text = (explanation : List ℕ) × (text ≡ first ++ explanation)

-- what holds of each writer to which this text was added
abbrev pub OnWritten : List ℕ → (Option (List ℕ) → Option (List ℕ) → Type 0) → Type 0
OnWritten text P = (old new : Option (List ℕ)) → Appends old new text → P old new

-- the verdict on the entries, from each start that was read so, is answered, and told with an explanation
pub record IsToldOn (profile : Profile) (finished : Result Report SessionFault) (entries : List Entry)
    (beginning : Beginning) (answered : Answer) (text : List ℕ) : Type 0 where
  pub verdict : Verdict
  pub concludes : (initial : Start) → IsReadAs (room_in finished) initial beginning
      → IsConclusion profile finished entries initial verdict
  pub answers : (initial : Start) (items : List Item)
      → IsReadAs (room_in finished) initial beginning → IsRunOf profile items → IsReportOf items finished
      → Answers profile (pairs items) entries initial verdict
  pub answer : IsAnswerTo verdict answered
  pub begins : Begins (line verdict) text

-- what looking for an order came to, from each start that was read so, is answered, and told with what it says
pub record IsToldOfFound (profile : Profile) (told : Report) (beginning : Beginning) (answered : Answer)
    (text : List ℕ) : Type 0 where
  pub found : Found
  pub kept : Beginning
  pub copied : (n : ℕ) (initial : Start) → IsReadAs n initial beginning → IsReadAs n initial kept
  pub is_found : (initial : Start) → IsReadAs (size_of told.export) initial beginning
      → IsFound profile told initial found
  pub fits : IsWanted Any found
  pub says : (initial : Start) (items : List Item)
      → IsReadAs (size_of told.export) initial beginning → IsRunOf profile items → report items ≡ told
      → Says profile items initial found
  pub begins : BeginsWithLineOf profile told found kept text
  pub answer : answered ≡ answer_to found

-- the same of a finished session: of one that was refused no, the verdict's line and an explanation
abbrev pub IsToldBySearch : Profile → Beginning → Result Report SessionFault → Answer → List ℕ → Type 0
IsToldBySearch profile beginning (Ok told) answered text = IsToldOfFound profile told beginning answered text
IsToldBySearch profile beginning (Err (Wire at fault)) answered text = IsAnswerTo (verdict.Wire at fault) answered
    × Begins (line (verdict.Wire at fault)) text
IsToldBySearch profile beginning (Err Memory) answered text = ⊥

-- the same by whether entries of an order are given
abbrev pub IsToldGiven : Profile → Result Report SessionFault → Option (List Entry) → Beginning → Answer → List ℕ
    → Type 0
IsToldGiven profile finished (Some entries) beginning answered text =
    IsToldOn profile finished entries beginning answered text
IsToldGiven profile finished None beginning answered text = IsToldBySearch profile beginning finished answered text
