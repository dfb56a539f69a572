-- The verdict on a report, an order of service and what the export held at first.
use Rattle.std.specs.Prelude.{ℕ, List, length, ◌≡◌, ◌==◌, Option, None, Some, if◌then◌else◌, slice_get}
use Rattle.nbd_wire.specs.{declared.{entry.Entry.Entry, profile.Profile.Profile, verdict.{OrderFault.OrderFault, Verdict.{Verdict, TheVariants.{Yes, Wire, Image, Order, Content, Status}}}}, Prelude.{Report, due_in, inside_in, IsWrong, effects, FitsImage, Start, start_byte, IsFirst, Asked, asked_at, IsFaultless, answered_count, improper_count, request_count, IsFaultAt}}
use Rattle.nbd_wire.specs.declared.commands.TheConstants as commands
use Rattle.nbd_judge.specs.Images.{IsOtherSize}

-- the order's answer is this fault at this entry, counted from 1; for Missing and NotCovered of this request
abbrev pub IsOrderFault : Profile → Report → List Entry → ℕ → OrderFault → Type 0
IsOrderFault profile r order = IsFaultAt (length r.asked) (due_in profile r) (inside_in r) order

-- entry i of the order, counted from 0, serves a wrong byte
abbrev pub HasWrongFrom : Report → List Entry → (ℕ → Option ℕ) → ℕ → Type 0
HasWrongFrom r order initial i = (x : ℕ) × IsWrong (effects r) order initial i x

-- the request of the first entry that serves a wrong byte, and the least offset of one
abbrev pub FirstWrongFrom : Report → List Entry → (ℕ → Option ℕ) → (request offset : ℕ) → Type 0
FirstWrongFrom r order initial request offset =
    (i : ℕ) × (entry : Entry) × (slice_get order i ≡ Some entry) × (entry.request ≡ request)
    × IsFirst (HasWrongFrom r order initial) i × IsFirst (IsWrong (effects r) order initial i) offset

-- the same, of a request of this type
abbrev pub FirstWrongOf : (command : ℕ) → Report → List Entry → (ℕ → Option ℕ) → (request offset : ℕ) → Type 0
FirstWrongOf command r order initial request offset =
    FirstWrongFrom r order initial request offset
    × ((a : Asked) × (asked_at request r.asked ≡ Some a) × (a.command ≡ command))

-- the verdict on a wrong byte of a request, if there is one: Status of a BLOCK_STATUS, else Content
abbrev pub wrong_verdict_if : Option Asked → (request offset : ℕ) → Verdict
wrong_verdict_if (Some a) request offset =
    if a.command == commands.BLOCK_STATUS then Status request offset else Content request offset
wrong_verdict_if None request offset = Content request offset

-- the verdict on a wrong byte of request k of the report
abbrev pub wrong_verdict : Report → (request offset : ℕ) → Verdict
wrong_verdict r request offset = wrong_verdict_if (asked_at request r.asked) request offset

-- the verdict where the export's bytes were these at first: Order, Content, Status or Yes
abbrev pub IsJudged : Profile → Report → List Entry → (ℕ → Option ℕ) → Verdict → Type 0
IsJudged profile r order initial (Yes of_requests of_answered of_improper) =
    IsFaultless profile r order × ((i x : ℕ) → IsWrong (effects r) order initial i x → ⊥)
    × (of_requests ≡ request_count r) × (of_answered ≡ answered_count r) × (of_improper ≡ improper_count profile r)
IsJudged profile r order initial (Order entry fault) = IsOrderFault profile r order entry fault
IsJudged profile r order initial (Content request offset) =
    IsFaultless profile r order × FirstWrongOf commands.READ r order initial request offset
IsJudged profile r order initial (Status request offset) =
    IsFaultless profile r order × FirstWrongOf commands.BLOCK_STATUS r order initial request offset
IsJudged profile r order initial _ = ⊥

-- the verdict from a start: Image where its bytes are given, and the export has another size
abbrev pub IsVerdict : Profile → Report → List Entry → Start → Verdict → Type 0
IsVerdict profile r order initial (Image image size) = IsOtherSize r.export initial image size
IsVerdict profile r order initial (Wire at fault) = ⊥
IsVerdict profile r order initial v = FitsImage r.export initial × IsJudged profile r order (start_byte initial) v
