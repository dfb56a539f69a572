-- What a run of `order` writes, where the reader and the writer state their bytes.
use Rattle.std.specs.{Prelude.{◌≡◌, ℕ, List, [], ◌∷◌, ◌++◌, Option, Some, None, IfSome, Result, Ok, Err, codes, flat_map}, Fmt.decimal, Io.KnownBytes.{Appends, Keeps}}
use Rattle.nbd_explain.specs.Common.{Entry, WireFault, Message, Profile, Pair, IsExplainedOf, Start, start_byte, Item, pairs, Report, report, IsRunOf, request_count, IsOfNoRunOf, Chunk, IsCaptureText, line_feed, entry_text, IsWireFaultOf, IsOtherSize, wrong_verdict, Reason, Mistake, States, Steps, IsWantedOrder, arrival, IsRefutedBy, IsUnexplained, Found, Wanted, Whole, RunFault, CaptureLine, CaptureRead, Write, StartFrom, status, IsStartCause, IsCapture, IsCaptureCause, flat_of, line, words}
use Rattle.nbd_explain.specs.declared.ordering.Ordered.{Ordered, TheVariants.{Found as IsFound, Open, Refuted}}
use Rattle.nbd_wire.specs.declared.verdict.Verdict.TheVariants.{Wire}
use Rattle.nbd_wire.specs.declared.verdict.Verdict.TheVariants as verdict
use Rattle.nbd_order.specs.declared.finding.Found.TheVariants as found
use Rattle.nbd_files.specs.declared.fault.RunFault.TheVariants.{Memory}

-- the lines of an order, an entry on each
abbrev pub entry_lines : List Entry → List ℕ
entry_lines entries = flat_map (λ (e : Entry). entry_text e ++ line_feed ∷ []) entries

-- numbers, each behind a space
abbrev pub spaced_numbers : List ℕ → List ℕ
spaced_numbers numbers = flat_map (λ n. codes " " ++ decimal n) numbers

-- the line of READs, and of BLOCK_STATUSes that call the offset zero, of which each order has one wrong there
abbrev pub unexplained_line : Report → (reads : List ℕ) → (offset : ℕ) → List ℕ
unexplained_line told (request ∷ []) offset = words (wrong_verdict told request offset) ++ codes " in any order\n"
unexplained_line told reads offset = codes "no order explains requests" ++ (spaced_numbers reads
    ++ (codes " at offset " ++ (decimal offset ++ codes "\n")))

-- the line of an order in parts where one of whole requests is wanted
abbrev pub none_whole_line : List ℕ
none_whole_line = codes "no order of whole requests found\n"

-- why a search was broken off
abbrev pub reason_words : Reason → List ℕ
reason_words States = codes "too many states"
reason_words Steps = codes "too many steps"
reason_words Mistake = codes "a mistake of its own"

-- the line of a search that was broken off
abbrev pub gave_up_line : (request offset : ℕ) → Reason → List ℕ
gave_up_line request offset reason = codes "gave up: "
    ++ (reason_words reason ++ (codes " at request " ++ (decimal request ++
    (codes " offset " ++ (decimal offset ++ codes "\n")))))

-- the text of what was found of a report
abbrev pub found_text : Report → Found → List ℕ
found_text told (found.Order entries) = entry_lines entries.items
found_text told (found.Unexplained refutation) = unexplained_line told refutation.reads.items refutation.offset
found_text told (found.Image image size) = line (verdict.Image image size)
found_text told found.NoneWhole = none_whole_line
found_text told (found.GaveUp request offset reason) = gave_up_line request offset reason

-- what that comes to
abbrev pub ordered_of : Found → Ordered
ordered_of (found.Order entries) = IsFound
ordered_of (found.Unexplained refutation) = Refuted
ordered_of (found.Image image size) = Refuted
ordered_of found.NoneWhole = Open
ordered_of (found.GaveUp request offset reason) = Open

-- the exit status of an answer
abbrev pub status_of : Result Ordered RunFault → ℕ
status_of (Ok IsFound) = 0
status_of (Ok Refuted) = 1
status_of (Ok Open) = 5
status_of (Err fault) = status fault

-- in the profile this order does not explain the capture
abbrev pub IsUnexplainedBy : Profile → List Pair → Start → List Entry → Type 0
IsUnexplainedBy profile capture initial order = IsExplainedOf profile capture order initial → ⊥

-- what is answered of a capture's bytes from a start, in the profile, and the text of it
pub data IsAnswered (profile : Profile) (capture : List Pair) (initial : Start) (wanted : Wanted)
    : Ordered → List ℕ → Type 0 where
  -- an order that explains it, and is one of those that are wanted
  order : (entries : List Entry) → IsExplainedOf profile capture entries initial → IsWantedOrder wanted entries
      → IsAnswered profile capture initial wanted IsFound (entry_lines entries)
  -- no run of the profile has these bytes: where and why
  wire : (messages : List Message) (at : ℕ) (fault : WireFault) → IsWireFaultOf profile capture messages at fault
      → IsOfNoRunOf profile capture → IsAnswered profile capture initial wanted Refuted (line (Wire at fault))
  -- the image has another size than the export
  image : (items : List Item) (image size : ℕ) → IsRunOf profile items → pairs items ≡ capture
      → IsOtherSize (report items).export initial image size
      → IsAnswered profile capture initial wanted Refuted (line (verdict.Image image size))
  -- no order explains it: in each one of these requests has a wrong byte at this offset
  unexplained : (items : List Item) (reads : List ℕ) (offset : ℕ) → IsRunOf profile items → pairs items ≡ capture
      → IsRefutedBy profile (report items) (start_byte initial) offset reads → IsUnexplained profile capture initial
      → IsAnswered profile capture initial wanted Refuted (unexplained_line (report items) reads offset)
  -- an order of whole requests was wanted and none was found, which is not proved. That of arrival does not explain it
  none_whole : (items : List Item) → wanted ≡ Whole → IsRunOf profile items → pairs items ≡ capture
      → IsUnexplainedBy profile capture initial (arrival (request_count (report items)))
      → IsAnswered profile capture initial wanted Open none_whole_line
  -- the search was broken off
  gave_up : (items : List Item) (request offset : ℕ) (reason : Reason) → IsRunOf profile items → pairs items ≡ capture
      → IsUnexplainedBy profile capture initial (arrival (request_count (report items)))
      → IsAnswered profile capture initial wanted Open (gave_up_line request offset reason)

-- that was written, where the start is known
abbrev pub IsOrderedFrom : Profile → List Pair → Option Start → Wanted → (old new : Option (List ℕ)) → Ordered → Type 0
IsOrderedFrom profile capture (Some initial) wanted old new ordered =
    (text : List ℕ) × IsAnswered profile capture initial wanted ordered text × Appends old new text
IsOrderedFrom profile capture None wanted old new ordered = Unit {0}

-- the same of a capture text
pub record Orders (profile : Profile) (known : Option (List ℕ)) (initial : Option Start) (wanted : Wanted)
    (ordered : Ordered) (old new : Option (List ℕ)) : Type 0 where
  pub chunks : List Chunk
  pub is_text : IfSome known (λ text. IsCaptureText text chunks)
  pub is_ordered : IsOrderedFrom profile (flat_of chunks) initial wanted old new ordered

-- what a fault says of the capture and of the start
abbrev pub IsOrderingCause : {I : Type 0} → (I → Option (List ℕ)) → Option (List ℕ) → StartFrom I → RunFault → Type 0
IsOrderingCause remaining known start (CaptureLine n) = IsCaptureCause known (CaptureLine n)
IsOrderingCause remaining known start CaptureRead = IsCaptureCause known CaptureRead
IsOrderingCause remaining known start Memory = IsCaptureCause known Memory
IsOrderingCause remaining known start Write = IsCapture known
IsOrderingCause remaining known start fault = IsCapture known × IsStartCause remaining start fault

-- nothing was written before a fault, but where the writer failed
abbrev pub LeavesOrdered : (old new : Option (List ℕ)) → RunFault → Type 0
LeavesOrdered old new Write = Unit {0}
LeavesOrdered old new _ = Keeps old new
