-- What has taken the bytes of a capture, what `check` says of a session that has ended, and a verdict's line in parts.
use Rattle.std.specs.{Prelude.{ℕ, List, Option, IfSome, ◌≡◌, Result, ◌++◌, codes}, Fmt.decimal}
use Rattle.nbd_tool.specs.{Common.{Chunk, IsCaptureText, Follows, SessionView, Monitor, SessionFault, Profile, Entry, Verdict, Pair, Start, Item, pairs, Report, IsRunOf, Answers, IsConclusion, IsReportOf}, Ends.IsOver, Runs.flat_of, declared.verdict.{Parts.Parts, Rest.{Rest, TheVariants.{Counts, Name, Number}}}}

-- the monitor follows a session over the capture
pub record IsFollowing (profile : Profile) (capture : List Pair) (monitor : Monitor) : Type 0 where
  pub session : SessionView
  pub follows : Follows monitor session
  pub over : IsOver profile capture session

-- what was taken is the chunks of a capture text, where its bytes are known
pub record IsOverChunks (IsOverAll : List Pair → Type 0) (known : Option (List ℕ)) : Type 0 where
  pub chunks : List Chunk
  pub is_text : IfSome known (λ text. IsCaptureText text chunks)
  pub over : IsOverAll (flat_of chunks)

-- a verdict on an ended session of the profile and an order, from the start where it is known
pub record IsConcluded (profile : Profile) (known : Option Start) (finished : Result Report SessionFault)
    (order : List Entry) (verdict : Verdict) : Type 0 where
  pub initial : Start
  pub is_known : IfSome known (λ start. initial ≡ start)
  pub is_conclusion : IsConclusion profile finished order initial verdict
  pub answers : (items : List Item) → IsRunOf profile items → IsReportOf items finished
      → Answers profile (pairs items) order initial verdict

-- what they end with
abbrev pub rest_words : Rest → List ℕ
rest_words (Name name) = name.now
rest_words (Number number) = decimal number
rest_words (Counts answered improper) = decimal answered ++ codes " improper " ++ decimal improper

-- all of them
abbrev pub parts_words : Parts → List ℕ
parts_words parts = parts.first.now ++ decimal parts.number ++ parts.second.now ++ rest_words parts.rest
