-- The answers of `explain`.
use Rattle.std.specs.Prelude.{ℕ, Result, Ok, Err}
use Rattle.nbd_explain.specs.{Common.{Verdict, Found, RunFault, status, IsYes}, declared.answer.Answer.{Answer, TheVariants.{No, Open, Yes}}}
use Rattle.nbd_order.specs.declared.finding.Found.TheVariants as found

-- the answer to a verdict: it is never open
abbrev pub IsAnswerTo : Verdict → Answer → Type 0
IsAnswerTo verdict Yes = IsYes verdict
IsAnswerTo verdict No = IsYes verdict → ⊥
IsAnswerTo verdict Open = ⊥

-- the answer to what looking for an order came to
abbrev pub answer_to : Found → Answer
answer_to (found.Order entries) = Yes
answer_to (found.Unexplained refutation) = No
answer_to (found.Image image size) = No
answer_to found.NoneWhole = Open
answer_to (found.GaveUp request offset reason) = Open

-- the exit status of an answer
abbrev pub status_of : Result Answer RunFault → ℕ
status_of (Ok Yes) = 0
status_of (Ok No) = 1
status_of (Ok Open) = 5
status_of (Err fault) = status fault
