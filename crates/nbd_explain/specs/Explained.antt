-- What a run of `explain` writes, where the readers and the writer state their bytes.
use Rattle.std.specs.Prelude.{ℕ, List, Option, Some, None}
use Rattle.nbd_explain.specs.{Common.{Profile, Verdict, Start, RunFault, StartFrom, IsWithinLimit, IsCause, IsVerdictOn, line}, Ordering.IsOrderingCause, declared.answer.Answer.Answer, Answering.IsAnswerTo, Orderless.{BeginsWith, Tells}}

-- the whole line of a verdict was written, and some text behind it
abbrev pub BeginsWithLine : Verdict → (old new : Option (List ℕ)) → Type 0
BeginsWithLine verdict old new = BeginsWith (line verdict) old new

-- the whole line of one verdict of the profile was written, and some text behind it; yes was answered exactly where the
-- verdict is a yes, and else no
pub record Explains (profile : Profile) (capture order : Option (List ℕ)) (initial : Option Start) (answered : Answer)
    (old new : Option (List ℕ)) : Type 0 where
  pub verdict : Verdict
  pub is_verdict : IsVerdictOn profile capture order initial verdict
  pub answer : IsAnswerTo verdict answered
  pub begins : BeginsWithLine verdict old new

-- the same, where an order is given; else what looking for one came to
abbrev pub IsExplained : {O : Type 0} → Profile → (O → Option (List ℕ)) → Option (List ℕ) → Option O → Option Start
    → Answer → (old new : Option (List ℕ)) → Type 0
IsExplained profile remaining capture (Some order) initial answer old new =
    Explains profile capture (remaining order) initial answer old new
IsExplained profile remaining capture None initial answer old new = Tells profile capture initial answer old new

-- an order that is given has no more bytes than an input may have
abbrev pub IsOrderWithinLimit : {O : Type 0} → (O → Option (List ℕ)) → Option O → Type 0
IsOrderWithinLimit remaining (Some order) = IsWithinLimit (remaining order)
IsOrderWithinLimit remaining None = Unit {0}

-- what a fault says of the inputs: as of `check`, or without an order as of `order`
abbrev pub IsExplainCause : {O I : Type 0} → (O → Option (List ℕ)) → (I → Option (List ℕ)) → Option (List ℕ) → Option O
    → StartFrom I → RunFault → Type 0
IsExplainCause remaining of_start capture (Some order) start fault =
    IsCause of_start capture (remaining order) start fault
IsExplainCause remaining of_start capture None start fault = IsOrderingCause of_start capture start fault
