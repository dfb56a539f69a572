-- What the verdict on a capture says.
use Rattle.std.specs.{Prelude.{ℕ, List, ◌≡◌, ◌↔◌, map}, declared.{alloc.Global.Global, vec.Vec.Vec}}
use Rattle.nbd_wire.specs.{declared.{entry.Entry.Entry, message.{Message.Message, Side.Side}, profile.Profile.Profile, verdict.Verdict.{Verdict, TheVariants.{Yes, Wire}}}, Prelude.{IsExplainedOf, Start, Item, pairs, Pair, report, IsRunOf}}
use Rattle.nbd_session.specs.Refusals.{IsWireFaultOf}
use Rattle.nbd_judge.specs.{Conclusions.Answers, Verdicts.IsVerdict}

-- each chunk's side and its bytes
abbrev pub records_of : List (Side × Vec ℕ Global) → List (Side × List ℕ)
records_of chunks = map (λ (chunk : Side × Vec ℕ Global). (chunk.0, chunk.1.items)) chunks

-- some run of the profile has these bytes, and the verdict is that on the report of each such run
pub record HasVerdict (profile : Profile) (capture : List Pair) (order : List Entry) (initial : Start)
    (v : Verdict) : Type 0 where
  pub items : List Item
  pub is_run : IsRunOf profile items
  pub has_pairs : pairs items ≡ capture
  pub is_verdict : (others : List Item) → IsRunOf profile others → pairs others ≡ capture
      → IsVerdict profile (report others) order initial v
  pub answers : Answers profile capture order initial v

-- the verdict on a capture: that on its run of the profile, or where no such run has its bytes its wire fault
abbrev pub IsChecked : Profile → List Pair → List Entry → Start → Verdict → Type 0
IsChecked profile capture order initial (Wire at fault) =
    (messages : List Message) × IsWireFaultOf profile capture messages at fault
IsChecked profile capture order initial v = HasVerdict profile capture order initial v

-- the verdict is a yes
abbrev pub SaysYes : Verdict → Type 0
SaysYes (Yes of_requests of_answered of_improper) = Unit {0}
SaysYes _ = ⊥

-- the verdict is a yes exactly where the order explains the capture, in the profile
abbrev pub AnswersExactly : Profile → List Pair → List Entry → Start → Verdict → Type 0
AnswersExactly profile capture order initial v = SaysYes v ↔ IsExplainedOf profile capture order initial
