-- The tests that part a yes from a no, on the report of a run, and what they answer with.
use Rattle.std.specs.Prelude.{ℕ, List, Bool, true, false, not, ◌||◌, length, count_by}
use Rattle.nbd_wire.specs.{declared.{entry.Entry.Entry, profile.Profile.{Profile, TheVariants.{Base, Wide}}}, protocol.{Explains.{FitsImage, HasNoWrongByte, Start}, Orders.HasNoOrderFault, Reports.{Asked, Report, due_in, inside_in}, Operations.{Outcome, Pending}}}

-- the order has no fault for the requests of the report, in the profile
abbrev pub IsFaultless : Profile → Report → List Entry → Type 0
IsFaultless profile r order = HasNoOrderFault (length r.asked) (due_in profile r) (inside_in r) order

-- the three tests: the order has no fault, an image has the export's size, no byte is wrong
pub record Passes (profile : Profile) (r : Report) (order : List Entry) (initial : Start) : Type 0 where
  pub faultless : IsFaultless profile r order
  pub fits_image : FitsImage r.export initial
  pub reads : HasNoWrongByte r order initial

-- the reply was finished
abbrev pub is_answered : Outcome → Bool
is_answered Pending = false
is_answered _ = true

-- the counts of a yes: how many numbered requests there are
abbrev pub request_count : Report → ℕ
request_count r = length r.asked

-- how many requests were finished
abbrev pub answered_count : Report → ℕ
answered_count r = count_by (λ (a : Asked). is_answered a.outcome) r.asked

-- a request that a client should not have sent: an improper one, and in Wide one that is outside of the block sizes
abbrev pub is_amiss : Profile → Asked → Bool
is_amiss Base a = not a.proper
is_amiss Wide a = not a.proper || a.outside

-- how many requests were such
abbrev pub improper_count : Profile → Report → ℕ
improper_count profile r = count_by (is_amiss profile) r.asked
