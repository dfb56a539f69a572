use Rattle.std.specs.Prelude.{◌≡◌, Some, None}
use Rattle.nbd_wire.proofs.Common.{arith, same_Some, none-some, Reads}

-- an answer that has the form, where no other value has it
pub Reads-found : {A : Type 0} (Form : A → Type 0) (answer value : A) → answer ≡ value → Form value → ((other : A) → Form other → value ≡ other) → Reads (Some answer) Form
Reads-found {A = A} Form answer value e form only = grind (arith, same_Some)

-- no answer, where no value has the form
pub Reads-none : {A : Type 0} (Form : A → Type 0) → ((other : A) → Form other → ⊥) → Reads None Form
Reads-none Form none = λ other. (λ same. absurd (none-some other same), λ f. absurd (none other f))
