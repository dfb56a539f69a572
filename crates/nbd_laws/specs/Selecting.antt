-- Which metadata contexts are in force, told by looking back.
use Rattle.std.specs.Prelude.{◌≡◌, ◌≢◌, ◌⊎◌, ◌<◌, ◌^◌, ℕ, List, [], ◌∷◌, ◌++◌, All, map}
use Rattle.byteorder.specs.Endian.{big_bytes}
use Rattle.nbd_wire.specs.declared.answers.TheConstants as answers
use Rattle.nbd_wire.specs.declared.options.TheConstants as options
use Rattle.nbd_wire.specs.{declared.{message.Message.{Message, TheVariants.{Answer, Choice}}, profile.Profile.Profile}, Prelude.{Context, Item, completed_messages, Exporting, Operation, IsRunOf, ends_at, Transmission, in_force, start_of, HasGoForm, HasQueriesForm}}

-- the answer that tells a context (proto.md, "Option reply types")
abbrev pub telling : Context → Message
telling context = Answer options.SET_META_CONTEXT answers.META_CONTEXT (big_bytes 4 context.id ++ context.name)

-- no message chooses SET_META_CONTEXT
abbrev pub ChooseNoOther : List Message → Type 0
ChooseNoOther messages =
    All (λ (m : Message). (payload : List ℕ) → m ≢ Choice options.SET_META_CONTEXT payload) messages

-- no message chooses an option
abbrev pub ChooseNone : List Message → Type 0
ChooseNone messages = All (λ (m : Message). (id : ℕ) (payload : List ℕ) → m ≢ Choice id payload) messages

-- the option with this data leads into transmission on the export of this name: EXPORT_NAME, whose data is the name, or
-- GO (proto.md, "Option types")
abbrev pub Names : (id : ℕ) (payload name : List ℕ) → Type 0
Names id payload name =
    (id ≡ options.EXPORT_NAME) × (payload ≡ name)
    ⊎ (id ≡ options.GO) × ((count : ℕ) × HasGoForm name count payload)

-- these contexts were selected by the last SET_META_CONTEXT: an ACK ended its answer, which told just them, it was for
-- the export that the last option names, and structured replies were in force when that was chosen, by an ACK to
-- STRUCTURED_REPLY or EXTENDED_HEADERS (proto.md, "Metadata querying", "Option types")
pub record AreSelected (messages : List Message) (contexts : List Context) : Type 0 where
  pub early : List Message
  pub asked : List ℕ
  pub between : List Message
  pub id : ℕ
  pub payload : List ℕ
  pub late : List Message
  pub cut : messages ≡ early ++ Choice options.SET_META_CONTEXT asked ∷ map telling contexts
      ++ Answer options.SET_META_CONTEXT answers.ACK [] ∷ between ++ Choice id payload ∷ late
  pub ids : All (λ (context : Context). context.id < 2 ^ 32) contexts
  pub last_set : ChooseNoOther between
  pub last_choice : ChooseNone late
  pub name : List ℕ
  pub count : ℕ
  pub asks : HasQueriesForm name count asked
  pub names : Names id payload name
  pub before : List Message
  pub after : List Message
  pub granting : ℕ
  pub grants : (granting ≡ options.STRUCTURED_REPLY) ⊎ (granting ≡ options.EXTENDED_HEADERS)
  pub structured : early ++ between ≡ before ++ Answer granting answers.ACK [] ∷ after

-- each of these requests was asked while these contexts were in force
abbrev pub AreAskedWith : List Context → List Operation → Type 0
AreAskedWith contexts [] = Unit {0}
AreAskedWith contexts (e ∷ entries) = (e.contexts ≡ contexts) × AreAskedWith contexts entries

-- the requests of a run were asked while the contexts were in force that are at its end
abbrev pub ContextsStay : Type 0
ContextsStay = (profile : Profile) (items : List Item) → IsRunOf profile items
    → AreAskedWith (in_force (ends_at (start_of profile) items).core) (ends_at (start_of profile) items).core.entries

-- in transmission the contexts in force are those that were selected so, and none where none were
abbrev pub ContextsAreSelected : Type 0
ContextsAreSelected = (profile : Profile) (items : List Item) (export : Exporting) → IsRunOf profile items
    → (ends_at (start_of profile) items).core.phase ≡ Transmission export →
    ((contexts : List Context) → AreSelected (completed_messages items) contexts
    → in_force (ends_at (start_of profile) items).core ≡ contexts)
    × (in_force (ends_at (start_of profile) items).core ≢ []
    → AreSelected (completed_messages items) (in_force (ends_at (start_of profile) items).core))
