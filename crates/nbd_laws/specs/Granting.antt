-- Whether extended headers are in force, told by looking back (proto.md, "Option types", "Reserved Magic values"; that
-- an ACK to EXTENDED_HEADERS puts them in force for good is this project's choice).
use Rattle.std.specs.Prelude.{◌≡◌, ◌==◌, ◌&&◌, ◌||◌, ◌++◌, Bool, false, List, [], ◌∷◌}
use Rattle.nbd_wire.specs.declared.answers.TheConstants as answers
use Rattle.nbd_wire.specs.{declared.{message.{Message.{Message, TheVariants.Answer}, Side.Side}, profile.Profile.Profile}, Prelude.{Item, Starts, completed_messages, Exporting, IsRunOf, ends_at, Transmission, start_of, is_extended}}
use Rattle.nbd_wire.specs.declared.options.TheConstants as options

-- an ACK to EXTENDED_HEADERS
abbrev pub is_grant : Message → Bool
is_grant (Answer option kind payload) = (option == options.EXTENDED_HEADERS) && (kind == answers.ACK)
is_grant m = false

-- one of these messages is one
abbrev pub any_grant : List Message → Bool
any_grant [] = false
any_grant (m ∷ messages) = is_grant m || any_grant messages

-- extended headers are in force where an ACK answered EXTENDED_HEADERS before, and nowhere else
abbrev pub HeadersAreGranted : Type 0
HeadersAreGranted = (profile : Profile) (items : List Item)
    → (ends_at (start_of profile) items).core.extended ≡ any_grant (completed_messages items)

-- each message of transmission has an extended header where these are in force as it starts, and none otherwise
abbrev pub HeadsAreInForce : Type 0
HeadsAreInForce = (profile : Profile) (prefix back : List Item) (s : Side) (m : Message) (export : Exporting)
    → (ends_at (start_of profile) prefix).core.phase ≡ Transmission export
    → IsRunOf profile (prefix ++ Starts s m ∷ back) → is_extended m ≡ any_grant (completed_messages prefix)
