-- Which block sizes a client has to keep, told by looking back (proto.md, "Size constraints").
use Rattle.std.specs.Prelude.{◌≡◌, ◌==◌, ◌&&◌, ℕ, List, [], ◌∷◌, ◌++◌, Option, None, if◌then◌else◌}
use Rattle.nbd_wire.specs.declared.answers.TheConstants as answers
use Rattle.nbd_wire.specs.{declared.{message.Message.{Message, TheVariants.{Answer, Choice}}, profile.Profile.Profile, sizes.Sizes.Sizes}, Prelude.{Item, completed_messages, info_of, ends_at, sizes_kept, sizes_of, start_of, asks_sizes, last_sizes}}
use Rattle.nbd_wire.specs.declared.options.TheConstants as options
use Rattle.nbd_laws.specs.Selecting.{ChooseNone}

-- the block sizes that a message announces, if it does
abbrev pub announced : Message → Option Sizes
announced (Answer option kind payload) = if kind == answers.INFO then sizes_of (info_of payload) else None
announced m = None

-- the last that these messages announce
abbrev pub last_announced : List Message → Option Sizes
last_announced [] = None
last_announced (m ∷ messages) = last_sizes (last_announced messages) (announced m)

-- the client has to keep the last block sizes that were announced since the last option, where that is a GO that asked
-- for such, and none otherwise
abbrev pub SizesAreAnnounced : Type 0
SizesAreAnnounced = (profile : Profile) (items : List Item) (early late : List Message) (id : ℕ) (payload : List ℕ)
    → completed_messages items ≡ early ++ Choice id payload ∷ late → ChooseNone late
    → sizes_kept (ends_at (start_of profile) items).core.sizing
    ≡ (if (id == options.GO) && asks_sizes payload then last_announced late else None)
