-- Block sizes (proto.md, "Size constraints").
use Rattle.std.specs.Prelude.{ℕ, zero, suc, List, ◌==◌, ◌&&◌, ◌||◌, ◌%◌, not, nat_le, nat_lt, Bool, false, if◌then◌else◌, Option, Some, None, drop, count_ones}
use Rattle.nbd_wire.specs.declared.answers.TheConstants as answers
use Rattle.nbd_wire.specs.declared.commands.TheConstants as commands
use Rattle.nbd_wire.specs.declared.infos.TheConstants as infos
use Rattle.nbd_wire.specs.{declared.{limits.TheConstants.{LEAST_SIZE, NO_LARGEST_SIZE, PREFERRED_SIZE}, payloads.Info.{Info, TheVariants.BlockSize}, sizes.{Sizes.Sizes, Sizing.Sizing}}, protocol.Payloads.{behind_name, info_of, is_go, number_at}}
use Rattle.nbd_wire.specs.declared.options.TheConstants as options

-- a server may announce these sizes: the least and the preferred one are powers of 2 (one bit of them is set), the
-- least is 65,536 at most, the preferred one neither below 512 nor below the least, and the largest is not 0 (proto.md,
-- "Size constraints"; that a largest below the preferred one is taken is this project's choice)
abbrev pub are_allowed : Sizes → Bool
are_allowed sizes =
    (count_ones sizes.least == 1) && nat_le sizes.least LEAST_SIZE
    && (count_ones sizes.preferred == 1) && nat_le PREFERRED_SIZE sizes.preferred
    && nat_le sizes.least sizes.preferred
    && not (sizes.largest == 0)

-- the sizes that an info announces, if it does
abbrev pub sizes_of : Option Info → Option Sizes
sizes_of (Some (BlockSize least preferred most)) =
    Some (record { least = least; preferred = preferred; largest = most })
sizes_of _ = None

-- one of so many numbers of two bytes is this
abbrev pub has_number : (wanted count : ℕ) → List ℕ → Bool
has_number wanted zero bytes = false
has_number wanted (suc count) bytes = (number_at 0 2 bytes == wanted) || has_number wanted count (drop 2 bytes)

-- INFO or GO data that has its form and asks for block sizes (proto.md, "Option types")
abbrev pub asks_sizes : List ℕ → Bool
asks_sizes bytes =
    is_go bytes && has_number infos.BLOCK_SIZE (number_at 0 2 (behind_name bytes)) (drop 2 (behind_name bytes))

-- no option was chosen
abbrev pub no_sizing : Sizing
no_sizing = record { asked = false; told = None }

-- once an option is chosen: GO alone can bring sizes in force, and what came before is forgotten (proto.md, "Size
-- constraints")
abbrev pub sizing_at : (id : ℕ) (payload : List ℕ) → Sizing
sizing_at id payload = record { asked = (id == options.GO) && asks_sizes payload; told = None }

-- the last sizes that were announced count (this project's choice)
abbrev pub last_sizes : (now before : Option Sizes) → Option Sizes
last_sizes (Some sizes) before = Some sizes
last_sizes None before = before

-- after an answer to that option
abbrev pub sizing_after : (kind : ℕ) (answer : List ℕ) → Sizing → Sizing
sizing_after kind answer sizing =
    if kind == answers.INFO then record sizing { told = last_sizes (sizes_of (info_of answer)) sizing.told } else sizing

-- the sizes that the client has to keep, where that option led into transmission (proto.md, "Size constraints")
abbrev pub sizes_kept : Sizing → Option Sizes
sizes_kept sizing = if sizing.asked then sizing.told else None

-- the sizes that a request of this type has to keep: where structured replies are in force the largest bounds no READ,
-- whose bytes a server may split over chunks (proto.md, "Size constraints")
abbrev pub sizes_for : (structured : Bool) (command : ℕ) → Option Sizes → Option Sizes
sizes_for structured command None = None
sizes_for structured command (Some sizes) =
    Some (if structured && (command == commands.READ) then record sizes { largest = NO_LARGEST_SIZE } else sizes)

-- the payload of a READ or WRITE is longer than the largest size, unless that bounds nothing
abbrev pub is_too_long : Sizes → (command length : ℕ) → Bool
is_too_long sizes command length =
    ((command == commands.READ) || (command == commands.WRITE))
    && not (sizes.largest == NO_LARGEST_SIZE) && nat_lt sizes.largest length

-- a range breaks the sizes, if there are some: its offset or its length is no multiple of the least, or a payload is
-- too long (proto.md, "Size constraints")
abbrev pub breaks_sizes : Option Sizes → (command offset length : ℕ) → Bool
breaks_sizes None command offset length = false
breaks_sizes (Some sizes) command offset length =
    not (offset % sizes.least == 0) || not (length % sizes.least == 0) || is_too_long sizes command length
