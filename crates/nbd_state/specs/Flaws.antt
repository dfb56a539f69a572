-- What is wrong with a request that a client should not send.
use Rattle.std.specs.Prelude.{Bool, not, ◌+◌, ◌-◌, ◌==◌, ◌&&◌, ◌||◌, bit_and, nat_le}
use Rattle.nbd_wire.specs.declared.commands.TheConstants as commands
use Rattle.nbd_wire.specs.declared.transmission.TheConstants as transmission
use Rattle.nbd_wire.specs.protocol.{Flags.has, Operations.{Exporting, Operation, allowed_flags, has_range, is_change, is_known, is_offered, may_carry}}
use Rattle.nbd_state.specs.declared.proper.Flaws.{Flaws}

-- nothing is wrong with it
abbrev pub is_none : Flaws → Bool
is_none f =
    not (f.is_unknown || f.is_beyond || f.is_unoffered || f.is_forbidden) && (f.flags == 0) && not f.is_ranged

-- of each condition on a request that a client should send whether it is broken, and of the flags which are not allowed
-- (proto.md, "Transmission flags", "Command flags", "Request types")
abbrev pub flaws : Exporting → Operation → Flaws
flaws export e = record {
  is_unknown = not (is_known e);
  is_beyond = has_range e.command && not (nat_le (e.offset + e.length) export.size);
  is_unoffered = not (is_offered export.flags e.command);
  is_forbidden = is_change e.command && has export.flags transmission.READ_ONLY;
  flags = e.flags - bit_and e.flags (allowed_flags (may_carry export.flags e) export.flags e.command);
  is_ranged = (e.command == commands.FLUSH) && not ((e.offset == 0) && (e.length == 0));
}
