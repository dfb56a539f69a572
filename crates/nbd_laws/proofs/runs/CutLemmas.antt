-- Where captures were cut into records does not count.
use Rattle.nbd_laws.proofs.Common.{arith, [], ◌∷◌, ◌++◌, ap, append_assoc, map-append, side_pairs, CutsDoNotCount}

pub cuts_do_not_count : CutsDoNotCount
cuts_do_not_count [] back s bytes more = grind (arith, map-append, append_assoc)
cuts_do_not_count (chunk ∷ prefix) back s bytes more = ap (λ l. side_pairs chunk.0 chunk.1 ++ l) (cuts_do_not_count prefix back s bytes more)
