-- What a chunk says does not depend on its header.
use Rattle.nbd_state.proofs.Common.{arith, ◌≡◌, ℕ, List, Option, Some, has, ends_reply, is_error_chunk, is_failing, content_of, option_to_list, piece_of, cookie_of, chunk_with}
use Rattle.nbd_wire.specs.declared.chunks.TheConstants as chunks

module _ (flags kind cookie : ℕ) (payload : List ℕ) where
  pub chunk_ends : (at : Option ℕ) → ends_reply (chunk_with at flags kind cookie payload) ≡ has flags chunks.DONE
  unfolding ends_reply
  chunk_ends at = grind arith

  pub chunk_fails : (at : Option ℕ) → is_failing (chunk_with at flags kind cookie payload) ≡ is_error_chunk kind
  unfolding is_failing
  chunk_fails at = grind arith

  pub chunk_gives : (offset : ℕ) (at : Option ℕ) → piece_of offset (chunk_with at flags kind cookie payload) ≡ option_to_list (content_of kind payload)
  unfolding piece_of
  chunk_gives offset at = grind arith

  pub chunk_cookie : (at : Option ℕ) → cookie_of (chunk_with at flags kind cookie payload) ≡ Some cookie
  chunk_cookie at = grind arith
