-- The answer to the bytes of given items, by tests that compute.
use Rattle.nbd_laws.proofs.Common.{◌≡◌, ℕ, ◌++◌, List, [], IsTrue, flat_map, slice_get, Entry, Client, Server, Profile, Pair, enc, head, tail, FitsImage, Start, start_byte, byte_before, effects, has, has_only, Item, block, of_side, pairs, service_order, ends_reply, is_failing, is_proper, is_proper_option, next_phase, content_of, context_of, failure_of, info_of, is_go, is_listed, queries_of, piece_of, report, IsRunOf, complete, start_of, target, answered_count, improper_count, request_count, IsNoOf, IsYesOf, ended_messages}
use Rattle.nbd_laws.proofs.{service.ExplainingLemmas.{counts_of, failing_is_no}, worked.{DecidingReadLemmas.{all_right, is_wrong_at, none_wrong, wrong}, DecidingRunLemmas.{is_run_of, is_tight, obeys}}}

-- what unfolds where a run is checked
unfoldable pub computing : Unit {0}
unfolding enc head tail complete next_phase target has has_only is_proper is_proper_option queries_of context_of info_of is_listed is_go content_of failure_of ends_reply is_failing piece_of report
computing = tt

module _ {profile : Profile} {capture : List Pair} {order : List Entry} {initial : Start} where
  pub yes_by : {r a i : ℕ} (items : List Item) → IsRunOf profile items → pairs items ≡ capture → service_order items ≡ order → FitsImage (report items).export initial →
      IsTrue (all_right (effects (report items)) (start_byte initial) [] order) → request_count (report items) ≡ r → answered_count (report items) ≡ a → improper_count profile (report items) ≡ i →
      IsYesOf profile capture order initial r a i
  yes_by {r} {a} {i} items run same in_order fits right er ea ei = search (none_wrong, counts_of)

  pub yes : {r a i : ℕ} (items : List Item) → of_side Client items ≡ flat_map (block Client) (ended_messages Client items) ++ [] →
      of_side Server items ≡ flat_map (block Server) (ended_messages Server items) ++ [] → IsTrue (is_tight items) → IsTrue (obeys (start_of profile) items) →
      pairs items ≡ capture → service_order items ≡ order → FitsImage (report items).export initial →
      IsTrue (all_right (effects (report items)) (start_byte initial) [] order) → request_count (report items) ≡ r → answered_count (report items) ≡ a → improper_count profile (report items) ≡ i →
      IsYesOf profile capture order initial r a i
  yes items c s t o same in_order fits right er ea ei = yes_by items (is_run_of profile items c s t o) same in_order fits right er ea ei

  -- entry i serves a wrong byte at x
  pub no_by : (items : List Item) → IsRunOf profile items → pairs items ≡ capture → (i x : ℕ) →
      IsTrue (is_wrong_at (effects (report items)) (byte_before (effects (report items)) order (start_byte initial) i) x (slice_get order i)) → IsNoOf profile capture order initial
  no_by items run same i x h = failing_is_no items capture order initial run same (λ p. p.reads i x (wrong (effects (report items)) order (start_byte initial) i x h))

  pub no : (items : List Item) → of_side Client items ≡ flat_map (block Client) (ended_messages Client items) ++ [] →
      of_side Server items ≡ flat_map (block Server) (ended_messages Server items) ++ [] → IsTrue (is_tight items) → IsTrue (obeys (start_of profile) items) →
      pairs items ≡ capture → (i x : ℕ) →
      IsTrue (is_wrong_at (effects (report items)) (byte_before (effects (report items)) order (start_byte initial) i) x (slice_get order i)) → IsNoOf profile capture order initial
  no items c s t o same i x h = no_by items (is_run_of profile items c s t o) same i x h
