-- What is known of a side's bytes, and what is read of them.
use Rattle.nbd_session.proofs.Common.{◌≡◌, ℕ, ◌+◌, ◌<◌, List, ◌++◌, length, refl, ◌∙◌, ap, Option, Some, None, nat_lt, arith, length-append, le-ltb, WireFault, Core, awaited_length_by, Decision, read_by, reading_by_decision, Bad, More, Whole, in_head, in_payload, Expected, expected_decision, last_fault_by, message_of, payload_length_of, IsExpected}
use Rattle.std.proofs.lemmas.Bool.{eq-eqb}

module _ (decided : List ℕ → Option Decision) (core : Core) (head payload : List ℕ) (x : Expected) (known : IsExpected decided core head x) where
  abbrev d : Decision
  d = expected_decision core x (length head) payload

  read_is : reading_by_decision (decided (head ++ payload)) (head ++ payload) ≡ read_by d (head ++ payload)
  read_is = ap (λ o. reading_by_decision o (head ++ payload)) (known.is payload)

  -- as long as bytes are missing more is awaited
  pub expected_more : length payload < payload_length_of x → reading_by_decision (decided (head ++ payload)) (head ++ payload) ≡ More
  expected_more l = read_is ∙ in_payload d (head ++ payload) (omega (arith, length-append head payload)) refl (omega (arith, l, length-append head payload))

  -- at its last byte it has the fault, or is a message
  pub expected_bad : (fault : WireFault) → length payload ≡ payload_length_of x → last_fault_by core.phase core x payload ≡ Some fault → reading_by_decision (decided (head ++ payload)) (head ++ payload) ≡ Bad fault
  expected_bad fault l bad = grind (arith, read_is, length-append, nat_lt, le-ltb, eq-eqb)

  pub expected_whole : length payload ≡ payload_length_of x → last_fault_by core.phase core x payload ≡ None → reading_by_decision (decided (head ++ payload)) (head ++ payload) ≡ Whole (message_of x payload)
  expected_whole l good = grind (arith, read_is, length-append, nat_lt, le-ltb, eq-eqb)

  -- the length of all is awaited
  pub expected_awaited : awaited_length_by (decided (head ++ payload)) (head ++ payload) ≡ length head + payload_length_of x
  expected_awaited = grind (arith, le-ltb, length-append)

-- a head that is not whole
pub short_more : (o : Option Decision) (d : Decision) (head : List ℕ) → o ≡ Some d → length head < d.head_length → reading_by_decision o head ≡ More
short_more o d head is l = ap (λ o. reading_by_decision o head) is ∙ in_head d head l
