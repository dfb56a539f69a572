-- An image as the bytes of a READ of the whole export.
use Rattle.nbd_explain.proofs.Common.{◌≡◌, ℕ, ◌<◌, ◌≤◌, refl, sym, ◌∙◌, ap, arith, Option, Some, None, true}
use Rattle.std.specs.Prelude.{◌+◌, length, nat_le, nat_lt, slice_get, unwrap_or}
use Rattle.std.proofs.{lemmas.{Bool.{and_from, and_parts, le-leb, lt-ltb, ltb-true}, Option.slice_get_within}, Common.inl}
use Rattle.nbd_wire.specs.Prelude.{is_in}
use Rattle.nbd_export.specs.Held.{Held, held_from}
use Rattle.nbd_export.proofs.HeldLemmas.{length-held_from, slice_get-held_from}
use Rattle.nbd_explain.specs.Compared.{ImagesCompareAsReads}

-- a byte that is known stands in the list
known_within : (bytes : Held) (x b : ℕ) → unwrap_or (slice_get bytes x) None ≡ Some b → x < length bytes
known_within bytes x b h = go (slice_get bytes x) refl h
  where
    go : (o : Option (Option ℕ)) → slice_get bytes x ≡ o → unwrap_or o None ≡ Some b → x < length bytes
    go (Some byte) at h = slice_get_within bytes x byte at
    go None at h = absurd (let q : None ≡ Some b = h in (cc))

held_byte : (bytes : ℕ → Option ℕ) (size x : ℕ) → x < size → unwrap_or (slice_get (held_from bytes 0 size) x) None ≡ bytes x
held_byte bytes size x l = ap (λ o. unwrap_or o None) (slice_get-held_from bytes 0 size x l) ∙ ap bytes (let q : 0 + x ≡ x = omega arith in q)

pub images_compare_as_reads : ImagesCompareAsReads
images_compare_as_reads bytes size image is = (
  (λ none x w.
      let in_range = (and_parts (is_in 0 (length image) x) true w.2).0 in
      let hi : x < 0 + length image = ltb-true x (0 + length image) (and_parts (nat_le 0 x) (nat_lt x (0 + length image)) in_range).1 in
      let l : x < size = omega (arith, hi, is) in
      none x (w.3.0, held_byte bytes size x l ∙ w.3.1, w.3.2)),
  (λ right x d.
      let within : x < length (held_from bytes 0 size) = known_within (held_from bytes 0 size) x d.0 d.1 in
      let long : length (held_from bytes 0 size) ≡ size = length-held_from bytes 0 size in
      let l : x < size = omega (arith, within, long) in
      let low : 0 ≤ x = omega arith in
      let high : x < 0 + length image = omega (arith, l, is) in
      let in_range = and_from (nat_le 0 x) (nat_lt x (0 + length image)) (le-leb 0 x low) (lt-ltb x (0 + length image) high) in
      right x (inl refl, refl, and_from (is_in 0 (length image) x) true in_range refl, (d.0, sym (held_byte bytes size x l) ∙ d.1, d.2))),
)
