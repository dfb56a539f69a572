-- Ends of lines, next to what `hex` says of its calls.
use Rattle.nbd_lines.proofs.{Common.{◌≡◌, ℕ, Bool, true, false, List, [], ◌∷◌, ◌++◌, Ok, Err, length, refl, sym, subst, arith, ◌==◌, eqb-true, append_cancel_left, decode_of, FromHexError, decodes, spelled, IsEnd, payload_words, nothing, payload}, MessageLineLemmas.{Carries, EndsSo, ends_so}}

pub nothing_at : (p : Bool) (bytes end : List ℕ) → p ≡ false → bytes ≡ [] → end ≡ [] → IsEnd p bytes end
nothing_at p bytes end e b n = rw (e, b, n) nothing

ends_at : (p q : Bool) (bytes end : List ℕ) → p ≡ q → IsEnd p bytes end → EndsSo q bytes end
ends_at p q bytes end e i = ends_so q bytes end (subst (λ r. IsEnd r bytes end) e i)

pub not_nothing : (p : Bool) (end : List ℕ) → p ≡ false → (end ≡ [] → ⊥) → (bytes : List ℕ) → IsEnd p bytes end → ⊥
unfolding EndsSo
not_nothing p end e some bytes i = some (ends_at p false bytes end e i).1

pub payload_at : (p : Bool) (digits bytes end : List ℕ) → p ≡ true → end ≡ payload_words ++ digits → decode_of digits ≡ Ok bytes → IsEnd p bytes end
payload_at p digits bytes end e w d = rw (e, w) (payload digits bytes (spelled digits bytes d))

pub no_payload : (p : Bool) (end : List ℕ) → p ≡ true → ((digits : List ℕ) → end ≡ payload_words ++ digits → ⊥) → (bytes : List ℕ) → IsEnd p bytes end → ⊥
unfolding EndsSo
no_payload p end e none bytes i = let c : Carries bytes end = ends_at p true bytes end e i in none c.digits c.whole

pub bad_digits_are_no_end : (p : Bool) (digits end : List ℕ) (fault : FromHexError) → p ≡ true → end ≡ payload_words ++ digits → decode_of digits ≡ Err fault → (bytes : List ℕ) → IsEnd p bytes end → ⊥
unfolding EndsSo
bad_digits_are_no_end p digits end fault e w bad bytes i = grind (arith, ends_at, append_cancel_left, decodes, spelled)

pub empty : (xs : List ℕ) → true ≡ (length xs == 0) → xs ≡ []
empty [] e = refl
empty (x ∷ xs) e = let n = eqb-true (length (x ∷ xs)) 0 (sym e) in absurd (omega arith)
