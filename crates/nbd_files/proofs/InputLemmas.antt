-- A reader's bytes, read to their end.
use Rattle.nbd_files.proofs.Common.{◌≡◌, ℕ, List, ◌++◌, None, Some, IfSome, ap, sym, subst, ◌∙◌, length, length-append, ◌+◌, ◌<◌, ◌≤◌, arith, Consumes-trans, Global, Vec, Consumes, Option, Text, Longer, Whole, IsText}

-- so many bytes were read; where there is room for them, they are the text
pub record HasRead (old now : Option (List ℕ)) (count room : ℕ) (text : List ℕ) : Type 0 where
  pub bytes : List ℕ
  pub consumed : Consumes old now bytes
  pub counted : length bytes ≡ count
  pub kept : count ≤ room → text ≡ bytes

pub read_more : (old mid new : Option (List ℕ)) (count n room : ℕ) (text more text' : List ℕ) → HasRead old mid count room text → Consumes mid new more → length more ≡ n
    → (count + n ≤ room → text' ≡ text ++ more) → HasRead old new (count + n) room text'
read_more old mid new count n room text more text' h given len then_kept = record {
  bytes = h.bytes ++ more;
  consumed = Consumes-trans old mid new h.bytes more h.consumed given;
  counted = length-append h.bytes more ∙ ap (λ k. k + length more) h.counted ∙ ap (λ k. count + k) len;
  kept = λ l. then_kept l ∙ ap (λ t. t ++ more) (h.kept (omega arith));
}

-- that many bytes are known, and where there is room for them, they are the text
abbrev IsAll : (known : Option (List ℕ)) → (count room : ℕ) → (text : List ℕ) → Type 0
IsAll known count room text = IfSome known (λ bytes. (count ≡ length bytes) × (count ≤ room → text ≡ bytes))

pub all_kept : (known : Option (List ℕ)) (count room : ℕ) (text : Vec ℕ Global) (o : Text) → IsAll known count room text.items → count ≤ room → o ≡ Whole text → IfSome known (IsText room o)
all_kept None count room text o all l e = tt
all_kept (Some bytes) count room text o all l e = subst (λ t. IsText room t bytes) (sym e) (all.1 l)

pub all_counted : (known : Option (List ℕ)) (count room : ℕ) (text : List ℕ) (o : Text) → IsAll known count room text → room < count → o ≡ Longer count → IfSome known (IsText room o)
all_counted None count room text o all l e = tt
all_counted (Some bytes) count room text o all l e = subst (λ t. IsText room t bytes) (sym e) (all.0, l)
