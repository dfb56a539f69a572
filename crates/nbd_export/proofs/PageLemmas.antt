-- The bytes at offsets, by pages.
use Rattle.nbd_export.proofs.Common.{◌≡◌, ℕ, List, ◌+◌, ◌*◌, ◌/◌, ◌%◌, ◌<◌, ◌≤◌, length, slice_index, sym, ◌∙◌, ap, Some, None, arith, ⊎_elim, cases_eq, PAGE, Pages, byte_from, page_from, stored_byte}

-- some bytes further on in a page
pub same_page : (x i : ℕ) → x % PAGE + i < PAGE → (x + i) / PAGE ≡ x / PAGE
same_page x i l = omega arith

pub further_on : (x i : ℕ) → x % PAGE + i < PAGE → (x + i) % PAGE ≡ x % PAGE + i
further_on x i l = omega arith

-- a byte of a written page
pub stored_on : (p : Pages) (x : ℕ) (page : List ℕ) → page_from p (x / PAGE) ≡ Some page → stored_byte p x ≡ slice_index page (x % PAGE)
unfolding stored_byte
stored_on p x page e = ap (λ o. byte_from p.image.value.items o x) e

-- a byte of no written page
pub stored_off : (p : Pages) (x : ℕ) → page_from p (x / PAGE) ≡ None → stored_byte p x ≡ slice_index p.image.value.items x
unfolding stored_byte
stored_off p x e = ap (λ o. byte_from p.image.value.items o x) e

-- the same bytes where the image and the pages are the same
pub stored_same : (p q : Pages) (x : ℕ) → q.image.value.items ≡ p.image.value.items → page_from q (x / PAGE) ≡ page_from p (x / PAGE) → stored_byte q x ≡ stored_byte p x
unfolding stored_byte
stored_same p q x i e = ap (λ o. byte_from q.image.value.items o x) e ∙ ap (λ l. byte_from l (page_from p (x / PAGE)) x) i

-- a byte further on in a written page
pub stored_along : (p : Pages) (x i : ℕ) (page : List ℕ) → page_from p (x / PAGE) ≡ Some page → x % PAGE + i < PAGE → stored_byte p (x + i) ≡ slice_index page (x % PAGE + i)
stored_along p x i page e l = stored_on p (x + i) page (ap (page_from p) (same_page x i l) ∙ e) ∙ ap (slice_index page) (further_on x i l)

-- a byte further on where the page is not written
pub stored_along_image : (p : Pages) (x i : ℕ) → page_from p (x / PAGE) ≡ None → x % PAGE + i < PAGE → stored_byte p (x + i) ≡ slice_index p.image.value.items (x + i)
stored_along_image p x i e l = stored_off p (x + i) (ap (page_from p) (same_page x i l) ∙ e)

-- a page that says what was read there before changes no byte
pub stored_made : (p q : Pages) (number : ℕ) (page : List ℕ) → q.image.value.items ≡ p.image.value.items → page_from q number ≡ Some page → ((k : ℕ) → (number ≡ k → ⊥) → page_from q k ≡ page_from p k) → ((i : ℕ) → i < PAGE → slice_index page i ≡ stored_byte p (number * PAGE + i)) → (x : ℕ) → stored_byte q x ≡ stored_byte p x
stored_made p q number page image made others bytes x = ⊎_elim
    (λ (e : number ≡ x / PAGE). stored_on q x page (ap (page_from q) (sym e) ∙ made) ∙ bytes (x % PAGE) (omega arith) ∙ ap (stored_byte p) (let is : number * PAGE + x % PAGE ≡ x = omega arith in is))
    (λ (ne : number ≡ x / PAGE → ⊥). stored_same p q x image (others (x / PAGE) ne))
    (cases_eq number (x / PAGE))

-- bytes written in one page
module _ (p q : Pages) (offset : ℕ) (page written part : List ℕ) (image : q.image.value.items ≡ p.image.value.items)
    (old : page_from p (offset / PAGE) ≡ Some page) (new : page_from q (offset / PAGE) ≡ Some written)
    (others : (k : ℕ) → (offset / PAGE ≡ k → ⊥) → page_from q k ≡ page_from p k) where
  pub write_inside : ((i : ℕ) → i < length part → slice_index written (offset % PAGE + i) ≡ slice_index part i) → offset % PAGE + length part ≤ PAGE → (i : ℕ) → i < length part → stored_byte q (offset + i) ≡ slice_index part i
  write_inside h fits i l = stored_along q offset i written new (omega arith) ∙ h i l

  pub write_outside : (x : ℕ) → ((x / PAGE ≡ offset / PAGE) → slice_index written (x % PAGE) ≡ slice_index page (x % PAGE)) → stored_byte q x ≡ stored_byte p x
  write_outside x h = ⊎_elim
      (λ (e : offset / PAGE ≡ x / PAGE). stored_on q x written (ap (page_from q) (sym e) ∙ new) ∙ h (sym e) ∙ sym (stored_on p x page (ap (page_from p) (sym e) ∙ old)))
      (λ (ne : offset / PAGE ≡ x / PAGE → ⊥). stored_same p q x image (others (x / PAGE) ne))
      (cases_eq (offset / PAGE) (x / PAGE))
