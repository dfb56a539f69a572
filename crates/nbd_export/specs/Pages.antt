-- Bytes in pages: those of an image, and over them each page of which a byte was ever written.
use Rattle.std.specs.{Prelude.{ℕ, List, ◌/◌, ◌%◌, Option, Some, None, slice_index}, Ordering.nat_cmp, BTreeMap.get, Option.option_map}
use Rattle.nbd_export.specs.declared.pages.{TheConstants.PAGE, Pages.Pages}

-- the page with a number, where one was written
abbrev pub page_from : Pages → ℕ → Option (List ℕ)
page_from pages number = option_map (λ page. page.value) (get nat_cmp pages.pages number)

-- the byte at an offset in its page, or where there is none the byte of the image, or 0 after its end
abbrev pub byte_from : List ℕ → Option (List ℕ) → ℕ → ℕ
byte_from image (Some page) x = slice_index page (x % PAGE)
byte_from image None x = slice_index image x

-- the byte at an offset
unfoldable pub stored_byte : Pages → ℕ → ℕ
stored_byte pages x = byte_from pages.image.value.items (page_from pages (x / PAGE)) x
