-- What is left, compared with an image that is read portion by portion.
use Rattle.nbd_explain.proofs.{Common.{◌≡◌, ℕ, ◌+◌, ◌-◌, ◌<◌, ◌≤◌, zero, suc, refl, sym, ◌∙◌, ap, subst, arith, Option, Some, None, IfSome, Bool, List, ◌++◌, length, length-append, slice_get, Appends}, CountLemmas.both_counts}
use Rattle.std.specs.{Prelude.{[], ◌∷◌, count_by, is_none, is_some, unwrap_or}, Io.KnownBytes.Consumes}
use Rattle.std.proofs.{KnownBytes.{Consumes-nil, Consumes-trans}, lemmas.Bool.cases_lt, Common.{⊎_elim}}
use Rattle.nbd_export.specs.{declared.extents.Extents.Extents, Extents.{byte_of, size_of}, Held.{Held, held, held_from}, Ranges.{DiffersIn, IsLeast, bytes_from}}
use Rattle.nbd_export.proofs.{HeldLemmas.{length-held_from, slice_get-held_from, slice_get-held_from-none}, LeastLemmas.{least_in_part, none_in_part}}
use Rattle.nbd_explain.specs.{Compared.{DiffersAt, WritesCompared, agreeing_line, differing_line, sizes_line, Compares.{agree, differ, sizes}}, declared.comparing.Compared.{Compared, TheVariants.{Agree, Differ, Sizes}}, internal.Comparing.{IsComparison, IsLeastOther, compared_line, is_agreement}}

-- an element of two lists, one behind the other
get_front : (front behind : List ℕ) (i : ℕ) → i < length front → slice_get (front ++ behind) i ≡ slice_get front i
get_front [] behind i lt = absurd (omega (arith, lt))
get_front (b ∷ front) behind zero lt = refl
get_front (b ∷ front) behind (suc i) lt = get_front front behind i (omega arith)

get_behind : (front behind : List ℕ) (i : ℕ) → length front ≤ i → slice_get (front ++ behind) i ≡ slice_get behind (i - length front)
get_behind [] behind i le = ap (slice_get behind) (let e : i ≡ i - 0 = omega arith in e)
get_behind (b ∷ front) behind zero le = absurd (omega (arith, le))
get_behind (b ∷ front) behind (suc i) le = get_behind front behind i (omega arith) ∙ ap (slice_get behind) (let e : i - length front ≡ suc i - suc (length front) = omega arith in e)

bytes_front : (front behind : List ℕ) (x : ℕ) → x < length front → bytes_from 0 (front ++ behind) x ≡ bytes_from 0 front x
bytes_front front behind x lt = get_front front behind (x - 0) (omega arith)

bytes_behind : (front behind : List ℕ) (x : ℕ) → length front ≤ x → bytes_from 0 (front ++ behind) x ≡ bytes_from (length front) behind x
bytes_behind front behind x le =
    get_behind front behind (x - 0) (omega arith)
    ∙ ap (slice_get behind) (let e : x - 0 - length front ≡ x - length front = omega arith in e)

-- where known bytes are none of these
abbrev Differs : (ℕ → Option ℕ) → List ℕ → ℕ → Type 0
Differs f bytes x = DiffersIn f 0 (length bytes) (bytes_from 0 bytes) x

differs_front : (f : ℕ → Option ℕ) (front behind : List ℕ) (x : ℕ) → x < length front → Differs f (front ++ behind) x → Differs f front x
differs_front f front behind x lt d = (d.0, omega arith, (d.2.0, d.2.1, λ e. d.2.2 (bytes_front front behind x lt ∙ e)))

differs_whole : (f : ℕ → Option ℕ) (front behind : List ℕ) (x : ℕ) → Differs f front x → Differs f (front ++ behind) x
differs_whole f front behind x d =
    let lt : x < 0 + length front = d.1 in
    let len : length (front ++ behind) ≡ length front + length behind = length-append front behind in
    (d.0, omega arith, (d.2.0, d.2.1, λ e. d.2.2 (sym (bytes_front front behind x (omega arith)) ∙ e)))

-- the least of them stays it, whatever comes behind
pub least_stays : (f : ℕ → Option ℕ) (front behind : List ℕ) (o : ℕ) → IsLeast (Differs f front) (Some o) → IsLeast (Differs f (front ++ behind)) (Some o)
least_stays f front behind o l =
    let lt : o < 0 + length front = l.0.1 in
    (differs_whole f front behind o l.0, λ m b d. l.1 m b (differs_front f front behind m (omega arith) d))

-- where there is none, it is the least of what comes behind
pub least_behind : (f : ℕ → Option ℕ) (front behind : List ℕ) (o : Option ℕ) → IsLeast (Differs f front) None → IsLeast (DiffersIn f (length front) (length behind) (bytes_from (length front) behind)) o → IsLeast (Differs f (front ++ behind)) o
least_behind f front behind (Some o) none l =
    let len : length (front ++ behind) ≡ length front + length behind = length-append front behind in
    least_in_part f (bytes_from 0 (front ++ behind)) (bytes_from (length front) behind) 0 (length (front ++ behind)) (length front) (length behind)
    (omega arith) (omega arith) (λ x lo hi. bytes_behind front behind x lo) (λ x lt d. none x (differs_front f front behind x lt d)) o l
least_behind f front behind None none l = λ x d.
    let len : length (front ++ behind) ≡ length front + length behind = length-append front behind in
    let lt : x < 0 + length (front ++ behind) = d.1 in
    none_in_part f (bytes_from 0 (front ++ behind)) (bytes_from (length front) behind) 0 (length (front ++ behind)) (length front) (length behind)
    (omega arith) (omega arith) (λ y lo hi. bytes_behind front behind y lo) (λ y below e. none y (differs_front f front behind y below e)) (λ y e. l y e) x (omega arith) d

-- what one step of the reading finds
pub least_kept : (contents : Extents) (before more : List ℕ) (first : Option ℕ) (o : ℕ) → first ≡ Some o → IsLeastOther contents before first → IsLeastOther contents (before ++ more) first
least_kept contents before more first o is l =
    subst (IsLeastOther contents (before ++ more)) (sym is) (least_stays (byte_of contents) before more o (subst (IsLeastOther contents before) is l))

pub least_next : (contents : Extents) (before more : List ℕ) (offset : ℕ) (first o : Option ℕ) → first ≡ None → length before ≡ offset → IsLeastOther contents before first → IsLeast (DiffersIn (byte_of contents) offset (length more) (bytes_from offset more)) o
    → IsLeastOther contents (before ++ more) o
least_next contents before more offset first o is at l next =
    least_behind (byte_of contents) before more o (subst (IsLeastOther contents before) is l)
    (subst (λ n. IsLeast (DiffersIn (byte_of contents) n (length more) (bytes_from n more)) o) (sym at) next)

-- so many bytes of an image were read; where they are no more than the export has, this is the least offset at which one of
-- them is none that is known
pub record HasCompared (old now : Option (List ℕ)) (contents : Extents) (count : ℕ) (first : Option ℕ) : Type 0 where
  pub bytes : List ℕ
  pub consumed : Consumes old now bytes
  pub counted : length bytes ≡ count
  pub least : count ≤ size_of contents → IsLeastOther contents bytes first

pub compared_nothing : (given : Option (List ℕ)) (contents : Extents) → HasCompared given given contents 0 None
compared_nothing given contents = record {
  bytes = [];
  consumed = Consumes-nil given;
  counted = refl;
  least = λ le x d. (let lt : x < 0 + 0 = d.1 in omega arith);
}

pub compared_more : (old mid new : Option (List ℕ)) (contents : Extents) (count n : ℕ) (first next : Option ℕ) (more : List ℕ) → HasCompared old mid contents count first → Consumes mid new more → length more ≡ n
    → ((before : List ℕ) → length before ≡ count → count + length more ≤ size_of contents → IsLeastOther contents before first → IsLeastOther contents (before ++ more) next)
    → HasCompared old new contents (count + n) next
compared_more old mid new contents count n first next more h given len step = record {
  bytes = h.bytes ++ more;
  consumed = Consumes-trans old mid new h.bytes more h.consumed given;
  counted = length-append h.bytes more ∙ ap (λ k. k + length more) h.counted ∙ ap (λ k. count + k) len;
  least = λ le. step h.bytes h.counted (omega (arith, len, le)) (h.least (omega (arith, le)));
}

-- a known byte of a list, by its offset
known_at : (f : ℕ → Option ℕ) (n x b : ℕ) → unwrap_or (slice_get (held_from f 0 n) x) None ≡ Some b → (x < n) × (f x ≡ Some b)
known_at f n x b h = ⊎_elim
    (λ (lt : x < n). (lt, ap f (let e : x ≡ 0 + x = omega arith in e) ∙ sym (ap (λ o. unwrap_or o None) (slice_get-held_from f 0 n x lt)) ∙ h))
    (λ (le : n ≤ x). absurd (let no : None ≡ Some b = sym (ap (λ o. unwrap_or o None) (slice_get-held_from-none f 0 n x le)) ∙ h in cc))
    (cases_lt x n)

-- an image of the same size differs where its bytes do
differs_by_bytes : (f : ℕ → Option ℕ) (n : ℕ) (image : List ℕ) (x : ℕ) → length image ≡ n → DiffersAt (held_from f 0 n) image x → Differs f image x
differs_by_bytes f n image x len d =
    let at : (x < n) × (f x ≡ Some d.0) = known_at f n x d.0 d.1 in
    let lt : x < n = at.0 in
    (omega arith, omega arith, (d.0, at.1, λ e. d.2 (ap (slice_get image) (let same : x ≡ x - 0 = omega arith in same) ∙ e)))

differs_by_list : (f : ℕ → Option ℕ) (n : ℕ) (image : List ℕ) (x : ℕ) → length image ≡ n → Differs f image x → DiffersAt (held_from f 0 n) image x
differs_by_list f n image x len d =
    let lt : x < 0 + length image = d.1 in (
      d.2.0,
      ap (λ o. unwrap_or o None) (slice_get-held_from f 0 n x (omega arith)) ∙ ap f (let e : 0 + x ≡ x = omega arith in e) ∙ d.2.1,
      λ e. d.2.2 (ap (slice_get image) (let same : x - 0 ≡ x = omega arith in same) ∙ e),
    )

-- an image of so many bytes, where this is the least offset at which one of them differs
module _ (contents : Extents) (image : List ℕ) (count size : ℕ) (first : Option ℕ) (sized : size ≡ size_of contents) (counted : count ≡ length image) (least : count ≤ size_of contents → IsLeastOther contents image first) where
  has_size : length (held contents) ≡ size
  has_size = length-held_from (byte_of contents) 0 (size_of contents) ∙ sym sized

  least_is : count ≡ size → (o : Option ℕ) → first ≡ o → IsLeastOther contents image o
  least_is same o is = subst (IsLeastOther contents image) is (least (omega (arith, same, sized)))

  -- the image has another size
  pub of_sizes : (count ≡ size → ⊥) → IsComparison (held contents) image (Sizes count size)
  of_sizes other = (λ e. other (counted ∙ e ∙ has_size), counted, sym has_size)

  -- it has the same size, and a byte that differs
  pub of_difference : (o : ℕ) → count ≡ size → first ≡ Some o → IsComparison (held contents) image (Differ o)
  of_difference o same is =
      let len : length image ≡ size_of contents = sym counted ∙ same ∙ sized in
      let l : IsLeastOther contents image (Some o) = least_is same (Some o) is in (
        sym counted ∙ same ∙ sym has_size,
        (differs_by_list (byte_of contents) (size_of contents) image o len l.0, λ m b d. l.1 m b (differs_by_bytes (byte_of contents) (size_of contents) image m len d)),
      )

  -- it has the same size, and none
  pub of_agreement : (known_bytes : ℕ) → count ≡ size → first ≡ None → known_bytes ≡ count_by is_some (held contents) → IsComparison (held contents) image (Agree known_bytes (size - known_bytes))
  of_agreement known_bytes same is known_are =
      let len : length image ≡ size_of contents = sym counted ∙ same ∙ sized in
      let l : IsLeastOther contents image None = least_is same None is in
      let both = both_counts (held contents) in (
        sym counted ∙ same ∙ sym has_size,
        λ x d. l x (differs_by_bytes (byte_of contents) (size_of contents) image x len d),
        known_are,
        (let all : length (held contents) ≡ size = has_size in omega (arith, all, both, known_are)),
      )

-- an image that has another size by its measure
pub of_measure : (contents : Extents) (given : Option (List ℕ)) (count size : ℕ) → size ≡ size_of contents → (count ≡ size → ⊥) → IfSome given (λ bytes. count ≡ length bytes) → IfSome given (λ bytes. IsComparison (held contents) bytes (Sizes count size))
of_measure contents None count size sized other measured = tt
of_measure contents (Some bytes) count size sized other measured = (λ e. other (measured ∙ e ∙ length-held_from (byte_of contents) 0 (size_of contents) ∙ sym sized), measured, sized ∙ sym (length-held_from (byte_of contents) 0 (size_of contents)))

-- the line of it was written
pub written_compared : (bytes : Held) (image : List ℕ) (compared : Compared) (text : List ℕ) (old new : Option (List ℕ)) (answer : Bool) → IsComparison bytes image compared → text ≡ compared_line compared → Appends old new text
    → answer ≡ is_agreement compared → WritesCompared bytes image old new answer
written_compared bytes image (Agree known_count unknown_count) text old new answer h line wrote is =
    subst (WritesCompared bytes image old new) (sym is) (
      agreeing_line (count_by is_some bytes) (count_by is_none bytes),
      agree h.0 h.1,
      subst (Appends old new) (line ∙ ap (λ n. agreeing_line n unknown_count) h.2 ∙ ap (agreeing_line (count_by is_some bytes)) h.3) wrote,
    )
written_compared bytes image (Sizes of_image of_bytes) text old new answer h line wrote is =
    subst (WritesCompared bytes image old new) (sym is) (
      sizes_line (length image) (length bytes),
      sizes h.0,
      subst (Appends old new) (line ∙ ap (λ n. sizes_line n of_bytes) h.1 ∙ ap (sizes_line (length image)) h.2) wrote,
    )
written_compared bytes image (Differ offset) text old new answer h line wrote is =
    subst (WritesCompared bytes image old new) (sym is) (differing_line offset, differ offset h.0 h.1, subst (Appends old new) line wrote)

-- the same, of an image whose bytes are known
pub written_of_known : (given : Option (List ℕ)) (bytes : Held) (compared : Compared) (text : List ℕ) (old new : Option (List ℕ)) (answer : Bool) → IfSome given (λ image. IsComparison bytes image compared) → text ≡ compared_line compared
    → Appends old new text → answer ≡ is_agreement compared → IfSome given (λ image. WritesCompared bytes image old new answer)
written_of_known None bytes compared text old new answer h line wrote is = tt
written_of_known (Some image) bytes compared text old new answer h line wrote is = written_compared bytes image compared text old new answer h line wrote is
