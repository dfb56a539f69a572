-- A chunk is read as one of its type, or both types are of errors.
use Rattle.nbd_laws.proofs.Common.{and_parts, Failure, Some, eqb-true, failure_of, ◌≡◌, ℕ, ◌≤◌, ◌⊎◌, ◌==◌, List, refl, None, Bool, true, false, nat_le, arith, leb-true, ne_eqb, Profile, Context, is_error_chunk, content_of, read_as, status_if, status_kind}
use Rattle.nbd_wire.specs.declared.chunks.TheConstants as chunks

pub read_kind : (profile : Profile) (kind : ℕ) → (read_as profile kind ≡ kind) ⊎ (is_error_chunk kind ≡ true) × (read_as profile kind ≡ chunks.ERROR)
read_kind profile kind = grind arith

-- an error's type is none of the others
pub no_other : (kind other : ℕ) → is_error_chunk kind ≡ true → other ≤ 6 → (kind == other) ≡ false
no_other kind other e l = ne_eqb kind other (λ q. (let h : 0x8000 ≤ kind = leb-true chunks.FIRST_ERROR kind e in omega (arith, h, l, q)))

pub error_content : (kind : ℕ) (bytes : List ℕ) → is_error_chunk kind ≡ true → content_of kind bytes ≡ None
unfolding content_of
error_content kind bytes e = grind (arith, nat_le, no_other)

-- what one read so has of content and of status
pub kind_content : (profile : Profile) (kind : ℕ) (bytes : List ℕ) → content_of (read_as profile kind) bytes ≡ content_of kind bytes
kind_content profile kind bytes = grind (arith, read_kind, error_content)

pub kind_status : (profile : Profile) (extended : Bool) (contexts : List Context) (kind : ℕ) (bytes : List ℕ) → status_if extended contexts (read_as profile kind) bytes ≡ status_if extended contexts kind bytes
kind_status profile extended contexts kind bytes = grind (arith, read_kind, no_other)

pub status_read : (profile : Profile) (extended : Bool) → read_as profile (status_kind extended) ≡ status_kind extended
status_read profile extended = grind arith

pub kind_error : (profile : Profile) (kind : ℕ) → is_error_chunk (read_as profile kind) ≡ is_error_chunk kind
kind_error profile kind = grind (arith, read_kind)

pub failure_kind : (kind : ℕ) (bytes : List ℕ) (f : Failure) → failure_of kind bytes ≡ Some f → (kind ≡ chunks.ERROR) ⊎ (kind ≡ chunks.ERROR_OFFSET)
unfolding failure_of
failure_kind kind bytes f e = grind (arith, nat_le, eqb-true, and_parts)

-- an error chunk has no content
pub no_content : (kind : ℕ) (bytes : List ℕ) (f : Failure) → failure_of kind bytes ≡ Some f → content_of kind bytes ≡ None
unfolding content_of
no_content kind bytes f e = grind (arith, failure_kind)

pub status_content : (extended : Bool) (kind : ℕ) (bytes : List ℕ) → kind ≡ status_kind extended → content_of kind bytes ≡ None
unfolding content_of
status_content extended kind bytes q = grind arith

pub none_content : (bytes : List ℕ) → content_of chunks.NONE bytes ≡ None
unfolding content_of
none_content bytes = refl
