-- Metadata contexts (proto.md, "Metadata querying").
use Rattle.std.specs.{Prelude.{ℕ, List, [], ◌∷◌, ◌==◌, ◌&&◌, not, Bool, true, false, Option, Some, None, sum_by}, List.list_any}

-- a metadata context: the id that the server gave it, and its name
pub record Context : Type 0 where
  pub id : ℕ
  pub name : List ℕ

-- what the last SET_META_CONTEXT asked and was answered: the name of its export, the contexts that came, and whether an
-- ACK ended its answer (proto.md, "Option types")
pub record Selection : Type 0 where
  pub export_name : List ℕ
  pub contexts : List Context
  pub granted : Bool

-- no SET_META_CONTEXT came
abbrev pub no_selection : Selection
no_selection = record { export_name = []; contexts = []; granted = false }

-- one of the contexts has this id
abbrev pub has_id : List Context → ℕ → Bool
has_id contexts id = list_any (λ (c : Context). c.id == id) contexts

-- one descriptor of a status chunk: how many bytes it speaks of, above 0, and their flags (proto.md, "Structured reply
-- types")
pub record Extent : Type 0 where
  pub length : ℕ
  pub flags : ℕ

-- what a status chunk says: the id of its context, and the extents from the request's offset on, one after the other
pub record Status : Type 0 where
  pub id : ℕ
  pub extents : List Extent

-- what the payload of a BLOCK_STATUS asks: how long its range is, in bytes, and the contexts with these ids (this
-- project's choice, read from libnbd and qemu)
pub record Filter : Type 0 where
  pub length : ℕ
  pub ids : List ℕ

-- the length of a request's range: that in its filter, or else that in its head, whatever its payload (this project's
-- choice: qemu takes 0 for other requests with PAYLOAD_LEN)
abbrev pub length_by : Option Filter → (len : ℕ) → ℕ
length_by (Some filter) len = filter.length
length_by None len = len

-- one of the ids is this
abbrev pub is_among : List ℕ → ℕ → Bool
is_among ids id = list_any (λ (i : ℕ). i == id) ids

-- each of the ids is in force, and none comes twice among them
abbrev pub are_once : (is_in_force : ℕ → Bool) → List ℕ → Bool
are_once is_in_force [] = true
are_once is_in_force (id ∷ ids) = is_in_force id && not (is_among ids id) && are_once is_in_force ids

-- the filter does not ask the context with this id; without a filter each one is asked
abbrev pub is_left_out : Option Filter → (id : ℕ) → Bool
is_left_out (Some filter) id = not (is_among filter.ids id)
is_left_out None id = false

-- how far the extents reach, in bytes from the request's offset on
abbrev pub reach : List Extent → ℕ
reach extents = sum_by (λ (x : Extent). x.length) extents
