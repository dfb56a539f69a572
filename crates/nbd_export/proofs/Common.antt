-- The names that the proofs of this crate cite from elsewhere, passed on from one place. Declares nothing.
unfoldable pub use Rattle.nbd_export.specs.{Extents.byte_of, Kinds.{kind_at, kind_before, ranges_met}, Pages.stored_byte}
pub use Rattle.nbd_export.specs.{Kinds.{IsApartAt, first_of_two, kind_from}, Pages.{byte_from, page_from}, RangeKinds.{IsOfKind, byte_by_kind, kind_of}, Ranges.{AreSameBelow, DiffersIn, IsLeast, bytes_from, overlay, unknown, zeroes}, Starts.{FitsSize, start_byte}, contracts.kind.Kind.the_type}
pub use Rattle.nbd_export.specs.{declared.{extents.Extents.Extents, kind.Kind.{Kind, TheVariants.{Bytes, Unknown, Zeroes}}, kinds.Kinds.Kinds, pages.{Pages.Pages, TheConstants.PAGE}}, internal.{IsJoin, IsOverlay, HasZeroesAlone, DifferAt, IsNonzeroAt}}
pub use Rattle.std.proofs.Common.{Bool, Err, IsSome, List, None, Ok, OnErr, OnOk, Option, Result, Some, ap, arith, drop, eqb-true, false, get_or, if◌then◌else◌, inl, inr, is_gt, is_lt, is_some, length, nat_cmp, nat_le, nat_lt, refl, rules, slice_get, slice_index, subst, suc, sym, take, true, zero, ℕ, ⊎_elim, ◌%◌, ◌*◌, ◌+◌, ◌-◌, ◌/◌, ◌<◌, ◌==◌, ◌||◌, ◌∙◌, ◌≡◌, ◌≤◌, ◌⊎◌}
pub use Rattle.std.proofs.lemmas.{Bool.{and_from, and_left, and_right, cases_eq, cases_lt, eqb-false, le-leb, le-ltb, lt-leb, lt-ltb, Decides.nat_tests}, Grind.common_steps, List.{get_or-drop, get_or-replicate, get_or-take, get_or_past, length-drop, length-take}, Option.slice_get-get_or, Result.err_from_is_err_and}
pub use Rattle.std.specs.{BTreeMap.{btree_map_len, get, is_at}, Box.with_value, Map.lookup, Option.{option_copied_mut, option_map}}
pub use denote.Enum.Bare.{same_false, same_true}
