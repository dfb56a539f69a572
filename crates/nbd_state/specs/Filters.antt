-- What a request asks where the session stands, as the program has it.
use Rattle.std.specs.{Prelude.{◌≡◌, ℕ, List, Bool, true, not, ◌==◌, Option, None, if◌then◌else◌, length}, BTreeSet.contains, Ordering.nat_cmp}
use Rattle.nbd_wire.specs.{declared.heads.transmission.RequestHead.RequestHead, Prelude.{is_left_out, Context, Filter, has_id, length_by, filter_in, takes_filter}}
use Rattle.nbd_state.specs.declared.asking.{Asking.Asking, Telling.Telling}

-- the filter of a request with this head and payload, by whether a context is in force
abbrev pub filter_of_head : (has_contexts : Bool) → RequestHead → List ℕ → Option Filter
filter_of_head has_contexts head payload =
    if head.extended then filter_in has_contexts head.flags head.command payload else None

-- the context in force with this id has its status, or is not asked
abbrev pub is_settled_by : Telling → (id : ℕ) → Bool
is_settled_by telling id =
    if telling.filtered then not (contains nat_cmp telling.ids id) else contains nat_cmp telling.ids id

-- this is what a request with this filter, if any, and of this length in its head asks of an export with these flags,
-- where these contexts are in force
pub record Asks (flags : ℕ) (contexts : List Context) (filter : Option Filter) (len : ℕ)
    (asking : Asking) : Type 0 where
  pub has_contexts_is : asking.has_contexts ≡ not (length contexts == 0)
  pub length_is : asking.length ≡ length_by filter len
  pub takes_filter_is : asking.takes_filter ≡ takes_filter flags contexts filter
  pub told_are : (id : ℕ) → has_id contexts id ≡ true → is_settled_by asking.told id ≡ is_left_out filter id
