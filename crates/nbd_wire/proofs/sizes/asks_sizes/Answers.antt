use Rattle.nbd_wire.proofs.{Common.{◌≡◌, ◌+◌, ◌*◌, ◌&&◌, true, false, length, drop, refl, sym, ◌∙◌, ap, arith, length-drop, behind_name, is_go, is_listed, number_at, has_number}, ListedFormLemmas.go-only, ListedReadLemmas.cut_behind, NumberLemmas.AreBytes-from_places, QueryLemmas.is_listed_one, SizeLemmas.behind_go}
use Rattle.nbd_wire.specs.declared.infos.TheConstants as infos
use Rattle.nbd_wire.proofs.sizes.asks_sizes.Goals as goal

pub returns-in_default-listed_of : goal.returns-in_default-listed_of
returns-in_default-listed_of c =
    let bytes = c.args.payload.now in
    let name = c.in-Some.field-0-0.now in
    let g = go-only name bytes c.in-Some.count ((c.in-Some.ensures.form (name, c.in-Some.count)).0 refl) in
    let listed : is_listed bytes ≡ true = is_listed_one name g.0 bytes (AreBytes-from_places bytes (λ i. omega (arith, c.type_inv.payload i))) g.1 in
    absurd (let z : false ≡ true = c.in_default-listed_of.ensures.same ∙ listed in (cc))

pub slice_bounds-has_number-count : goal.slice_bounds-has_number-count
slice_bounds-has_number-count c =
    let bytes = c.args.payload.now in
    let name = c.in-Some.field-0-0.now in
    let first = c.in-Some-listed_of.field-0-0.now in
    let rest = c.in-Some-listed_of.rest.now in
    let f = behind_go name first rest bytes c.in-Some.count ((c.in-Some.ensures.form (name, c.in-Some.count)).0 refl) ((c.in-Some-listed_of.ensures.form (first, rest)).0 refl) in
    let long : length rest ≡ 2 + 2 * c.in-Some.count = f.1 in
    omega (arith, long)

pub slice_bounds-has_number-start : goal.slice_bounds-has_number-start
slice_bounds-has_number-start c =
    let bytes = c.args.payload.now in
    let name = c.in-Some.field-0-0.now in
    let first = c.in-Some-listed_of.field-0-0.now in
    let rest = c.in-Some-listed_of.rest.now in
    let f = behind_go name first rest bytes c.in-Some.count ((c.in-Some.ensures.form (name, c.in-Some.count)).0 refl) ((c.in-Some-listed_of.ensures.form (first, rest)).0 refl) in
    let long : length rest ≡ 2 + 2 * c.in-Some.count = f.1 in
    omega (arith, long)

pub has_number-requires : goal.has_number-requires
has_number-requires c =
    let bytes = c.args.payload.now in
    let name = c.in-Some.field-0-0.now in
    let first = c.in-Some-listed_of.field-0-0.now in
    let rest = c.in-Some-listed_of.rest.now in
    let f = behind_go name first rest bytes c.in-Some.count ((c.in-Some.ensures.form (name, c.in-Some.count)).0 refl) ((c.in-Some-listed_of.ensures.form (first, rest)).0 refl) in
    let long : length rest ≡ 2 + 2 * c.in-Some.count = f.1 in
    ap length (cut_behind 2 rest) ∙ length-drop 2 rest ∙ omega (arith, long)

pub returns : goal.returns
returns c =
    let bytes = c.args.payload.now in
    let name = c.in-Some.field-0-0.now in
    let first = c.in-Some-listed_of.field-0-0.now in
    let rest = c.in-Some-listed_of.rest.now in
    let count = c.in-Some.count in
    let f = behind_go name first rest bytes count ((c.in-Some.ensures.form (name, count)).0 refl) ((c.in-Some-listed_of.ensures.form (first, rest)).0 refl) in
    let is : is_go bytes ≡ true = sym c.in-Some.ensures.same in
    c.has_number.ensures ∙ ap (has_number infos.BLOCK_SIZE count) (cut_behind 2 rest) ∙ ap (λ n. has_number infos.BLOCK_SIZE n (drop 2 rest)) f.2
    ∙ ap (λ r. has_number infos.BLOCK_SIZE (number_at 0 2 r) (drop 2 r)) f.0
    ∙ sym (ap (λ b. b && has_number infos.BLOCK_SIZE (number_at 0 2 (behind_name bytes)) (drop 2 (behind_name bytes))) is)
