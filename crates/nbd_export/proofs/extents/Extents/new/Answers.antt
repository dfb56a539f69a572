use Rattle.nbd_export.proofs.Common.{Err, Ok, Result, Some, ◌∙◌, ap, length, slice_get, subst, sym, ◌≡◌, ℕ, ◌<◌}
use Rattle.std.specs.Result.{IfOk}
use Rattle.std.proofs.lemmas.Option.{slice_get-get_or}
use Rattle.nbd_export.specs.Starts.{FitsSize, start_byte}
use Rattle.nbd_export.proofs.extents.Extents.new.Goals as goal

-- of what is answered where there was memory
of_ok : {A E : Type 0} {P Q : A → Type 0} (r : Result A E) → ((a : A) → P a → Q a) → IfOk r P → IfOk r Q
of_ok (Ok a) f h = f a h
of_ok (Err e) f h = tt

pub returns-in-Unknown-clause-bytes : goal.returns-in-Unknown-clause-bytes
returns-in-Unknown-clause-bytes c = of_ok c.of_kind.result (λ extents h x l. h x l ∙ sym (ap (λ start. start_byte start x) c.in-Unknown.is)) c.of_kind.ensures.bytes

pub returns-in-Zeroes-clause-bytes : goal.returns-in-Zeroes-clause-bytes
returns-in-Zeroes-clause-bytes c = of_ok c.of_kind-in-Zeroes.result (λ extents h x l. h x l ∙ sym (ap (λ start. start_byte start x) c.in-Zeroes.is)) c.of_kind-in-Zeroes.ensures.bytes

pub returns-in-Image-clause-bytes : goal.returns-in-Image-clause-bytes
returns-in-Image-clause-bytes c =
    let items = c.in-Image.image.value.items in
    let fits : length items ≡ c.args.size = subst (FitsSize c.args.size) c.in-Image.is c.requires in
    of_ok c.of_kind-in-Image.result (λ extents h x l. h x l ∙ sym (slice_get-get_or items x 0 (subst (λ n. x < n) (sym fits) l)) ∙ sym (ap (λ start. start_byte start x) c.in-Image.is)) c.of_kind-in-Image.ensures.bytes
