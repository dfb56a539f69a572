use Rattle.nbd_capture.proofs.{Common.{◌≡◌, ◌∷◌, ◌++◌, ◌∙◌, ◌<◌, ◌^◌, [], sym, ap, subst, codes, arith, space, IsContentsLine, nothing, part, size-line}, ContentsLineLemmas.{no_size, same_bytes-eq, same_bytes-ne, size_digits}}
use Rattle.nbd_capture.proofs.contents_line.size_on.Goals as goal

pub returns-in_err-word : goal.returns-in_err-word
returns-in_err-word c = rw c.from_residual.ensures (λ n f. no_size c.args.line.now n c.in_err-word.ensures f)

pub returns-then-ne : goal.returns-then-ne
returns-then-ne c = λ n f.
    let d = size_digits c.args.line.now c.in_ok-word.word.now c.in_ok-word.digits.now n c.in_ok-word.ensures.0 c.in_ok-word.ensures.1 f in
    same_bytes-ne c.in_ok-word.word.now c.as_slice.result.now (c.if-ne.ensures) (d.0 ∙ sym c.as_slice.ensures)

pub returns-in_default : goal.returns-in_default
returns-in_default c = λ n f.
    let d = size_digits c.args.line.now c.in_ok-word.word.now c.in_ok-word.digits.now n c.in_ok-word.ensures.0 c.in_ok-word.ensures.1 f in
    let own = c.in-Some.ensures.3 in
    omega (arith, c.if-size-le-MOST.false, own, d.1.3, d.2)

pub returns-in_default-2 : goal.returns-in_default-2
returns-in_default-2 c = λ n f.
    let d = size_digits c.args.line.now c.in_ok-word.word.now c.in_ok-word.digits.now n c.in_ok-word.ensures.0 c.in_ok-word.ensures.1 f in
    c.in_default.ensures n d.1

pub returns-in-Some : goal.returns-in-Some
returns-in-Some c =
    let word : c.in_ok-word.word.now ≡ codes "size" = same_bytes-eq c.in_ok-word.word.now c.as_slice.result.now c.if-ne.ensures ∙ c.as_slice.ensures in
    let whole : codes "size" ++ space ∷ c.in_ok-word.digits.now ≡ c.args.line.now = ap (λ w. w ++ space ∷ c.in_ok-word.digits.now) (sym word) ∙ sym c.in_ok-word.ensures.1 in
    let fits : c.in-Some.size < 2 ^ 63 = omega (arith, c.if-size-le-MOST.true) in
    subst (λ l. IsContentsLine nothing l (part c.in-Some.size [])) whole (size-line c.in_ok-word.digits.now c.in-Some.size c.in-Some.ensures fits)
