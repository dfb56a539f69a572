use Rattle.nbd_lines.proofs.{Common.{◌≡◌, ◌^◌, ◌<◌, ◌∷◌, ◌++◌, arith, ap, ◌∙◌, sym, List, ℕ, decimal_injective, space, equals, field_name}, NumberLemmas.{number_read, number_word}}
use Rattle.nbd_lines.proofs.fields.number_at.Goals as goal

-- the parts that were split off, joined again
joined : (text named valued value word rest name : List ℕ) → text ≡ space ∷ named → named ≡ name ++ valued → valued ≡ equals ∷ value → value ≡ word ++ rest
    → text ≡ space ∷ (name ++ equals ∷ (word ++ rest))
joined text named valued value word rest name a b c d = a ∙ ap (λ l. space ∷ l) (b ∙ ap (λ l. name ++ l) (c ∙ ap (λ l. equals ∷ l) d))

pub returns-in_err-number : goal.returns-in_err-number
returns-in_err-number c =
    let name = field_name c.args.field.name in
    let whole = joined c.args.text.now c.in_ok-named.named.now c.in_ok-valued.valued.now c.in_ok-after_prefix.field-0.now c.first_word.result.0.now c.first_word.result.1.now name
    c.in_ok-named.ensures (rw c.text.ensures at c.in_ok-valued.ensures) c.in_ok-after_prefix.ensures c.first_word.ensures.whole in
    let most : c.args.field.most < 2 ^ 64 = omega arith in
    rw c.from_residual-in_err-number.ensures (λ n rest b.
    let word = number_word c.args.field n c.args.text.now rest c.first_word.result.0.now c.first_word.result.1.now most b whole c.first_word.ensures.spaceless c.first_word.ensures.ends in
    c.in_err-number.ensures n (let h = b.within in omega arith) word.0)

pub returns-then-number-field : goal.returns-then-number-field
returns-then-number-field c =
    let name = field_name c.args.field.name in
    let whole = joined c.args.text.now c.in_ok-named.named.now c.in_ok-valued.valued.now c.in_ok-after_prefix.field-0.now c.first_word.result.0.now c.first_word.result.1.now name
    c.in_ok-named.ensures (rw c.text.ensures at c.in_ok-valued.ensures) c.in_ok-after_prefix.ensures c.first_word.ensures.whole in
    let most : c.args.field.most < 2 ^ 64 = omega arith in
    let small : c.in_ok-number.number < 2 ^ 64 = omega arith in
    λ n rest b.
    let word = number_word c.args.field n c.args.text.now rest c.first_word.result.0.now c.first_word.result.1.now most b whole c.first_word.ensures.spaceless c.first_word.ensures.ends in
    let within = b.within in
    let fits : n < 2 ^ 64 = omega arith in
    let same : c.in_ok-number.number ≡ n = decimal_injective c.in_ok-number.number n small fits (sym c.in_ok-number.ensures ∙ word.0) in
    omega arith

pub returns : goal.returns
returns c =
    let name = field_name c.args.field.name in
    let whole = joined c.args.text.now c.in_ok-named.named.now c.in_ok-valued.valued.now c.in_ok-after_prefix.field-0.now c.first_word.result.0.now c.first_word.result.1.now name
    c.in_ok-named.ensures (rw c.text.ensures at c.in_ok-valued.ensures) c.in_ok-after_prefix.ensures c.first_word.ensures.whole in
    let most : c.args.field.most < 2 ^ 64 = omega arith in
    number_read c.args.field c.in_ok-number.number c.args.text.now c.first_word.result.0.now c.first_word.result.1.now most c.if-number-field.false whole c.in_ok-number.ensures c.first_word.ensures.ends
