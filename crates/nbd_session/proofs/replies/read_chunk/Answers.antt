use Rattle.nbd_session.proofs.{Common.{◌≡◌, length, rules, sym, ◌∙◌, ap, subst, true, same_Some, begins, chunk_fields, chunk_head_length, chunk_magic}, parsing.LeadingLemmas.{leading_chunk-is, leading_extended_chunk-is}}
use Rattle.nbd_session.proofs.replies.read_chunk.Goals as goal

pub unwrap-requires : goal.unwrap-requires
unwrap-requires c =
    let head = c.args.head.now in
    let k = subst (λ x. (begins (chunk_magic x) head ≡ true) × (length head ≡ chunk_head_length x)) c.if-extended.true c.requires in
    rw (leading_extended_chunk-is head c.type_inv.head c.extended_chunk_head.result k.1 k.0 c.extended_chunk_head.ensures) (search rules)

pub unwrap-requires-else-extended : goal.unwrap-requires-else-extended
unwrap-requires-else-extended c =
    let head = c.args.head.now in
    let k = subst (λ x. (begins (chunk_magic x) head ≡ true) × (length head ≡ chunk_head_length x)) c.if-extended.false c.requires in
    rw (leading_chunk-is head c.type_inv.head c.chunk_head.result k.1 k.0 c.chunk_head.ensures) (search rules)

pub returns-then-extended : goal.returns-then-extended
returns-then-extended c =
    let head = c.args.head.now in
    let k = subst (λ x. (begins (chunk_magic x) head ≡ true) × (length head ≡ chunk_head_length x)) c.if-extended.true c.requires in
    same_Some _ _ (sym c.unwrap.ensures ∙ leading_extended_chunk-is head c.type_inv.head c.extended_chunk_head.result k.1 k.0 c.extended_chunk_head.ensures)
    ∙ ap (λ x. chunk_fields x head) (sym c.if-extended.true)

pub returns-else-extended : goal.returns-else-extended
returns-else-extended c =
    let head = c.args.head.now in
    let k = subst (λ x. (begins (chunk_magic x) head ≡ true) × (length head ≡ chunk_head_length x)) c.if-extended.false c.requires in
    same_Some _ _ (sym c.unwrap-else-extended.ensures ∙ leading_chunk-is head c.type_inv.head c.chunk_head.result k.1 k.0 c.chunk_head.ensures)
    ∙ ap (λ x. chunk_fields x head) (sym c.if-extended.false)
