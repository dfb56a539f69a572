use Rattle.nbd_capture.proofs.{Common.{arith, ◌∷◌, ◌++◌, ap, ◌∙◌, codes, known, space, unknown, word_text, zeroes}, ContentsLineLemmas.{known_kind, loud, no_piece, silent, taken_or_refused, unknown_kind, zeroes_kind}}
use Rattle.nbd_capture.proofs.contents_line.take_line.Goals as goal

pub returns-then-is_silent-clause-taken : goal.returns-then-is_silent-clause-taken
returns-then-is_silent-clause-taken c = grind (arith, silent)

pub returns-in-None-clause-taken : goal.returns-in-None-clause-taken
returns-in-None-clause-taken c = grind (arith, no_piece, loud)

pub returns-in-Some-Zero-default-clause-taken : goal.returns-in-Some-Zero-default-clause-taken
returns-in-Some-Zero-default-clause-taken c =
    let h = c.in-Some-Zero-default.ensures in
    let value = c.in-Some-Zero-default.value.now in
    taken_or_refused zeroes (codes "zero") zeroes_kind c.args.contents.now c.lay_zeroes.new.contents c.args.at c.args.line.now h.0 value c.lay_zeroes.result c.lay_zeroes.ensures.size h.1
    (h.2 ∙ ap (λ w. word_text w ++ space ∷ (h.0 ++ space ∷ value)) c.in-Some-Zero-default.field-0-0-is) c.lay_zeroes.ensures.laid

pub returns-in-Some-Unknown-default-clause-taken : goal.returns-in-Some-Unknown-default-clause-taken
returns-in-Some-Unknown-default-clause-taken c =
    let h = c.in-Some-Unknown-default.ensures in
    let value = c.in-Some-Unknown-default.value.now in
    taken_or_refused unknown (codes "unknown") unknown_kind c.args.contents.now c.lay_unknown.new.contents c.args.at c.args.line.now h.0 value c.lay_unknown.result c.lay_unknown.ensures.size h.1
    (h.2 ∙ ap (λ w. word_text w ++ space ∷ (h.0 ++ space ∷ value)) c.in-Some-Unknown-default.field-0-0-is) c.lay_unknown.ensures.laid

pub returns-in-Some-Data-default-clause-taken : goal.returns-in-Some-Data-default-clause-taken
returns-in-Some-Data-default-clause-taken c =
    let h = c.in-Some-Data-default.ensures in
    let value = c.in-Some-Data-default.value.now in
    taken_or_refused known (codes "data") known_kind c.args.contents.now c.lay_bytes.new.contents c.args.at c.args.line.now h.0 value c.lay_bytes.result c.lay_bytes.ensures.size h.1
    (h.2 ∙ ap (λ w. word_text w ++ space ∷ (h.0 ++ space ∷ value)) c.in-Some-Data-default.field-0-0-is) c.lay_bytes.ensures.laid
