use Rattle.nbd_export.proofs.{Common.{Some, ◌∙◌, ap, ⊎_elim, Unknown, Zeroes, Bytes, byte_of, stored_byte, zeroes}, ExtentLemmas.byte_of-kind, LeastLemmas.{least_along, none_same, none_unknown}}
use Rattle.nbd_export.proofs.extents.Extents.first_nonzero.Goals as goal

pub returns-in-Unknown : goal.returns-in-Unknown
returns-in-Unknown c =
    let self = c.args.self.now in
    ⊎_elim
    (λ is. none_unknown (byte_of self) zeroes c.args.offset c.args.len
    (λ x lo hi. byte_of-kind self x Unknown (c.requires.one x lo hi ∙ c.kind_at.ensures ∙ ap Some is)))
    (λ is. none_same (byte_of self) zeroes c.args.offset c.args.len
    (λ x lo hi. byte_of-kind self x Zeroes (c.requires.one x lo hi ∙ c.kind_at.ensures ∙ ap Some is)))
    c.in-Unknown.is

pub returns-in-Bytes : goal.returns-in-Bytes
returns-in-Bytes c =
    let self = c.args.self.now in
    least_along (byte_of self) (λ x. Some (stored_byte self.pages x)) zeroes c.args.offset c.args.len c.first_nonzero.result
    (λ x lo hi. byte_of-kind self x Bytes (c.requires.one x lo hi ∙ c.kind_at.ensures ∙ ap Some c.in-Bytes.is)) c.first_nonzero.ensures
