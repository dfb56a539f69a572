use Rattle.nbd_export.proofs.{Common.{Some, sym, ◌∙◌, ap, Unknown, Zeroes, Bytes}, ExtentLemmas.byte_of-kind}
use Rattle.nbd_export.proofs.extents.ExtentsContents.byte_at.Goals as goal

pub returns-in-Unknown : goal.returns-in-Unknown
returns-in-Unknown c = sym (byte_of-kind c.args.self.now c.args.offset Unknown (c.kind_at.ensures ∙ ap Some c.in-Unknown.is))

pub returns-in-Zeroes : goal.returns-in-Zeroes
returns-in-Zeroes c = sym (byte_of-kind c.args.self.now c.args.offset Zeroes (c.kind_at.ensures ∙ ap Some c.in-Zeroes.is))

pub returns-in-Bytes : goal.returns-in-Bytes
returns-in-Bytes c = ap Some c.byte_at.ensures ∙ sym (byte_of-kind c.args.self.now c.args.offset Bytes (c.kind_at.ensures ∙ ap Some c.in-Bytes.is))
