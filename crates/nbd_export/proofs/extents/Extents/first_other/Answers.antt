use Rattle.nbd_export.proofs.{Common.{◌+◌, Some, length, get_or, sym, ◌∙◌, ap, arith, Unknown, Zeroes, Bytes, byte_of, stored_byte, bytes_from}, ExtentLemmas.byte_of-kind, LeastLemmas.{bytes_from-here, least_along, least_unequal, none_below, none_unequal, none_unknown}}
use Rattle.nbd_export.proofs.extents.Extents.first_other.Goals as goal

pub returns-in-Unknown : goal.returns-in-Unknown
returns-in-Unknown c =
    let self = c.args.self.now in
    none_unknown (byte_of self) (bytes_from c.args.offset c.args.bytes.now) c.args.offset (length c.args.bytes.now)
    (λ x lo hi. byte_of-kind self x Unknown (c.requires.one x lo hi ∙ c.kind_at.ensures ∙ ap Some c.in-Unknown.is))

pub returns-in_err-first_nonzero-in-Zeroes : goal.returns-in_err-first_nonzero-in-Zeroes
returns-in_err-first_nonzero-in-Zeroes c =
    let self = c.args.self.now in
    let offset = c.args.offset in
    let bytes = c.args.bytes.now in
    rw c.from_residual.ensures (λ x d. none_unequal (byte_of self) (bytes_from offset bytes) offset (length bytes) offset (length bytes) (λ j. 0) (λ j. get_or bytes j 0)
    (omega arith) (omega arith)
    (λ j l. byte_of-kind self (offset + j) Zeroes (c.requires.one (offset + j) (omega arith) (omega arith) ∙ c.kind_at.ensures ∙ ap Some c.in-Zeroes.is))
    (λ j l. bytes_from-here offset j bytes l) (none_below (byte_of self) (bytes_from offset bytes) offset (length bytes))
    (λ j d. c.in_err-first_nonzero-in-Zeroes.ensures j (d.0, λ e. d.1 (sym e))) x d.1 d)

pub returns-in_ok-first_nonzero-in-Zeroes : goal.returns-in_ok-first_nonzero-in-Zeroes
returns-in_ok-first_nonzero-in-Zeroes c =
    let self = c.args.self.now in
    let offset = c.args.offset in
    let bytes = c.args.bytes.now in
    let found = c.in_ok-first_nonzero-in-Zeroes.ensures in
    least_unequal (byte_of self) (bytes_from offset bytes) offset (length bytes) offset (length bytes) (λ j. 0) (λ j. get_or bytes j 0)
    (omega arith) (omega arith)
    (λ j l. byte_of-kind self (offset + j) Zeroes (c.requires.one (offset + j) (omega arith) (omega arith) ∙ c.kind_at.ensures ∙ ap Some c.in-Zeroes.is))
    (λ j l. bytes_from-here offset j bytes l) (none_below (byte_of self) (bytes_from offset bytes) offset (length bytes))
    c.in_ok-first_nonzero-in-Zeroes.field-0
    ((found.0.0, λ e. found.0.1 (sym e)), λ k m d. found.1 k m (d.0, λ e. d.1 (sym e)))

pub returns-in-Bytes : goal.returns-in-Bytes
returns-in-Bytes c =
    let self = c.args.self.now in
    least_along (byte_of self) (λ x. Some (stored_byte self.pages x)) (bytes_from c.args.offset c.args.bytes.now) c.args.offset (length c.args.bytes.now) c.first_other.result
    (λ x lo hi. byte_of-kind self x Bytes (c.requires.one x lo hi ∙ c.kind_at.ensures ∙ ap Some c.in-Bytes.is)) c.first_other.ensures
