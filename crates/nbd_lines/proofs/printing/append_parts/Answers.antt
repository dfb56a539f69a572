use Rattle.nbd_lines.proofs.{Common.{◌≡◌, ◌++◌, end_text, numbers_text, payload_of, fields, has_payload, line_form, words}, PrintedLemmas.line_printed}
use Rattle.nbd_lines.proofs.printing.append_parts.Goals as goal

pub returns-clause-ok : goal.returns-clause-ok
returns-clause-ok c =
    let m = c.args.message.now in
    let first : c.extend_from_slice.new.self.items ≡ c.args.out.now.items ++ words (line_form m) = rw (c.words.ensures, c.form_of-form.ensures) at c.in_ok-extend_from_slice.ensures.items in
    let second : c.append_numbers.new.out.items ≡ c.extend_from_slice.new.self.items ++ numbers_text (fields (line_form m)) c.numbers_of.result = rw (c.fields.ensures, c.form_of-form.ensures) at c.in_ok-append_numbers.ensures.ok in
    let third : c.append_end.new.out.items ≡ c.append_numbers.new.out.items ++ end_text (has_payload (line_form m)) (payload_of m) = rw (c.has_payload.ensures, c.payload_of.ensures, c.form_of-form.ensures) at c.in_ok-append_end.ensures.ok in
    line_printed m c.numbers_of.result c.args.out.now.items c.extend_from_slice.new.self.items c.append_numbers.new.out.items c.append_end.new.out.items c.numbers_of.ensures first second third
