use Rattle.nbd_lines.proofs.{Common.{◌≡◌, ℕ, List, MatchOption, None, Option, Some, length, subst, sym, take, FitsItsHead, Message, IsEnd, IsMessageLine, ReadsNumbers, fields, has_payload}, MessageLineLemmas.{from_parts, misfit}}
use Rattle.nbd_lines.proofs.reading.parse_message.Goals as goal

-- the message of a line, if it fits
fitted : (line : List ℕ) (message : Message) → IsMessageLine line message → (read : Option Message)
    → MatchOption read (FitsItsHead message → ⊥) (λ m. (m ≡ message) × FitsItsHead m)
    → MatchOption read ((m : Message) → IsMessageLine line m → FitsItsHead m → ⊥) (λ m. IsMessageLine line m × FitsItsHead m)
fitted line message is None unfit = misfit line message is unfit
fitted line message is (Some m) found = (subst (IsMessageLine line) (sym found.0) is, found.1)

pub returns : goal.returns
returns c =
    let reads : ReadsNumbers (fields c.in-Some.form) (take (length (fields c.in-Some.form)) c.numbers_at.new.numbers) c.in-Some.rest.now c.in-Some-numbers_at.end.now = rw c.fields.ensures at c.in-Some-numbers_at.ensures in
    let ends : IsEnd (has_payload c.in-Some.form) c.in-Some-2.payload c.in-Some-numbers_at.end.now = rw c.in-Some-2.is at c.in_ok-payload.ensures in
    let is_line : IsMessageLine c.args.line.now c.message_of.result = from_parts c.args.line.now c.in-Some.rest.now c.in-Some-numbers_at.end.now c.in-Some.form _ c.in-Some-2.payload c.message_of.result
    c.in-Some.ensures reads ends c.message_of.ensures.form c.message_of.ensures.numbers c.message_of.ensures.payload in
    fitted c.args.line.now c.message_of.result is_line c.fitting.result c.fitting.ensures
