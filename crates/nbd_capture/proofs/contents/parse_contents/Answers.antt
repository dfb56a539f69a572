use Rattle.nbd_capture.proofs.{Common.{arith, err_from_is_err_and, held, part, subst, sym, [], Seen}, ContentsTextLemmas.{one_reading, only_memory}}
use Rattle.nbd_capture.proofs.contents.parse_contents.Goals as goal

pub returns-in_err-size-clause-only : goal.returns-in_err-size-clause-only
returns-in_err-size-clause-only c = grind (arith, err_from_is_err_and, only_memory)

pub returns-in_err-read_pieces-clause-only : goal.returns-in_err-read_pieces-clause-only
returns-in_err-read_pieces-clause-only c = grind (arith, err_from_is_err_and, only_memory)

pub returns-clause-only : goal.returns-clause-only
returns-clause-only c = λ bytes read. one_reading c.args.text.now (held c.read_pieces.new.contents) bytes (c.in_ok-read_pieces.ensures.read c.args.text.now (subst (λ n. Seen c.args.text.now c.in_ok-size.rest.now c.in_ok-size.lines (part n [])) (sym c.in_ok-contents.ensures.size) c.in_ok-size.ensures.read)) read
