use Rattle.nbd_lines.proofs.{Common.arith, ShowingLemmas.{is_cut, of_unknown, of_zeroes, unknown_piece, zeroes_piece}}
use Rattle.nbd_lines.proofs.contents_writing.piece_at.Goals as goal

pub returns-in-Unknown-clause-piece : goal.returns-in-Unknown-clause-piece
returns-in-Unknown-clause-piece c = grind (arith, unknown_piece, of_unknown)

pub returns-in-Zeroes-clause-piece : goal.returns-in-Zeroes-clause-piece
returns-in-Zeroes-clause-piece c = grind (arith, zeroes_piece, of_zeroes, is_cut)
