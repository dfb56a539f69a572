use Rattle.nbd_lines.proofs.{Common.{ap, printed}, PrintedContentsLemmas.{printed_apart, small_size}}
use Rattle.nbd_lines.proofs.laws.texts_of_one_contents_print_alike.Goals as goal

pub returns : goal.returns
returns c = λ s t a b ha hb ra rb. (printed_apart a b (small_size s a ra) (small_size t b rb) ha hb, ap printed)
