-- Each run of `check` has one line to write.
use Rattle.nbd_tool.proofs.Common.{◌≡◌, List, subst, Entry, Chunk, IsCaptureLine, IsOrderLine, one_saying, one_entry, one_reading, IsChecked, one_answer, flat_of, OneLine}

pub one_line : OneLine
one_line profile text order_text initial v w a b =
    let chunks : a.0 ≡ b.0 = one_reading IsCaptureLine one_saying text a.0 b.0 a.2 b.2 in
    let entries : a.1 ≡ b.1 = one_reading IsOrderLine one_entry order_text a.1 b.1 a.3 b.3 in
    one_answer profile (flat_of b.0) b.1 initial v w
    (subst (λ (o : List Entry). IsChecked profile (flat_of b.0) o initial v) entries (subst (λ (c : List Chunk). IsChecked profile (flat_of c) a.1 initial v) chunks a.4)) b.4
