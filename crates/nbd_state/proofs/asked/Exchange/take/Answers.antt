use Rattle.nbd_state.proofs.{Common.{◌≡◌, ◌++◌, ◌∙◌, ap, length, refl, subst, sym, noted, option_to_list, is_settled_by, Exchange, HasTaken}, NotingLemmas.{counted_more, more_counts, noted_piece, open_still}, RecordingLemmas.{exchange_shows_reply, pieces_kept, told_kept, weaken_all}}
use Rattle.nbd_state.proofs.asked.Exchange.take.Goals as goal

pub returns-clause-taken : goal.returns-clause-taken
returns-clause-taken c = weaken_all c.add.result (λ _ items counts told export e m s u n f p none.
    let x = c.args.self.now in
    let added = c.add.new.self in
    let kept = c.note.ensures.kept in
    let pushed : added.items ≡ x.asked.pieces.items ++ option_to_list c.args.piece = items ∙ ap (λ (y : Exchange). y.asked.pieces.items ++ option_to_list c.args.piece) kept in
    let counts_are : added.counts ≡ x.asked.pieces.counts ++ more_counts c.args.piece c.args.ends c.args.counts.now = counts ∙ ap (λ (y : Exchange). y.asked.pieces.counts ++ more_counts c.args.piece c.args.ends c.args.counts.now) kept in
    subst (λ (y : Exchange). HasTaken export e m c.args.counts.now x (record y { asked = record y.asked { pieces = added } })) (sym kept) (
      exchange_shows_reply export e m x _ c.args.ends c.args.fails c.args.counts.known s u n f
          (record { flags = refl; command = refl; cookie = refl; offset = refl; length = refl; payload = refl; proper = refl; outside = refl })
          c.note.ensures.known refl c.note.ensures.outcome
          (pieces_kept export e m x.asked.pieces.items _ s.pieces_are (λ q. none) (pushed ∙ ap (λ l. x.asked.pieces.items ++ l) (sym p)))
          (told_kept export e m x c.args.ends s u n added.told none (λ g id. told g id ∙ ap (λ (y : Exchange). is_settled_by y.asked.pieces.told id) kept))
          (λ g. (
            c.note.ensures.ended ∙ open_still x.asked.ended_at c.args.ends c.args.counts.now (s.is_open u).0 g,
            λ q. ap (λ cs. length cs) counts_are ∙ counted_more x.asked.pieces.items x.asked.pieces.counts c.args.piece c.args.ends c.args.counts.now g ((s.is_open u).1 q) ∙ ap (λ ps. length ps) (sym pushed),
          )),
      record {
        ended = c.note.ensures.ended ∙ ap (λ b. noted x.asked.ended_at b c.args.counts.now) (sym n);
        shown = noted_piece export e m x c.args.piece c.args.ends c.args.counts.now added.items added.counts s u n p pushed counts_are;
      },
    ))
    c.add.ensures.items c.add.ensures.counts c.add.ensures.told
