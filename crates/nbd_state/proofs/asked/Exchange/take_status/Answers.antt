use Rattle.nbd_state.proofs.{Common.{◌≡◌, ◌++◌, ◌&&◌, ◌==◌, ◌∙◌, [], ap, append-nil, arith, false, if◌then◌else◌, is_allocation, is_proper, is_settled_by, length, refl, subst, sym, true, Exchange, HasTaken, noted, Status, extents_of, zeroes_in}, NotingLemmas.{noted_status, open_still}, RecordingLemmas.{exchange_shows_reply, pieces_more, told_more, weaken_all}, ReplyLemmas.or-false, ZeroLemmas.if_proper, asked.Exchange.take_status.Goals.{then-zeroes, else-zeroes}}
use Rattle.nbd_wire.specs.declared.commands.TheConstants as commands
use Rattle.nbd_state.proofs.asked.Exchange.take_status.Goals as goal

pub returns-clause-taken : goal.returns-clause-taken
returns-clause-taken c = weaken_all c.tell.result (λ _ items counts told export e m s u fits n f p is z.
    let x = c.args.self.now in
    let asked = x.asked in
    let kept = c.note.ensures.kept in
    let found = c.in_ok-zeroes.zeroes.items in
    let tells = c.if-zeroes.tells in
    let status : Status = record { id = c.args.id; extents = extents_of c.args.extended c.args.descriptors.now } in
    let first : tells ≡ (is_allocation e.contexts status.id && (length e.replies == 0)) = elim c.if-zeroes.branch [
      | then-zeroes w ↦ (let replied = s.replied in grind (arith, z))
      | else-zeroes w ↦ (let replied = s.replied in grind (arith, z))
    ] in
    let more : found ≡ (if tells && ((e.command == commands.BLOCK_STATUS) && is_proper export e) then zeroes_in e.offset e.length status.extents else []) =
    if_proper export e asked.command asked.offset asked.length asked.proper tells found status fits s.command s.offset s.length s.proper c.in_ok-zeroes.ensures in
    let none : e.command ≡ commands.READ → found ≡ [] = λ q. grind (arith, more, q) in
    let pushed : c.tell.new.self.items ≡ asked.pieces.items ++ found = items ∙ ap (λ (y : Exchange). y.asked.pieces.items ++ found) kept in
    let counts_are : c.tell.new.self.counts ≡ asked.pieces.counts = counts ∙ ap (λ (y : Exchange). y.asked.pieces.counts) kept in
    subst (λ (y : Exchange). HasTaken export e m c.args.counts.now x (record y { asked = record y.asked { pieces = c.tell.new.self } })) (sym kept) (
      exchange_shows_reply export e m x _ c.args.ends false c.args.counts.known s u n f
          (record { flags = refl; command = refl; cookie = refl; offset = refl; length = refl; payload = refl; proper = refl; outside = refl })
          c.note.ensures.known (sym (or-false asked.failed)) c.note.ensures.outcome
          (pieces_more export e m asked.pieces.items found _ status tells s.pieces_are is p first more pushed)
          (told_more export e m x c.args.ends s u n c.tell.new.self.told status is (λ g id. told g id ∙ ap (λ (y : Exchange). if status.id == id then true else is_settled_by y.asked.pieces.told id) kept))
          (λ g. (
            c.note.ensures.ended ∙ open_still asked.ended_at c.args.ends c.args.counts.now (s.is_open u).0 g,
            λ q. ap length counts_are ∙ (s.is_open u).1 q ∙ sym (ap length (pushed ∙ ap (λ l. asked.pieces.items ++ l) (none q) ∙ append-nil asked.pieces.items)),
          )),
      record {
        ended = c.note.ensures.ended ∙ ap (λ b. noted asked.ended_at b c.args.counts.now) (sym n);
        shown = noted_status e m x c.args.counts.now c.tell.new.self.items c.tell.new.self.counts found pushed counts_are (λ q. none (sym s.command ∙ q)) p;
      },
    ))
    c.tell.ensures.items c.tell.ensures.counts c.tell.ensures.told
