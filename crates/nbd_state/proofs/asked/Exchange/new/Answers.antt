use Rattle.nbd_state.proofs.Common.{◌∙◌, [], refl, rules, sym, carried, operation_of_head}
use Rattle.nbd_state.proofs.asked.Exchange.new.Goals as goal

pub returns-clause-shown : goal.returns-clause-shown
returns-clause-shown c = λ contexts filter a.
    let payload = carried c.args.head.now c.args.payload.now in
    record {
      flags = refl;
      command = refl;
      cookie = refl;
      offset = refl;
      length = a.length_is;
      payload = search rules;
      proper = c.is_none-proper.ensures ∙ c.flaws_of.ensures.proper payload contexts filter c.args.sizes [] a;
      outside = c.is_outside.ensures (operation_of_head c.args.head.now payload contexts filter c.args.sizes []) refl refl (sym a.length_is) refl a.has_contexts_is;
      replied = refl;
      outcome_is = search rules;
      failed = search rules;
      pieces_are = search rules;
      is_open = λ u. (refl, λ q. search rules);
      told_are = λ u id h. c.in_ok-none.ensures.told id ∙ a.told_are id h;
    }
