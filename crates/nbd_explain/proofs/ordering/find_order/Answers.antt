use Rattle.nbd_explain.proofs.{Common.{◌≡◌, ◌∙◌, None, subst, sym, All-nil, Entry, size_of, Passes, AreWhole, Image, Order, says_of, whole_wanted, IsReadAs}, OrderingLemmas.{counted_other, nothing_passes}}
use Rattle.nbd_explain.proofs.ordering.find_order.Goals as goal

pub returns-in-Some-clause-says : goal.returns-in-Some-clause-says
returns-in-Some-clause-says c = λ initial items is_read is_run same.
    says_of c.found_is_so.ensures c.args.profile c.args.transcript.now initial (Image c.in-Longer.image c.in-Some.size)
    (counted_other c.args.transcript.now.export initial c.in-Longer.image c.in-Some.size c.in-Some.field-0-1 c.in-Some.ensures.export
    (subst (IsReadAs (size_of c.args.transcript.now.export) initial) c.in-Longer.is is_read)) items is_run same

pub returns-in-None-clause-found : goal.returns-in-None-clause-found
returns-in-None-clause-found c = λ initial is_read.
    subst (λ order. Passes c.args.profile c.args.transcript.now order initial) (sym c.new.ensures.items)
    (nothing_passes c.args.profile c.args.transcript.now initial c.export.ensures.facts (sym c.in-None.is ∙ c.export.ensures.export))

pub returns-in-None-clause-says : goal.returns-in-None-clause-says
returns-in-None-clause-says c = λ initial items is_read is_run same.
    says_of c.found_is_so.ensures c.args.profile c.args.transcript.now initial (Order c.new.result) (returns-in-None-clause-found c initial is_read) items is_run same

pub returns-in-None-clause-wanted : goal.returns-in-None-clause-wanted
returns-in-None-clause-wanted c =
    whole_wanted c.args.scope.wanted c.new.result.items (subst AreWhole (sym c.new.ensures.items) (All-nil (λ (e : Entry). e.part ≡ None)))
