use Rattle.nbd_order.proofs.{Common.{start_byte, initial_of}, RefutationLemmas.refuted}
use Rattle.nbd_order.proofs.refuting.is_refuted.Goals as goal

pub returns-then-are_its_requests : goal.returns-then-are_its_requests
returns-then-are_its_requests c = λ t.
    let f = c.args.refutation.now in
    let requests = c.are_its_requests.ensures in
    let states = c.are_its_states.ensures in
    refuted c.args.profile c.args.transcript.now (start_byte (initial_of c.args.start.now)) f.offset f.reads.items f.changes.items f.states.items (requests.rise c.if-are_its_requests.true) (record {
      are_reads = requests.reads c.if-are_its_requests.true;
      are_changes = requests.changes c.if-are_its_requests.true;
      covered = requests.others c.if-are_its_requests.true;
      begins = states.beginning t;
      steps = states.stepping t;
      ends = states.ending t;
    })
