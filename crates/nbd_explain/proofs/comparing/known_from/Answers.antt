use Rattle.nbd_export.specs.Extents.{byte_of}
use Rattle.nbd_explain.proofs.CountLemmas.{all_counted, none_counted}
use Rattle.nbd_explain.proofs.comparing.known_from.Goals as goal

pub returns-in-Unknown-clause-counted : goal.returns-in-Unknown-clause-counted
returns-in-Unknown-clause-counted c = none_counted (byte_of c.args.contents.now) c.range_at-kind.result.0 c.args.at c.range_at-kind.result.1 c.in-Unknown.is c.range_at-kind.ensures.behind c.range_at-kind.ensures.bytes

pub returns-in-Zeroes-clause-counted : goal.returns-in-Zeroes-clause-counted
returns-in-Zeroes-clause-counted c = all_counted (byte_of c.args.contents.now) c.range_at-kind.result.0 c.args.at c.range_at-kind.result.1 c.in-Zeroes.is c.range_at-kind.ensures.behind c.range_at-kind.ensures.bytes
