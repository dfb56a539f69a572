use Rattle.nbd_files.proofs.Common.{tests, rules}
use Rattle.nbd_files.proofs.final_writer.FinalWriterWrite.write.Goals as goal

pub returns-in-Ok-clause-bytes : goal.returns-in-Ok-clause-bytes
returns-in-Ok-clause-bytes c = search (tests, rules)
