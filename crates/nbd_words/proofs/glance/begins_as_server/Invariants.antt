-- Each chunk is read from what is left of the file.
use Rattle.nbd_words.proofs.glance.begins_as_server.Given as goal

abbrev pub decreases-loop-side : goal.decreases-loop-side
decreases-loop-side l = l.reader.room
