use Rattle.nbd_judge.proofs.Common.{Some, sym, ◌∙◌, ap, byte_of}
use Rattle.nbd_export.specs.Extents.{size_of}
use Rattle.nbd_export.proofs.HeldLemmas.{length-held_from}
use Rattle.nbd_judge.proofs.concluding.given_len.Goals as goal

pub returns-in-Contents : goal.returns-in-Contents
returns-in-Contents c =
    rw c.in-Contents.is (ap Some (c.size.ensures ∙ ap size_of c.deref-in-Contents.ensures ∙ sym (length-held_from (byte_of c.in-Contents.contents.value) 0 (size_of c.in-Contents.contents.value))))
