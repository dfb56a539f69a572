use Rattle.nbd_order.proofs.{Common.{◌≡◌, refl, sym, ◌∙◌, ap, true, false, report_of_request, has}, StateLemmas.{byte_is, fits_of}, refutation.Refutation.leads.Goals.{then-adds_alone, else-adds_alone}}
use Rattle.nbd_order.proofs.refutation.Refutation.leads.Goals as goal

pub returns-then-keeps : goal.returns-then-keeps
returns-then-keeps c = λ t. elim c.if-adds_alone.branch [
  | then-adds_alone w ↦ (
    (
      λ d q. c.adds_alone.ensures w.if-adds_alone.true d (ap (λ ns. has ns d) c.deref.ensures.value ∙ q),
      λ k q. w.keeps.ensures (sym w.value-is ∙ c.if-keeps.true) k (ap (λ ns. has ns k) w.deref-then-adds_alone.ensures.value ∙ q),
    ),
    λ e q. fits_of c.args.profile c.args.transcript.now c.args.self.now.offset c.args.self.now.reads.items c.args.self.now.changes.items c.args.next.now c.args.next.now _ _ refl
        (byte_is c.args.transcript.now c.args.c c.args.self.now.offset (report_of_request c.in-Some.one.now) e c.byte_left.result (sym c.in-Some.ensures) q c.byte_left.ensures)
        (c.fits.ensures t),
  )
  | else-adds_alone w ↦ absurd (let q : false ≡ true = sym w.if-adds_alone.false ∙ sym w.value-is ∙ c.if-keeps.true in (cc))
]
