use Rattle.glossary.proofs.docket.floor.Goals as goal

pub returns : goal.returns
returns c = rw (c.marked-unit.ensures, c.marked-put.ensures, c.marked-call.ensures, c.from-sum.ensures, c.certificate.ensures.shown.figure) at c.format.ensures.ok
