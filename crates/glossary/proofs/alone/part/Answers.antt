use Rattle.glossary.proofs.alone.part.Goals as goal

pub returns : goal.returns
returns g c = rw (c.floor_rate-rate.ensures, c.part-parts.ensures) at c.format.ensures.ok
