use Rattle.glossary.proofs.options.time_value.Goals as goal

pub returns : goal.returns
returns g c = rw (c.price.ensures, c.time_value.ensures) at c.format.ensures.ok
