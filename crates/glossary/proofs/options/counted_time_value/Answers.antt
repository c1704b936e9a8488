use Rattle.glossary.proofs.options.counted_time_value.Goals as goal

pub returns : goal.returns
returns g c = rw (c.counted_whole.ensures, c.counted_half.ensures) at c.format.ensures.ok
