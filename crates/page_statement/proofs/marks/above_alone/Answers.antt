use Rattle.page_statement.specs.Marks.{above_alone}
use Rattle.page_statement.proofs.marks.above_alone.Goals as goal

pub returns : goal.returns
unfolding above_alone
returns c = rw (c.mark_of-mark.ensures, c.alone_of-alone.ensures, c.from-number.ensures) at c.format.ensures.ok
