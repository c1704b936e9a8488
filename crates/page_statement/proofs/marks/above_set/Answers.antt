use Rattle.page_statement.specs.Marks.{above_set}
use Rattle.page_statement.proofs.marks.above_set.Goals as goal

pub returns : goal.returns
unfolding above_set
returns c = rw (c.name_of-name.ensures, c.in_ok-positions.ensures, c.worth_of-worth.ensures, c.required_of-required.ensures, c.one_set-claim.ensures) at c.format.ensures.ok
