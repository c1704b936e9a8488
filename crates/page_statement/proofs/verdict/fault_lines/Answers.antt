use Rattle.page_statement.proofs.verdict.fault_lines.Goals as goal

pub returns : goal.returns
returns c = rw (c.in_ok-figures.ensures, c.total.ensures, c.in_ok-words.ensures) at c.format.ensures.ok
