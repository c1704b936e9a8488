use Rattle.page_statement.specs.Sheet.{share_lines}
use Rattle.page_statement.proofs.sheet.share_lines.Goals as goal

pub returns : goal.returns
unfolding share_lines
returns c = rw (c.in_ok-name.ensures, c.in_ok-price.ensures, c.from-price.ensures, c.parts.ensures.value, c.in_ok-reduced.ensures, c.yes_or_no.ensures, c.in_ok-market.ensures) at c.format.ensures.ok
