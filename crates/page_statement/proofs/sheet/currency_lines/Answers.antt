use Rattle.page_statement.specs.Sheet.{currency_lines}
use Rattle.page_statement.proofs.sheet.currency_lines.Goals as goal

pub returns : goal.returns
unfolding currency_lines
returns c = rw (c.in_ok-name.ensures, c.in_ok-price.ensures, c.from-price.ensures, c.parts.ensures.value, c.in_ok-spot.ensures, c.in_ok-market.ensures) at c.format.ensures.ok
