use Rattle.page_statement.specs.Sheet.{market_lines}
use Rattle.page_statement.proofs.sheet.market_lines.Goals as goal

pub returns : goal.returns
unfolding market_lines
returns g c = rw (c.in_ok-long.ensures, c.from-long.ensures, c.long_requirement.ensures, c.in_ok-short.ensures, c.from-short.ensures, c.short_requirement.ensures, c.in_ok-option.ensures, c.option_rate.ensures, c.in_ok-floor.ensures, c.floor_rate.ensures, c.in_ok-futures.ensures, c.futures_rate.ensures, c.in_ok-tracking.ensures, c.tracking_rate.ensures) at c.format.ensures.ok
