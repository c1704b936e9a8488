use Rattle.page_statement.specs.Claims.{claims_table}
use Rattle.page_statement.proofs.claims.table.Goals as goal

pub returns : goal.returns
unfolding claims_table
returns c = rw (c.in_ok-claims.ensures, c.in_ok-amounts.ensures) at c.format.ensures.ok
