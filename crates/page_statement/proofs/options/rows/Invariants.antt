use Rattle.std.proofs.Common.{◌≡◌, take, string_bytes}
use Rattle.page_figures.specs.Shown.{quote_of}
use Rattle.page_statement.specs.Columns.{rows_text}
use Rattle.page_statement.specs.Options.{option_row}
use Rattle.page_statement.proofs.options.rows.Given as goal
use Rattle.rules_pricing.specs.Priced.{contracts_of}

abbrev pub invariant-loop-i : goal.invariant-loop-i
invariant-loop-i l = string_bytes l.out ≡ rows_text (option_row (contracts_of (quote_of l.docket.book) l.docket.size)) 1 (take l.i l.docket.tally.held)
