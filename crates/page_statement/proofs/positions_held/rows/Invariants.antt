use Rattle.std.proofs.Common.{◌≡◌, take, string_bytes}
use Rattle.rules_books.specs.Books.{sheet_tables}
use Rattle.page_statement.specs.Columns.{rows_text}
use Rattle.page_statement.specs.Positions.{position_row}
use Rattle.page_statement.proofs.positions_held.rows.Given as goal
use Rattle.certificate_pairing.specs.Dockets.{docket_by}

abbrev pub invariant-loop-i : goal.invariant-loop-i
invariant-loop-i l = string_bytes l.out ≡ rows_text (position_row (docket_by sheet_tables l.docket)) 1 (take l.i l.docket.tally.held)
