use Rattle.std.proofs.Common.{◌≡◌, take, string_bytes}
use Rattle.page_statement.specs.Columns.{rows_text}
use Rattle.page_statement.specs.Rules.{rules_on}
use Rattle.page_statement.specs.Claims.{claim_row}
use Rattle.page_statement.proofs.claims.claim_rows.Given as goal
use Rattle.certificate_pairing.specs.Dockets.{docket_by}

abbrev pub invariant-loop-i : goal.invariant-loop-i
invariant-loop-i l = string_bytes l.out ≡ rows_text (claim_row (docket_by rules_on l.docket)) 1 (take l.i l.docket.tally.claims)
