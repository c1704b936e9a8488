use Rattle.std.proofs.Common.{ℕ, ◌+◌, ◌<◌, List, ◌++◌, length, get_or, ap, ◌∙◌, rules}
use Rattle.rules_positions.specs.declared.record.Record.{Record}
use Rattle.rules_books.specs.Books.{sheet_tables}
use Rattle.page_statement.specs.Positions.{position_row}
use Rattle.page_statement.proofs.Rows.{rows_more}
use Rattle.page_statement.proofs.positions_held.rows.Goals as goal
use Rattle.certificate_pairing.specs.Dockets.{docket_by}

pub loop-i-preserved : goal.loop-i-preserved
loop-i-preserved c =
    let d = c.args.docket.now in
    let row : ℕ → Record → List ℕ = position_row (docket_by sheet_tables d) in
    let xs = d.tally.held in
    let i = c.loop-i.i in
    let x = c.position-item.result in
    let inside : i < length xs = search rules in
    c.in_ok-push_str.ensures.bytes
    ∙ (λ j. c.loop-i.invariant j ++ (c.as_str.ensures.value ∙ c.in_ok-row.ensures ∙ ap (row (i + 1)) (c.position-item.is ∙ ap (λ (ys : List Record). get_or ys i x) c.positions-position-items.ensures.items)) j)
    ∙ rows_more row xs i x inside
