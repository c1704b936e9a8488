use Rattle.std.proofs.Common.{ℕ, ◌+◌, ◌<◌, List, ◌++◌, length, get_or, ap, ◌∙◌, rules}
use Rattle.rules_positions.specs.declared.record.Record.{Record}
use Rattle.page_figures.specs.Shown.{quote_of}
use Rattle.page_statement.specs.Options.{option_row}
use Rattle.page_statement.proofs.Rows.{rows_more}
use Rattle.page_statement.proofs.options.rows.Goals as goal
use Rattle.rules_pricing.specs.Priced.{contracts_of}

pub loop-i-preserved : goal.loop-i-preserved
loop-i-preserved c =
    let d = c.args.docket.now in
    let row : ℕ → Record → List ℕ = option_row (contracts_of (quote_of d.book) d.size) in
    let xs = d.tally.held in
    let i = c.loop-i.i in
    let x = c.position-item.result in
    let inside : i < length xs = search rules in
    c.in_ok-push_str.ensures.bytes
    ∙ (λ j. c.loop-i.invariant j ++ (c.as_str.ensures.value ∙ c.in_ok-row.ensures ∙ ap (row (i + 1)) (c.position-item.is ∙ ap (λ (ys : List Record). get_or ys i x) c.positions-position-items.ensures.items)) j)
    ∙ rows_more row xs i x inside
