use Rattle.std.proofs.Common.{ℕ, ◌+◌, ◌<◌, List, ◌++◌, length, get_or, ap, ◌∙◌, rules}
use Rattle.certificate_pairing.specs.declared.Claim.{Claim}
use Rattle.certificate_pairing.specs.Kept.{no_claim}
use Rattle.page_statement.proofs.Rows.{rows_more}
use Rattle.page_statement.specs.Rules.{rules_on}
use Rattle.page_statement.specs.Claims.{claim_row}
use Rattle.page_statement.proofs.claims.claim_rows.Goals as goal
use Rattle.certificate_pairing.specs.Dockets.{docket_by}

pub loop-i-preserved : goal.loop-i-preserved
loop-i-preserved c =
    let d = c.args.docket.now in
    let row : ℕ → Claim → List ℕ = claim_row (docket_by rules_on d) in
    let xs = d.tally.claims in
    let i = c.loop-i.i in
    let inside : i < length xs = search rules in
    c.in_ok-push_str.ensures.bytes
    ∙ (λ j. c.loop-i.invariant j ++ (c.as_str.ensures.value ∙ c.in_ok-row.ensures ∙ ap (λ (ys : List Claim). row (i + 1) (get_or ys i no_claim)) c.claims-claim-items.ensures.items) j)
    ∙ rows_more row xs i no_claim inside
