use Rattle.std.proofs.Common.{◌≡◌, true, false, cond, ◌==◌, List, length, codes, sym, ap, ◌∙◌}
use Rattle.std.proofs.lemmas.Result.{IfOk-weaker}
use Rattle.certificate_pairing.specs.declared.Claim.{Claim}
use Rattle.page_statement.specs.Rules.{rules_on}
use Rattle.page_statement.specs.Claims.{claims_table, claims_section}
use Rattle.page_statement.proofs.claims.section.Goals as goal
use Rattle.certificate_pairing.specs.Dockets.{docket_by}

pub returns-then-is_empty : goal.returns-then-is_empty
unfolding claims_section
returns-then-is_empty c =
    let d = c.args.docket.now in
    let none : (length d.tally.claims == 0) ≡ true = ap (λ (ls : List Claim). length ls == 0) (sym c.claims.ensures.items) ∙ sym c.is_empty.ensures ∙ c.if-is_empty.true in
    IfOk-weaker c.from_str.result _ _ (λ t e. e ∙ ap (λ b. cond b (codes "\nClaims\n\n  none\n") (claims_table (docket_by rules_on d))) (sym none)) c.from_str.ensures.ok

pub returns : goal.returns
unfolding claims_section
returns c =
    let d = c.args.docket.now in
    let some : (length d.tally.claims == 0) ≡ false = ap (λ (ls : List Claim). length ls == 0) (sym c.claims.ensures.items) ∙ sym c.is_empty.ensures ∙ c.if-is_empty.false in
    IfOk-weaker c.table.result _ _ (λ t e. e ∙ ap (λ b. cond b (codes "\nClaims\n\n  none\n") (claims_table (docket_by rules_on d))) (sym some)) c.table.ensures
