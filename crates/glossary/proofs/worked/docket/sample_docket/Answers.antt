use Rattle.std.proofs.Common.{◌≡◌, [], ◌∷◌, subst, ◌∙◌}
use Rattle.rules_market.specs.Share.{Shares, share_quote, shares_on}
use Rattle.calls_docket.specs.Books.{share_tables}
use Rattle.calls_serve.specs.declared.Call.TheVariants.{Claim}
use Rattle.calls_serve.specs.Laws.{Holds}
use Rattle.glossary.specs.Sample.{claim, tally}
use Rattle.glossary.proofs.Sampling.{sample_calls, sampled}
use Rattle.glossary.proofs.worked.docket.sample_docket.Goals as goal
use Rattle.certificate_pairing.specs.Dockets.{Tally, docket_of}

pub returns-clause-tally : goal.returns-clause-tally
returns-clause-tally c =
    let calls : c.enter.result ∷ c.enter-2.result ∷ c.enter-3.result ∷ Claim claim ∷ [] ≡ sample_calls = λ i. c.enter.ensures i ∷ c.enter-2.ensures i ∷ c.enter-3.ensures i ∷ Claim claim ∷ [] in
    c.in-Ok.ensures.2.tallied ∙ sampled _ c.sample_sheet.ensures _ calls

pub returns-clause-holds : goal.returns-clause-holds
returns-clause-holds c =
    let calls : c.enter.result ∷ c.enter-2.result ∷ c.enter-3.result ∷ Claim claim ∷ [] ≡ sample_calls = λ i. c.enter.ensures i ∷ c.enter-2.ensures i ∷ c.enter-3.ensures i ∷ Claim claim ∷ [] in
    let made = sampled _ c.sample_sheet.ensures _ calls in
    subst (λ (x : Shares). Holds (docket_of (share_tables (share_quote x)) 100 tally)) c.sample_sheet.ensures
    (subst (λ (y : Tally). Holds (docket_of (share_tables (share_quote (shares_on c.sample_sheet.result))) 100 y)) made (c.in-Ok.ensures.2.held 4))
