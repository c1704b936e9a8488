use Rattle.std.proofs.Common.{refl, ◌∙◌}
use Rattle.rules_market.specs.Share.{share_quote}
use Rattle.calls_docket.specs.Books.{share_tables}
use Rattle.certificate_certify.specs.Certified.{certify_reply}
use Rattle.calls_docket.specs.Calls.{certificate_reply}
use Rattle.glossary.specs.Sample.{tables, tally, sample_docket}
use Rattle.glossary.proofs.Sampling.{shown_by}
use Rattle.glossary.proofs.worked.docket.certify.Goals as goal
use Rattle.certificate_pairing.specs.Dockets.{docket_of}

pub returns-clause-value : goal.returns-clause-value
returns-clause-value c =
    let d = c.sample_docket.ensures in
    c.certify.ensures ∙ (λ i. certificate_reply (docket_of (share_tables (share_quote (d.book i))) (d.size i) (d.tally i)) c.args.marks.now)

pub returns-clause-shown : goal.returns-clause-shown
returns-clause-shown c =
    let d = c.sample_docket.ensures in
    let marks = c.args.marks.now in
    shown_by d.holds marks (certify_reply sample_docket marks) refl c.certify.result
    (c.certify.ensures ∙ (λ i. certificate_reply (docket_of (share_tables (share_quote (d.book i))) (d.size i) (d.tally i)) marks))
