use Rattle.std.proofs.Common.{ℕ, ◌≤◌, pos, ap, sym, subst, ◌∙◌}
use Rattle.certificate_pairing.specs.Pairing.{cost}
use Rattle.rules_priced_examples.specs.Examples.{sample_size}
use Rattle.glossary.specs.Sample.{tables, tally, sample_docket}
use Rattle.glossary.proofs.docket.least.Goals as goal
use Rattle.certificate_pairing.specs.Claims.{cost_in}

pub returns-clause-text : goal.returns-clause-text
returns-clause-text c = rw (c.from-whole.ensures, c.total.ensures.value, c.from-floor.ensures, c.certificate.ensures.shown.figure, c.verdict-verdict.ensures) at c.format.ensures.ok

pub returns-clause-least : goal.returns-clause-least
returns-clause-least c = λ xs lawful.
    let shown = c.certificate.ensures.shown in
    subst (λ (whole : ℕ). whole ≤ cost_in sample_docket xs) shown.sums (shown.least (shown.figure ∙ ap pos (sym shown.sums)) xs lawful)
