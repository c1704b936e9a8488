use Rattle.std.proofs.Common.{ap, ◌∙◌}
use Rattle.rules_positions.specs.declared.Side.TheVariants.{Short}
use Rattle.rules_positions.specs.declared.Kind.TheVariants.{Call}
use Rattle.rules_positions.specs.Records.{Terms, terms}
use Rattle.rules_articles.specs.Articles.{straddle}
use Rattle.rules_priced_examples.specs.Examples.{held}
use Rattle.glossary.proofs.worked.sets.straddle.Goals as goal
use Rattle.rules_pricing.specs.Priced.{contracts_of}

pub returns : goal.returns
returns g c =
    let q = c.args.contract.now.quote in
    let size = c.args.contract.now.size in
    c.straddle.ensures.value
    ∙ ap (λ (call : Terms). straddle (contracts_of q size) call (terms c.one-put.result)) c.one-call.ensures
    ∙ ap (straddle (contracts_of q size) (held Short Call 5500 100 120)) c.one-put.ensures
