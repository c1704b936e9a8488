use Rattle.std.proofs.Common.{ap}
use Rattle.rules_pricing.specs.Priced.{Priced}
use Rattle.glossary.proofs.options.long_option.Goals as goal

pub returns : goal.returns
returns g c = rw (ap (λ (v : Priced). v.size) c.contract.view_is, c.long_option_whole.ensures, c.long_option_half.ensures) at c.format.ensures.ok
