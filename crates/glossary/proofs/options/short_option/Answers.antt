use Rattle.std.proofs.Common.{ap}
use Rattle.rules_pricing.specs.Alone.{positive_part}
use Rattle.glossary.proofs.options.short_option.Goals as goal

pub returns : goal.returns
returns g c = rw (ap positive_part c.short_option.ensures, ap positive_part c.short_option_floored.ensures) at c.format.ensures.ok
