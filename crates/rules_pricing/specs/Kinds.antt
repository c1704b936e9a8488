-- Rights, and the kinds of position that give them.
use Rattle.rules_positions.specs.declared.Kind.{Kind}
use Rattle.rules_positions.specs.declared.Kind.TheVariants as kind
use Rattle.rules_pricing.specs.declared.Right.{Right}
use Rattle.rules_pricing.specs.declared.Right.TheVariants.{Call, Put}

-- the right to buy is a call's, the right to sell a put's
abbrev pub kind_of_right : Right → Kind
kind_of_right Call = kind.Call
kind_of_right Put = kind.Put
