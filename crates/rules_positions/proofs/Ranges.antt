-- What a record in range keeps to.
use Rattle.std.proofs.Common.{◌≡◌, true, arith}
use Rattle.rules_positions.specs.declared.Side.{Side}
use Rattle.rules_positions.specs.declared.Kind.{Kind}
use Rattle.rules_positions.specs.declared.Entry.{Entry}
use Rattle.rules_positions.specs.Letters.{sided}
use Rattle.rules_positions.specs.Ranges.{in_range, AreInRange}

-- fields that were judged make a record in range
pub all_in_range : (side : Side) (kind : Kind) (e : Entry) → sided side kind ≡ true → AreInRange e kind → in_range side kind e.strike e.days e.price ≡ true
unfolding in_range
all_in_range side kind e s j = grind (arith, j.strike, j.days, j.price)
