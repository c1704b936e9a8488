-- What the values of the types stand for.
use Rattle.std.specs.Prelude.{ℕ, Option}
use Rattle.std.specs.Option.{option_map}
use Rattle.rules_amounts.specs.declared.rate.Rate.{Rate}
use Rattle.rules_amounts.specs.declared.unit_amount.UnitAmount.{UnitAmount}

-- the basis points of a rate, or none
abbrev pub points : Option Rate → Option ℕ
points rate = option_map (λ (r : Rate). r.basis_points) rate

-- the parts of an amount for a unit
abbrev pub parts_in : UnitAmount → ℕ
parts_in unit = unit.parts
