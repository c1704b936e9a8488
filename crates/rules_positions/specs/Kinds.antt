-- Sides and kinds that are alike.
use Rattle.std.specs.Prelude.{ℕ, Bool, ◌==◌}
use Rattle.rules_positions.specs.declared.Side.{Side}
use Rattle.rules_positions.specs.declared.Side.TheVariants.{Long, Short}
use Rattle.rules_positions.specs.declared.Kind.{Kind}
use Rattle.rules_positions.specs.declared.Kind.TheVariants.{Units, Call, Put, Futures, Receipt}

-- the number by which a side is known
abbrev pub side_number : Side → ℕ
side_number Long = 0
side_number Short = 1

-- the number by which a kind is known
abbrev pub kind_number : Kind → ℕ
kind_number Units = 0
kind_number Call = 1
kind_number Put = 2
kind_number Futures = 3
kind_number Receipt = 4

-- two sides are one
abbrev pub same_side : Side → Side → Bool
same_side a b = side_number a == side_number b

-- two kinds are one
abbrev pub same_kind : Kind → Kind → Bool
same_kind a b = kind_number a == kind_number b

-- the other side
abbrev pub other_side : Side → Side
other_side Long = Short
other_side Short = Long
