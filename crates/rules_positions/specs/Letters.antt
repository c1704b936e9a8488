-- The letters of a record.
use Rattle.std.specs.Prelude.{ℕ, Bool, true, false, cond, Some, None, Option, ◌==◌}
use Rattle.rules_positions.specs.declared.Side.{Side}
use Rattle.rules_positions.specs.declared.Side.TheVariants.{Long, Short}
use Rattle.rules_positions.specs.declared.Kind.{Kind}
use Rattle.rules_positions.specs.declared.Kind.TheVariants.{Units, Call, Put, Futures, Receipt}

-- L is long, S is short (a letter is its code: L is 76, S is 83)
abbrev pub side_of : ℕ → Option Side
side_of c = cond (c == 76) (Some Long) (cond (c == 83) (Some Short) None)

-- U units of the underlying, C call, P put, F futures, R escrow receipt (85, 67, 80, 70, 82)
abbrev pub kind_of : ℕ → Option Kind
kind_of c =
    cond (c == 85) (Some Units)
    (cond (c == 67) (Some Call) (cond (c == 80) (Some Put) (cond (c == 70) (Some Futures) (cond (c == 82) (Some Receipt) None))))

-- and the letter of each side
abbrev pub side_letter : Side → ℕ
side_letter Long = 76
side_letter Short = 83

-- and of each kind
abbrev pub kind_letter : Kind → ℕ
kind_letter Units = 85
kind_letter Call = 67
kind_letter Put = 80
kind_letter Futures = 70
kind_letter Receipt = 82

-- an escrow receipt is held, never owed
abbrev pub sided : Side → Kind → Bool
sided Long kind = true
sided Short Units = true
sided Short Call = true
sided Short Put = true
sided Short Futures = true
sided Short Receipt = false

-- the kind, if it can be on the side
abbrev pub on_side : Side → Option Kind → Option Kind
on_side side None = None
on_side side (Some kind) = cond (sided side kind) (Some kind) None

-- the kind that a letter stands for on a side; a short receipt is wrong in its kind
abbrev pub kind_for : Side → ℕ → Option Kind
kind_for side c = on_side side (kind_of c)
