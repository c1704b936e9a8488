-- Ranges of whole numbers.
use Rattle.std.specs.Prelude.{ℕ, Bool, cond, ◌&&◌, Some, None, Option, nat_le}

-- the number lies in the range, its ends included
abbrev pub inside : ℕ → ℕ → ℕ → Bool
inside low high n = nat_le low n && nat_le n high

-- the number where it lies in the range, else none
abbrev pub within : ℕ → ℕ → ℕ → Option ℕ
within low high n = cond (inside low high n) (Some n) None
