-- Digits of a number, and commas between them.
use Rattle.std.specs.Prelude.{ℕ, zero, suc, ◌+◌, ◌/◌, ◌%◌, List, [], ◌∷◌, ◌++◌, length, ◌==◌, ◌&&◌, nat_lt, if◌then◌else◌}

-- the last k digits of a number, with zeros before a shorter one; 48 is the digit 0
abbrev pub last_digits : ℕ → ℕ → List ℕ
last_digits zero n = []
last_digits (suc k) n = last_digits k (n / 10) ++ (48 + n % 10) ∷ []

-- a comma (44) before the last k digits, where k is three, six, nine and so on
abbrev pub comma_before : ℕ → List ℕ
comma_before k = if nat_lt 0 k && k % 3 == 0 then 44 ∷ [] else []

-- digits with their commas
abbrev pub with_commas : List ℕ → List ℕ
with_commas [] = []
with_commas (c ∷ cs) = c ∷ (comma_before (length cs) ++ with_commas cs)
