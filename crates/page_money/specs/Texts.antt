-- An amount in parts as text in dollars and cents: a cent is 10,000 parts, and a dollar 1,000,000.
use Rattle.std.specs.Prelude.{ℕ, suc, ◌/◌, ◌%◌, List, [], ◌∷◌, ◌++◌, ℤ, pos, negsuc, decimal, ◌==◌, if◌then◌else◌}
use Rattle.page_money.specs.Digits.{last_digits, with_commas}

-- two digits of cents, and where the parts are no whole number of cents, four digits more
abbrev pub after_point_text : ℕ → List ℕ
after_point_text parts = last_digits 2 (parts / 10000) ++ (if parts % 10000 == 0 then [] else last_digits 4 parts)

-- whole dollars, a point (46) and the cents
abbrev pub unsigned_text : ℕ → List ℕ
unsigned_text parts = with_commas (decimal (parts / 1000000)) ++ 46 ∷ after_point_text parts

-- with a minus sign (45) where the amount is below 0
abbrev pub dollars_text : ℤ → List ℕ
dollars_text (pos parts) = unsigned_text parts
dollars_text (negsuc n) = 45 ∷ unsigned_text (suc n)
