-- The ranges of a sheet's values, and the refusal of a sheet.
use Rattle.std.specs.Prelude.{ℕ, List, ◌++◌, codes, decimal, Bool, true, cond, Some, None, Ok, Err, Option, Result}
use Rattle.rules_amounts.specs.Ranges.{inside}
use Rattle.rules_market.specs.declared.SheetFault.{SheetFault}
use Rattle.rules_market.specs.declared.SheetFault.TheVariants.{OutOfRange}

-- a price runs from 1 to 500,000 cents
abbrev pub price_in_range : ℕ → Bool
price_in_range price = inside 1 500000 price

-- a rate runs from 0 to 10,000 basis points
abbrev pub rate_in_range : ℕ → Bool
rate_in_range rate = inside 0 10000 rate

-- a rate that may be none
abbrev pub none_or_in_range : Option ℕ → Bool
none_or_in_range None = true
none_or_in_range (Some rate) = rate_in_range rate

-- a value outside its range is refused
abbrev pub accepted : {A : Type 0} → Bool → A → Result A SheetFault
accepted ok value = cond ok (Ok value) (Err OutOfRange)

-- 18: a value outside its range; nothing is returned with it
abbrev pub sheet_number : SheetFault → ℕ
sheet_number OutOfRange = 18

-- the refusal as text: its number
abbrev pub sheet_text : SheetFault → List ℕ
sheet_text f = codes "refused=" ++ decimal (sheet_number f)
