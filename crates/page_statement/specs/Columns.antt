-- Texts in the columns of a page.
use Rattle.std.specs.Prelude.{ℕ, ◌+◌, ◌-◌, ◌*◌, ◌/◌, ◌%◌, List, [], ◌∷◌, ◌++◌, length, ℤ, pos, Some, None, codes, decimal, Option}
use Rattle.page_money.specs.Texts.{dollars_text}
use Rattle.page_wording.specs.Shown.{spaces}

-- a text at the left of so many columns
unfoldable pub left_text : ℕ → List ℕ → List ℕ
left_text width text = text ++ spaces (width - length text)

-- a text at the right of so many columns
unfoldable pub right_text : ℕ → List ℕ → List ℕ
right_text width text = spaces (width - length text) ++ text

-- a number at the right of so many columns
abbrev pub number_text : ℕ → ℕ → List ℕ
number_text width number = right_text width (decimal number)

-- an amount in parts, in dollars, at the right of so many columns
abbrev pub amount_text : ℕ → ℤ → List ℕ
amount_text width parts = right_text width (dollars_text parts)

-- a dash, where there is no such value
abbrev pub dash_text : ℕ → List ℕ
dash_text width = right_text width (codes "-")

-- cents in dollars, where there are any
abbrev pub cents_or_dash : ℕ → Option ℕ → List ℕ
cents_or_dash width (Some cents) = amount_text width (pos (cents * 10000))
cents_or_dash width None = dash_text width

-- basis points in percent, with two digits after the point
unfoldable pub percent_text : ℕ → List ℕ
percent_text points = decimal (points / 100) ++ (codes "." ++ (decimal (points / 10 % 10) ++ (decimal (points % 10) ++ codes "%")))

-- a rate in percent, or none
abbrev pub percent_or_none : Option ℕ → List ℕ
percent_or_none (Some points) = percent_text points
percent_or_none None = codes "none"

-- a line with a label at the left and a value at the right
unfoldable pub labelled_line : List ℕ → List ℕ → List ℕ
labelled_line label value = codes "  " ++ (left_text 28 label ++ (codes " " ++ (right_text 14 value ++ codes "\n")))

-- a row for each item, numbered from the first
abbrev pub rows_text : {A : Type 0} → (ℕ → A → List ℕ) → ℕ → List A → List ℕ
rows_text row first [] = []
rows_text row first (x ∷ xs) = row first x ++ rows_text row (first + 1) xs
