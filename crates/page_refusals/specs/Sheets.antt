-- A contract size or a sheet that is refused, in words.
use Rattle.std.specs.Prelude.{ℕ, zero, suc, ◌+◌, ◌-◌, Bool, false, cond, not, List, ◌++◌, length, Some, None, codes, decimal, Option, ◌==◌, nat_lt}
use Rattle.std.specs.Option.{option_map_or, option_and_then}
use Rattle.rules_amounts.specs.Ranges.{inside}
use Rattle.file_fields.specs.Numbers.{natural}
use Rattle.file_head.specs.Lines.{strip}
use Rattle.page_refusals.specs.declared.forms.LineKind.{LineKind}
use Rattle.page_refusals.specs.declared.forms.LineKind.TheVariants.{Price, Floor, Futures, Tracking, Spot}
use Rattle.page_wording.specs.Lines.{line_at}
use Rattle.page_refusals.specs.Forms.{key_text, line_kind}
use Rattle.page_refusals.specs.Words.{Said, saying}

-- a contract size outside its range, whose value stands at byte 6
abbrev pub size_words : Said
size_words = saying (Some 6) (codes "the contract size is out of its range") (codes "a contract has 1 to 1,000 units of the underlying")

-- a number outside the range of a kind: a price is 1 to 500,000, a rate at most 10,000
abbrev pub outside : LineKind → ℕ → Bool
outside Price number = not (inside 1 500000 number)
outside Floor number = nat_lt 10000 number
outside Futures number = nat_lt 10000 number
outside Tracking number = nat_lt 10000 number
outside Spot number = nat_lt 10000 number
outside kind number = false

-- the number that stands after the key of a kind
abbrev pub value_on : List ℕ → LineKind → Option ℕ
value_on line kind = option_and_then natural (strip (key_text kind) line)

-- whether it is outside its range
abbrev pub out_of_range : List ℕ → LineKind → Bool
out_of_range line kind = option_map_or (outside kind) (value_on line kind) false

-- a kind, if a line's number is outside its range
abbrev pub if_out_of_range : List ℕ → Option LineKind → Option LineKind
if_out_of_range line (Some kind) = cond (out_of_range line kind) (Some kind) None
if_out_of_range line None = None

-- the kind of a line whose number is outside its range
abbrev pub kind_out_of_range : List ℕ → Option LineKind
kind_out_of_range line = if_out_of_range line (line_kind line)

-- what would be right for a value of a sheet: only prices and rates have ranges
abbrev pub value_right : LineKind → List ℕ
value_right Price = codes "a price is 1 to 500,000 cents"
value_right kind = codes "a rate is 0 to 10,000 basis points, which is 100%"

-- the value of a kind on a line: its place is marked on the sheet's last line, where the sheet is judged
abbrev pub value_words : LineKind → ℕ → ℕ → Said
value_words kind number last =
    saying (cond (number == last) (Some (length (key_text kind) + 1)) None)
    (codes "the value of " ++ (key_text kind ++ (codes " on line " ++ (decimal number ++ codes " is out of its range"))))
    (value_right kind)

-- no line has such a value
abbrev pub no_value_words : Said
no_value_words = saying None (codes "a value of the sheet is out of its range") (codes "a price is 1 to 500,000 cents, a rate is 0 to 10,000 basis points")

-- the value on a line, if it is outside its range, else what is said of the others
abbrev pub value_or : Option LineKind → ℕ → ℕ → Said → Said
value_or (Some kind) number last others = value_words kind number last
value_or None number last others = others

-- the first such value on lines from a number on, so many of them
abbrev pub values_from : List ℕ → ℕ → ℕ → ℕ → Said
values_from file last number zero = no_value_words
values_from file last number (suc n) = value_or (kind_out_of_range (line_at file number)) number last (values_from file last (number + 1) n)

-- a sheet is judged at its last line, and the first such value may stand on an earlier one, from line 3 on
abbrev pub sheet_words : List ℕ → ℕ → Said
sheet_words file last = values_from file last 3 (last - 2)
