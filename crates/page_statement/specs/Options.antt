-- What the requirement of each option is made of, on the page.
use Rattle.std.specs.Prelude.{ℕ, List, [], ◌++◌, pos, Some, None, codes, is_none, Option, cond, Bool}
use Rattle.std.specs.List.{list_all}
use Rattle.rules_market.specs.Quote.{Quote}
use Rattle.rules_positions.specs.declared.record.Record.{Record}
use Rattle.rules_positions.specs.Records.{Terms, terms}
use Rattle.rules_pricing.specs.declared.Right.{Right}
use Rattle.rules_pricing.specs.Options.{in_the_money, out_of_the_money, time_value_of, counted_time_value}
use Rattle.page_workings.specs.declared.Portion.{Portion}
use Rattle.page_workings.specs.declared.Portion.TheVariants.{Whole, Half}
use Rattle.page_workings.specs.declared.Ruling.{Ruling}
use Rattle.page_workings.specs.declared.Ruling.TheVariants.{BeforeFloor, FloorAmount}
use Rattle.page_workings.specs.declared.ShortWorking.{ShortWorking}
use Rattle.page_workings.specs.Options.{right_of, portion_of, short_by_side}
use Rattle.page_wording.specs.Names.{side_name, kind_name}
use Rattle.page_statement.specs.Columns.{left_text, right_text, number_text, amount_text, dash_text, cents_or_dash, rows_text}
use Rattle.rules_pricing.specs.Priced.{Priced, contracts_of}
use Rattle.certificate_pairing.specs.Dockets.{Docket}

-- how much of the time value counts
abbrev pub portion_words : Portion → List ℕ
portion_words Whole = codes "100%"
portion_words Half = codes "50%"

-- the amount of a short option that rules
abbrev pub ruling_words : Ruling → List ℕ
ruling_words BeforeFloor = codes "first"
ruling_words FloorAmount = codes "floor"

-- the parts of an option, for one unit: in the money, out of the money, time value, how much of it counts, and what counts
unfoldable pub unit_columns : ℕ → ℕ → ℕ → Portion → ℕ → List ℕ
unit_columns inner outer time portion counted =
    cents_or_dash 8 (Some inner)
    ++ (codes " " ++ (cents_or_dash 8 (Some outer)
    ++ (codes " " ++ (cents_or_dash 8 (Some time)
    ++ (codes " " ++ (right_text 4 (portion_words portion)
    ++ (codes " " ++ amount_text 12 (pos counted))))))))

-- the parts of an option as they are priced
abbrev pub option_columns : Quote → Right → Terms → List ℕ
option_columns q right o =
    unit_columns (in_the_money right o.strike q.price) (out_of_the_money right o.strike q.price) (time_value_of q right o) (portion_of o.days) (counted_time_value (time_value_of q right o) o.days)

-- the two amounts of a short option and the one that rules; a long option has none
abbrev pub short_columns : Option ShortWorking → List ℕ
short_columns (Some w) = amount_text 17 w.before_floor ++ (codes " " ++ (amount_text 16 (pos w.floor_amount) ++ (codes " " ++ ruling_words w.ruling)))
short_columns None = dash_text 17 ++ (codes " " ++ (dash_text 16 ++ codes " -"))

-- the row of an option, by the number of its position
unfoldable pub right_row : Priced → ℕ → Record → Right → List ℕ
right_row c number r right =
    number_text 2 number
    ++ (codes " " ++ (left_text 5 (side_name r.side)
    ++ (codes " " ++ (left_text 4 (kind_name r.kind)
    ++ (codes " " ++ (option_columns c.quote right (terms r)
    ++ (codes " " ++ (short_columns (short_by_side c right (terms r) r.side) ++ codes "\n"))))))))

-- a position that is no option has no row
abbrev pub row_by : Priced → ℕ → Record → Option Right → List ℕ
row_by c number r (Some right) = right_row c number r right
row_by c number r None = []

-- the row of a position
abbrev pub option_row : Priced → ℕ → Record → List ℕ
option_row c number r = row_by c number r (right_of r.kind)

-- the position is no option
abbrev pub is_no_option : Record → Bool
is_no_option r = is_none (right_of r.kind)

-- the headings, all options in order of entry, and a note
unfoldable pub options_table : Priced → List Record → List ℕ
options_table c held =
    codes "\nOptions\n\n                In the   Out of     Time         Part that             First            Floor\nNo Side  Kind    money    money    value Part       counts            amount           amount Rules\n"
    ++ (rows_text (option_row c) 1 held
    ++ codes "\nIn and out of the money, time value and the part of it that counts are of one unit.\nA long option requires, for each unit of the contract, the part that counts and the lesser of the\nlong requirement and the amount in the money. A short option requires the greater of two amounts of\na contract, the first where they are equal: the premium and the option rate of the price less the\namount out of the money, and its floor amount.\n")

-- the word none where no position is an option, else the table
unfoldable pub options_section : Docket Quote → List ℕ
options_section d = cond (list_all is_no_option d.tally.held) (codes "\nOptions\n\n  none\n") (options_table (contracts_of d.book d.size) d.tally.held)
