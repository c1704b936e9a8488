-- The positions held on the page.
use Rattle.std.specs.Prelude.{ℕ, List, ◌++◌, length, pos, Some, None, codes, Option, cond, ◌==◌}
use Rattle.rules_positions.specs.declared.Kind.{Kind}
use Rattle.rules_positions.specs.declared.Kind.TheVariants.{Units, Call, Put, Futures, Receipt}
use Rattle.rules_positions.specs.declared.record.Record.{Record}
use Rattle.rules_books.specs.Tables.{Tables}
use Rattle.certificate_pairing.specs.Dockets.{Tally, Docket}
use Rattle.page_figures.specs.declared.FreeFigures.{FreeFigures}
use Rattle.page_figures.specs.Shown.{free_figures}
use Rattle.page_wording.specs.Names.{side_name, kind_name}
use Rattle.page_statement.specs.Columns.{left_text, number_text, amount_text, dash_text, cents_or_dash, rows_text}

-- an option has a strike
abbrev pub strike_of : Kind → ℕ → Option ℕ
strike_of Units strike = None
strike_of Call strike = Some strike
strike_of Put strike = Some strike
strike_of Futures strike = None
strike_of Receipt strike = None

-- an option has a premium, and futures a settlement
abbrev pub price_of : Kind → ℕ → Option ℕ
price_of Units price = None
price_of Call price = Some price
price_of Put price = Some price
price_of Futures price = Some price
price_of Receipt price = None

-- options and futures expire
abbrev pub days_text : Kind → ℕ → List ℕ
days_text Units days = dash_text 4
days_text Call days = number_text 4 days
days_text Put days = number_text 4 days
days_text Futures days = number_text 4 days
days_text Receipt days = dash_text 4

-- the side, kind, strike, days, price and quantity of a position
unfoldable pub record_columns : Record → List ℕ
record_columns r =
    left_text 5 (side_name r.side)
    ++ (codes " " ++ (left_text 7 (kind_name r.kind)
    ++ (codes " " ++ (cents_or_dash 8 (strike_of r.kind r.strike)
    ++ (codes " " ++ (days_text r.kind r.days
    ++ (codes " " ++ (cents_or_dash 8 (price_of r.kind r.price)
    ++ (codes " " ++ number_text 8 r.quantity)))))))))

-- what one of it requires alone, the units that no claim takes, and what those require alone
unfoldable pub figure_columns : FreeFigures → List ℕ
figure_columns f =
    amount_text 16 (pos f.alone) ++ (codes " " ++ (number_text 7 f.free ++ (codes " " ++ amount_text 21 (pos f.amount))))

-- the row of a position, by its number
unfoldable pub position_row : Docket Tables → ℕ → Record → List ℕ
position_row d number r =
    number_text 2 number ++ (codes " " ++ (record_columns r ++ (codes " " ++ (figure_columns (free_figures d number) ++ codes "\n"))))

-- the headings, and all positions in order of entry
unfoldable pub positions_table : Docket Tables → List ℕ
positions_table d =
    codes "\nPositions\n\nNo Side  Kind      Strike Days    Price Quantity        One alone    Free   What is free, alone\n" ++ rows_text (position_row d) 1 d.tally.held

-- the word none where no position is held, else the table
unfoldable pub positions_section : Docket Tables → List ℕ
positions_section d = cond (length d.tally.held == 0) (codes "\nPositions\n\n  none\n") (positions_table d)
