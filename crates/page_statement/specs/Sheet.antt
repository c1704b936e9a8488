-- The sheet on the page.
use Rattle.std.specs.Prelude.{ℕ, ◌*◌, Bool, true, false, List, ◌++◌, pos, Some, codes, decimal, Option}
use Rattle.rules_market.specs.Quote.{Quote}
use Rattle.rules_market.specs.Share.{Shares, share_quote}
use Rattle.rules_market.specs.Currency.{Currency, currency_quote}
use Rattle.file_head.specs.Rates.{Rates, share, currency}
use Rattle.page_money.specs.Texts.{dollars_text}
use Rattle.page_statement.specs.Columns.{percent_or_none, labelled_line}

-- whether something is so
abbrev pub yes_or_no_text : Bool → List ℕ
yes_or_no_text true = codes "yes"
yes_or_no_text false = codes "no"

-- a line with an amount in parts
abbrev pub amount_line : List ℕ → ℕ → List ℕ
amount_line label parts = labelled_line label (dollars_text (pos parts))

-- a line with a rate, or none
abbrev pub rate_line : List ℕ → Option ℕ → List ℕ
rate_line label rate = labelled_line label (percent_or_none rate)

-- what either market tells
unfoldable pub market_lines : Quote → List ℕ
market_lines q =
    amount_line (codes "Long requirement of a unit") q.long
    ++ (amount_line (codes "Short requirement of a unit") q.short
    ++ (rate_line (codes "Option rate") (Some q.option)
    ++ (rate_line (codes "Floor rate") (Some q.floor)
    ++ (rate_line (codes "Futures rate") q.futures
    ++ rate_line (codes "Tracking rate") q.tracking))))

-- a share, and whether it is eligible for a reduced margin
unfoldable pub share_lines : Shares → List ℕ
share_lines s =
    labelled_line (codes "Market") (codes "a share")
    ++ (amount_line (codes "Price of a unit") (s.price * 10000)
    ++ (labelled_line (codes "Reduced margin") (yes_or_no_text s.reduced)
    ++ market_lines (share_quote s)))

-- a currency, of which a unit is 100, and its spot rate
unfoldable pub currency_lines : Currency → List ℕ
currency_lines c =
    labelled_line (codes "Market") (codes "a currency")
    ++ (amount_line (codes "Price of 100 of the currency") (c.price * 10000)
    ++ (rate_line (codes "Spot rate") (Some c.spot)
    ++ market_lines (currency_quote c)))

-- the lines of either sheet
abbrev pub sheet_rows : Rates → List ℕ
sheet_rows (share s) = share_lines s
sheet_rows (currency c) = currency_lines c

-- the sheet and the contract size
unfoldable pub sheet_section : Rates → ℕ → List ℕ
sheet_section rates size =
    codes "Sheet\n\n" ++ (sheet_rows rates ++ labelled_line (codes "Units in a contract") (decimal size))
