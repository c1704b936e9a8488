-- What either sheet holds, and the tables that it gives.
use Rattle.rules_market.specs.Share.{Shares, shares_on, share_quote}
use Rattle.rules_market.specs.Currency.{Currency, currency_on, currency_quote}
use Rattle.rules_books.specs.declared.sheets.Sheet.{Sheet}
use Rattle.rules_books.specs.declared.sheets.Sheet.TheVariants as sheet
use Rattle.rules_books.specs.Books.{share_tables, currency_tables}
use Rattle.rules_books.specs.Tables.{Tables}

-- the published values of a share or of a currency
pub data Rates : Type 0 where
  share : Shares → Rates
  currency : Currency → Rates

-- the values on a sheet
abbrev pub rates_on : Sheet → Rates
rates_on (sheet.Share s) = share (shares_on s)
rates_on (sheet.Currency c) = currency (currency_on c)

-- the book's tables by those values
abbrev pub tables_by : Rates → Tables
tables_by (share s) = share_tables (share_quote s)
tables_by (currency c) = currency_tables (currency_quote c)
