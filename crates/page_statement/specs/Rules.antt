-- The rules of a sheet: its book's tables, what its market tells, and its articles by their numbers.
use Rattle.std.specs.Prelude.{ℕ, Option}
use Rattle.rules_market.specs.Quote.{Quote}
use Rattle.rules_market.specs.Share.{share_quote}
use Rattle.rules_market.specs.Currency.{currency_quote}
use Rattle.rules_articles.specs.declared.Article.{Article}
use Rattle.rules_books.specs.declared.sheets.Sheet.{Sheet}
use Rattle.rules_books.specs.Tables.{Tables}
use Rattle.rules_books.specs.Books.{share_article, currency_article, share_tables, currency_tables, sheet_tables}
use Rattle.file_head.specs.Rates.{Rates, share, currency}
use Rattle.page_wording.specs.Names.{article_of, article_up_to}
use Rattle.page_figures.specs.Shown.{quote_of}

-- what a page needs to know of a sheet
pub record Rules : Type 0 where
  pub tables : Tables
  pub quote : Quote
  pub article : ℕ → Option Article

-- the tables, and what the market tells
abbrev pub tables_in : Rules → Tables
tables_in b = b.tables

-- what its market tells
abbrev pub quote_in : Rules → Quote
quote_in b = b.quote

-- those of the values of a sheet
abbrev pub rules_by : Rates → Rules
rules_by (share s) = record { tables = share_tables (share_quote s); quote = share_quote s; article = article_up_to 6 share_article }
rules_by (currency c) = record { tables = currency_tables (currency_quote c); quote = currency_quote c; article = article_up_to 5 currency_article }

-- those of a sheet
abbrev pub rules_on : Sheet → Rules
rules_on sheet = record { tables = sheet_tables sheet; quote = quote_of sheet; article = article_of sheet }
