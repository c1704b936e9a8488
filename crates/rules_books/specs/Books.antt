-- The tables of the share book and of the currency book.
use Rattle.std.specs.Prelude.{ℕ, cond, map, ◌==◌}
use Rattle.std.specs.Result.{result_map_both}
use Rattle.rules_market.specs.Quote.{Quote}
use Rattle.rules_market.specs.Share.{share_quote, shares_on}
use Rattle.rules_market.specs.Currency.{currency_quote, currency_on}
use Rattle.rules_positions.specs.Records.{terms}
use Rattle.rules_pricing.specs.Alone.{alone}
use Rattle.rules_articles.specs.declared.Article.{Article}
use Rattle.rules_articles.specs.declared.Article.TheVariants.{CallSpread, PutSpread, Straddle, ProtectivePut, Conversion, Reconversion, ReceiptCall}
use Rattle.rules_articles.specs.declared.ArticleFault.{ArticleFault}
use Rattle.rules_articles.specs.Causes.{article_cause_number, cause_leg}
use Rattle.rules_articles.specs.ByArticle.{leg_count, requirement_of}
use Rattle.rules_books.specs.declared.BookFault.{BookFault}
use Rattle.rules_books.specs.Tables.{Tables}
use Rattle.rules_books.specs.declared.sheets.Sheet.{Sheet}
use Rattle.rules_books.specs.declared.sheets.Sheet.TheVariants.{Share, Currency}
use Rattle.rules_pricing.specs.Priced.{contracts_of}

-- articles 1 to 4 are common to both books
abbrev pub common_or : Article → ℕ → Article
common_or last number =
    cond (number == 1) CallSpread (cond (number == 2) PutSpread (cond (number == 3) Straddle (cond (number == 4) ProtectivePut last)))

-- the share book has 5 and 6 besides
abbrev pub share_article : ℕ → Article
share_article number = common_or (cond (number == 5) Conversion Reconversion) number

-- the currency book has 5 besides
abbrev pub currency_article : ℕ → Article
currency_article number = common_or ReceiptCall number

-- an article's cause is the book's: its number and its leg
abbrev pub raised : ArticleFault → BookFault
raised fault = record { cause = article_cause_number fault; leg = cause_leg fault }

-- a book of so many articles over a market
abbrev pub tables_over : ℕ → (ℕ → Article) → Quote → Tables
tables_over count article q = record {
  articles = count;
  legs = λ number. leg_count (article number);
  alone = λ size r. alone (contracts_of q size) (terms r);
  paired = λ size number legs. result_map_both (λ parts. parts) raised (requirement_of (contracts_of q size) (article number) (map terms legs));
}

-- six articles for shares
abbrev pub share_tables : Quote → Tables
share_tables q = tables_over 6 share_article q

-- five articles for a currency
abbrev pub currency_tables : Quote → Tables
currency_tables q = tables_over 5 currency_article q

-- either sheet's book
abbrev pub sheet_tables : Sheet → Tables
sheet_tables (Share s) = share_tables (share_quote (shares_on s))
sheet_tables (Currency c) = currency_tables (currency_quote (currency_on c))

-- either sheet's articles
abbrev pub sheet_article : Sheet → ℕ → Article
sheet_article (Share s) = share_article
sheet_article (Currency c) = currency_article
