-- Names of what a docket has, and the articles of a sheet's book by their numbers.
use Rattle.std.specs.Prelude.{ℕ, cond, List, Some, None, codes, Option, ◌==◌}
use Rattle.rules_positions.specs.declared.Side.{Side}
use Rattle.rules_positions.specs.declared.Side.TheVariants.{Long, Short}
use Rattle.rules_positions.specs.declared.Kind.{Kind}
use Rattle.rules_positions.specs.declared.Kind.TheVariants.{Units, Call, Put, Futures, Receipt}
use Rattle.rules_books.specs.Ranges.{inside}
use Rattle.rules_articles.specs.declared.Article.{Article}
use Rattle.rules_articles.specs.declared.Article.TheVariants.{CallSpread, PutSpread, Straddle, ProtectivePut, Conversion, Reconversion, ReceiptCall}
use Rattle.rules_books.specs.declared.sheets.Sheet.{Sheet}
use Rattle.rules_books.specs.declared.sheets.Sheet.TheVariants.{Share, Currency}
use Rattle.rules_books.specs.Books.{share_article, currency_article}

-- a side
abbrev pub side_name : Side → List ℕ
side_name Long = codes "long"
side_name Short = codes "short"

-- a kind
abbrev pub kind_name : Kind → List ℕ
kind_name Units = codes "units"
kind_name Call = codes "call"
kind_name Put = codes "put"
kind_name Futures = codes "futures"
kind_name Receipt = codes "receipt"

-- an article
abbrev pub article_name : Article → List ℕ
article_name CallSpread = codes "call spread"
article_name PutSpread = codes "put spread"
article_name Straddle = codes "straddle"
article_name ProtectivePut = codes "protective put"
article_name Conversion = codes "conversion"
article_name Reconversion = codes "reconversion"
article_name ReceiptCall = codes "call on an escrow receipt"

-- the article of a number from 1 to the last, else none
abbrev pub article_up_to : ℕ → (ℕ → Article) → ℕ → Option Article
article_up_to last numbered number = cond (inside 1 last number) (Some (numbered number)) None

-- the share book has six articles, and the currency book five
abbrev pub article_of : Sheet → ℕ → Option Article
article_of (Share s) number = article_up_to 6 share_article number
article_of (Currency c) number = article_up_to 5 currency_article number

-- the number of a field or of a leg, in a word
abbrev pub ordinal : ℕ → List ℕ
ordinal number =
    cond (number == 1) (codes "first")
    (cond (number == 2) (codes "second")
    (cond (number == 3) (codes "third")
    (cond (number == 4) (codes "fourth")
    (cond (number == 5) (codes "fifth")
    (cond (number == 6) (codes "sixth")
    (codes "last"))))))
