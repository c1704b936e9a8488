-- What the lines before one describe.
use Rattle.std.specs.Prelude.{ℕ, List, length, Some, None, Ok, Err, Option, Result}
use Rattle.rules_articles.specs.declared.Article.{Article}
use Rattle.rules_books.specs.Books.{share_article, currency_article}
use Rattle.certificate_pairing.specs.Dockets.{Docket, docket_of, docket_by}
use Rattle.file_head.specs.declared.faults.ReadFault.{ReadFault}
use Rattle.file_head.specs.Rates.{Rates, share, currency, rates_on}
use Rattle.file_reading.specs.declared.Content.{Content as ReadContent}
use Rattle.file_body.specs.Files.{Content, read_file}
use Rattle.page_wording.specs.Lines.{before_line}
use Rattle.page_wording.specs.Names.{article_up_to}

-- a docket, by the values of its sheet, and how many marks
pub record Before : Type 0 where
  pub docket : Docket Rates
  pub marks : ℕ

-- that of a file's content
abbrev pub before_of : Content → Before
before_of c = record { docket = docket_of c.rates c.size c.tally; marks = length c.marks }

-- that of a file that is read, if it is accepted
abbrev pub before_accepted : Result Content ReadFault → Option Before
before_accepted (Ok c) = Some (before_of c)
before_accepted (Err f) = None

-- what the lines before one describe; none where they are no file that is accepted, as before a line of the head
abbrev pub before : List ℕ → ℕ → Option Before
before file number = before_accepted (read_file (before_line file number))

-- that of what was read, in code
abbrev pub before_in : ReadContent → Before
before_in x = record { docket = docket_by rates_on x.docket; marks = x.marks }

-- the article of a number in the book of a sheet's values
abbrev pub article_by : Rates → ℕ → Option Article
article_by (share s) number = article_up_to 6 share_article number
article_by (currency c) number = article_up_to 5 currency_article number
