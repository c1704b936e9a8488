-- The claims standing on the page.
use Rattle.std.specs.Prelude.{ℕ, List, ◌++◌, length, pos, Some, None, codes, decimal, Option, cond, ◌==◌}
use Rattle.rules_positions.specs.declared.record.Record.{Record}
use Rattle.rules_articles.specs.declared.Article.{Article}
use Rattle.rules_articles.specs.declared.Article.TheVariants.{CallSpread, PutSpread, Straddle, ProtectivePut, Conversion, Reconversion, ReceiptCall}
use Rattle.certificate_pairing.specs.declared.Claim.{Claim}
use Rattle.certificate_pairing.specs.Dockets.{Tally, docket_by, Docket}
use Rattle.page_workings.specs.declared.RuleTerm.{RuleTerm}
use Rattle.page_workings.specs.declared.RuleTerm.TheVariants.{ShortOption, StrikeDifference, ShortCall, ShortPut, PutStrikeAboveCall, LongUnits, PriceAndPremiumLessStrike, TrackedAmount, ConversionDifference, NothingRequired}
use Rattle.page_workings.specs.declared.TermAmount.{TermAmount}
use Rattle.page_figures.specs.declared.ClaimFigures.{ClaimFigures}
use Rattle.page_figures.specs.Shown.{claim_figures, claim_term}
use Rattle.page_wording.specs.Names.{article_name}
use Rattle.page_statement.specs.Rules.{Rules, tables_in, quote_in}
use Rattle.page_statement.specs.Columns.{left_text, number_text, amount_text, dash_text, rows_text}

-- the difference of a conversion or of a reconversion
abbrev pub difference_words : Article → List ℕ
difference_words CallSpread = codes "the difference of the conversion"
difference_words PutSpread = codes "the difference of the conversion"
difference_words Straddle = codes "the difference of the conversion"
difference_words ProtectivePut = codes "the difference of the conversion"
difference_words Conversion = codes "the difference of the conversion"
difference_words Reconversion = codes "the difference of the reconversion"
difference_words ReceiptCall = codes "the difference of the conversion"

-- a term of an article's rule
abbrev pub term_words : Article → RuleTerm → List ℕ
term_words article ShortOption = codes "the short option alone"
term_words article StrikeDifference = codes "the difference of the strikes"
term_words article ShortCall = codes "the short call alone"
term_words article ShortPut = codes "the short put alone"
term_words article PutStrikeAboveCall = codes "the put's strike above the call's"
term_words article LongUnits = codes "the long units"
term_words article PriceAndPremiumLessStrike = codes "price and premium less the strike"
term_words article TrackedAmount = codes "the tracked amount"
term_words article ConversionDifference = difference_words article
term_words article NothingRequired = codes "nothing is required"

-- the legs by the numbers of their positions
unfoldable pub legs_text : Claim → List ℕ
legs_text c =
    cond (c.third == 0)
    (decimal c.first ++ (codes ", " ++ decimal c.second))
    (decimal c.first ++ (codes ", " ++ (decimal c.second ++ (codes ", " ++ decimal c.third))))

-- the name of an article, or a dash
abbrev pub article_words : Option Article → List ℕ
article_words (Some article) = article_name article
article_words None = codes "-"

-- a term under an article, or a dash
abbrev pub term_or_dash : Article → Option TermAmount → List ℕ
term_or_dash article (Some x) = term_words article x.term
term_or_dash article None = codes "-"

-- the term that gives the requirement of a set under an article, or a dash
abbrev pub term_under : Docket Rules → Claim → Option Article → List ℕ
term_under d c (Some article) = term_or_dash article (claim_term (docket_by quote_in d) article c)
term_under d c None = codes "-"

-- what a set requires, or a dash
abbrev pub set_text : Option ClaimFigures → List ℕ
set_text (Some f) = amount_text 16 (pos f.set)
set_text None = dash_text 16

-- the row of what a claim is of, by its number, with the term that gives the requirement of a set
unfoldable pub claim_row : Docket Rules → ℕ → Claim → List ℕ
claim_row d number c =
    number_text 2 number
    ++ (codes " " ++ (left_text 25 (article_words (d.book.article c.article))
    ++ (codes " " ++ (left_text 10 (legs_text c)
    ++ (codes " " ++ (number_text 4 c.sets
    ++ (codes " " ++ (set_text (claim_figures (docket_by tables_in d) c)
    ++ (codes "  " ++ (term_under d c (d.book.article c.article) ++ codes "\n"))))))))))

-- what a claim requires: its sets, the same units alone, and how much less the sets require
abbrev pub amount_columns : Option ClaimFigures → List ℕ
amount_columns (Some f) = amount_text 21 (pos f.all_sets) ++ (codes " " ++ (amount_text 22 (pos f.alone) ++ (codes " " ++ amount_text 22 f.saved)))
amount_columns None = dash_text 21 ++ (codes " " ++ (dash_text 22 ++ (codes " " ++ dash_text 22)))

-- the row of what a claim requires, by its number
unfoldable pub amount_row : Docket Rules → ℕ → Claim → List ℕ
amount_row d number c =
    number_text 2 number ++ (codes " " ++ (amount_columns (claim_figures (docket_by tables_in d) c) ++ codes "\n"))

-- the headings and all claims, twice: what each is of, and what it requires
unfoldable pub claims_table : Docket Rules → List ℕ
claims_table d =
    codes "\nClaims\n\nNo Article                   Legs       Sets          One set  By the term\n"
    ++ (rows_text (claim_row d) 1 d.tally.claims
    ++ (codes "\nNo      All sets require      Their units alone                  Saved\n"
    ++ rows_text (amount_row d) 1 d.tally.claims))

-- the word none where no claim stands, else the two tables
unfoldable pub claims_section : Docket Rules → List ℕ
claims_section d = cond (length d.tally.claims == 0) (codes "\nClaims\n\n  none\n") (claims_table d)
