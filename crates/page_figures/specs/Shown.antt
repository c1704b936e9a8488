-- The figures of a docket's page.
use Rattle.std.specs.Prelude.{◌≡◌, ℕ, ◌+◌, ◌*◌, ◌^◌, cond, List, [], ◌∷◌, length, map, ℤ, pos, ◌-ℤ◌, int_lt, Some, None, Option, Result}
use Rattle.std.specs.Option.{option_map}
use Rattle.std.specs.Result.{result_ok}
use Rattle.rules_amounts.specs.Ranges.{inside}
use Rattle.rules_positions.specs.declared.record.Record.{Record}
use Rattle.rules_positions.specs.Records.{Terms, terms}
use Rattle.rules_market.specs.Quote.{Quote}
use Rattle.rules_market.specs.Share.{share_quote, shares_on}
use Rattle.rules_market.specs.Currency.{currency_quote, currency_on}
use Rattle.rules_pricing.specs.declared.Right.{Right}
use Rattle.rules_pricing.specs.Options.{in_the_money, out_of_the_money, time_value_of, counted_time_value}
use Rattle.rules_articles.specs.declared.Article.{Article}
use Rattle.rules_articles.specs.declared.ArticleFault.{ArticleFault}
use Rattle.rules_books.specs.declared.sheets.Sheet.{Sheet}
use Rattle.rules_books.specs.declared.sheets.Sheet.TheVariants.{Share, Currency}
use Rattle.rules_books.specs.Tables.{Tables}
use Rattle.certificate_pairing.specs.declared.Claim.{Claim}
use Rattle.certificate_pairing.specs.Pairing.{at, lot}
use Rattle.certificate_pairing.specs.Claims.{legs_of}
use Rattle.certificate_certify.specs.Totals.{claim_requirement, free}
use Rattle.certificate_pairing.specs.Dockets.{Tally, Docket}
use Rattle.page_workings.specs.declared.TermAmount.{TermAmount}
use Rattle.page_workings.specs.declared.OptionWorking.{OptionWorking}
use Rattle.page_workings.specs.Options.{portion_of, short_by_side}
use Rattle.page_workings.specs.Rules.{ruling_term}
use Rattle.page_figures.specs.declared.FreeFigures.{FreeFigures}
use Rattle.page_figures.specs.declared.ClaimFigures.{ClaimFigures}
use Rattle.rules_pricing.specs.Priced.{Priced, contracts_of}

-- the units of a position that no claim takes; of a number that no position has, none
abbrev pub free_units : {B : Type 0} → Docket B → ℕ → ℕ
free_units d p = cond (inside 1 (length d.tally.held) p) (free d p) 0

-- what one unit or contract requires alone, the free units, and what those require alone
abbrev pub free_of : ℕ → ℕ → FreeFigures
free_of alone units = record { alone = alone; free = units; amount = alone * units }

-- the figures of a position, by its number
abbrev pub free_figures : Docket Tables → ℕ → FreeFigures
free_figures d p = free_of (d.book.alone d.size (at d.tally.held p)) (free_units d p)

-- what a set takes of a leg, at its requirement alone
abbrev pub leg_alone : Docket Tables → ℕ → ℕ
leg_alone d p = lot d.size d.tally.held p * d.book.alone d.size (at d.tally.held p)

-- what a set takes of all its legs, at their requirements alone
abbrev pub legs_alone : Docket Tables → List ℕ → ℕ
legs_alone d [] = 0
legs_alone d (p ∷ ps) = leg_alone d p + legs_alone d ps

-- of so many sets: what one requires, what all require, what the same units require alone, and how much less the sets require
abbrev pub claim_figures_of : ℕ → ℕ → ℕ → ClaimFigures
claim_figures_of sets alone set = record { set = set; all_sets = sets * set; alone = sets * alone; saved = pos (sets * alone) -ℤ pos (sets * set) }

-- the figures of a claim of 1 to 5,000 sets that the book knows and does not refuse; else none
abbrev pub claim_figures : Docket Tables → Claim → Option ClaimFigures
claim_figures d c =
    cond (inside 1 5000 c.sets) (option_map (claim_figures_of c.sets (legs_alone d (legs_of c))) (claim_requirement d c)) None

-- what a sheet's market tells
abbrev pub quote_of : Sheet → Quote
quote_of (Share s) = share_quote (shares_on s)
quote_of (Currency c) = currency_quote (currency_on c)

-- the parts of an option, each as it is priced
pub record ShowsOption (c : Priced) (right : Right) (o : Terms) (w : OptionWorking) : Type 0 where
  pub in_the_money : w.in_the_money.amount ≡ in_the_money right o.strike c.quote.price
  pub out_of_the_money : w.out_of_the_money.amount ≡ out_of_the_money right o.strike c.quote.price
  pub time_value : w.time_value.amount ≡ time_value_of c.quote right o
  pub portion : w.portion ≡ portion_of o.days
  pub counted : w.counted_time_value ≡ counted_time_value (time_value_of c.quote right o) o.days
  pub short : w.short ≡ short_by_side c right o o.side

-- the term that gives the requirement of a claim's set, or why the article refuses it
abbrev pub claim_term_or_fault : Docket Quote → Article → Claim → Result TermAmount ArticleFault
claim_term_or_fault d article c = ruling_term (contracts_of d.book d.size) article (map terms (map (at d.tally.held) (legs_of c)))

-- that term; none where the article refuses the set
abbrev pub claim_term : Docket Quote → Article → Claim → Option TermAmount
claim_term d article c = result_ok (claim_term_or_fault d article c)

-- how far the floor lies under the total; none where a signed number of 128 bits does not hold it
abbrev pub gap_of : ℕ → ℤ → Option ℤ
gap_of total floor = cond (int_lt (pos total -ℤ floor) (pos (2 ^ 127))) (Some (pos total -ℤ floor)) None
