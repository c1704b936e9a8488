-- The rules of the articles, term by term: which term gives a set's requirement, and what it comes to.
use Rattle.std.specs.Prelude.{ℕ, ◌+◌, ◌-◌, ◌*◌, min, max, cond, List, [], ◌∷◌, ℤ, pos, Ok, Err, Result, int_lt}
use Rattle.std.specs.Result.{result_unwrap_or}
use Rattle.rules_market.specs.Quote.{tracked_of}
use Rattle.rules_positions.specs.Records.{Terms}
use Rattle.rules_pricing.specs.declared.Right.{Right}
use Rattle.rules_pricing.specs.declared.Right.TheVariants.{Call, Put}
use Rattle.rules_articles.specs.declared.Article.{Article}
use Rattle.rules_articles.specs.declared.Article.TheVariants as article
use Rattle.rules_articles.specs.declared.ArticleFault.{ArticleFault}
use Rattle.rules_articles.specs.Sets.{short_alone, contract, apart, signed_contract}
use Rattle.rules_articles.specs.ByArticle.{requirement_of}
use Rattle.page_workings.specs.declared.RuleTerm.{RuleTerm}
use Rattle.page_workings.specs.declared.RuleTerm.TheVariants.{ShortOption, StrikeDifference, ShortCall, ShortPut, PutStrikeAboveCall, LongUnits, PriceAndPremiumLessStrike, TrackedAmount, ConversionDifference, NothingRequired}
use Rattle.page_workings.specs.declared.TermAmount.{TermAmount}
use Rattle.rules_pricing.specs.Priced.{Priced}

-- a term and what it comes to, in parts
abbrev pub term_amount : RuleTerm → ℤ → TermAmount
term_amount term parts = record { term = term; parts = parts }

-- the lesser of two, the first where they are equal
abbrev pub lesser : TermAmount → TermAmount → TermAmount
lesser first second = cond (int_lt second.parts first.parts) second first

-- the greater of two, the first where they are equal
abbrev pub greater : TermAmount → TermAmount → TermAmount
greater first second = cond (int_lt first.parts second.parts) second first

-- a spread: the lesser of the short option alone and the strikes' difference
abbrev pub spread_term : Priced → Right → Terms → Terms → TermAmount
spread_term c right long short =
    lesser
    (term_amount ShortOption (pos (short_alone c right short)))
    (term_amount StrikeDifference (pos (contract c.size (apart long.strike short.strike))))

-- a straddle: the greatest of the call alone, the put alone, and the put's strike above the call's
abbrev pub straddle_term : Priced → Terms → Terms → TermAmount
straddle_term c call put =
    greater
    (greater
    (term_amount ShortCall (pos (short_alone c Call call)))
    (term_amount ShortPut (pos (short_alone c Put put))))
    (term_amount PutStrikeAboveCall (pos (contract c.size (put.strike - call.strike))))

-- a protective put: the lesser of a contract's long units and the price plus the premium less the strike
abbrev pub protective_put_term : Priced → Terms → TermAmount
protective_put_term c put =
    lesser
    (term_amount LongUnits (pos (c.size * c.quote.long)))
    (term_amount PriceAndPremiumLessStrike (pos (contract c.size (c.quote.price + put.price - put.strike))))

-- the tracked amount; where there is no tracking rate, which an article refuses, 0
abbrev pub tracked_term : Priced → TermAmount
tracked_term c = term_amount TrackedAmount (pos (c.size * result_unwrap_or (tracked_of c.quote) 0))

-- a conversion: the greater of the tracked amount and settlement − lesser strike + put premium − call premium
abbrev pub conversion_term : Priced → Terms → Terms → Terms → TermAmount
conversion_term c put call futures =
    greater
    (tracked_term c)
    (term_amount ConversionDifference (signed_contract c.size (futures.price + put.price) (min put.strike call.strike + call.price)))

-- a reconversion: the greater of the tracked amount and greater strike − settlement + call premium − put premium
abbrev pub reconversion_term : Priced → Terms → Terms → Terms → TermAmount
reconversion_term c put call futures =
    greater
    (tracked_term c)
    (term_amount ConversionDifference (signed_contract c.size (max put.strike call.strike + call.price) (futures.price + put.price)))

-- a call on an escrow receipt requires nothing
abbrev pub nothing_required : TermAmount
nothing_required = term_amount NothingRequired (pos 0)

-- the articles of two legs
abbrev pub term_of_two : Priced → Article → Terms → Terms → TermAmount
term_of_two c article.CallSpread a b = spread_term c Call a b
term_of_two c article.PutSpread a b = spread_term c Put a b
term_of_two c article.Straddle a b = straddle_term c a b
term_of_two c article.ProtectivePut a b = protective_put_term c a
term_of_two c article.Conversion a b = nothing_required
term_of_two c article.Reconversion a b = nothing_required
term_of_two c article.ReceiptCall a b = nothing_required

-- the articles of three legs
abbrev pub term_of_three : Priced → Article → Terms → Terms → Terms → TermAmount
term_of_three c article.CallSpread first second third = nothing_required
term_of_three c article.PutSpread first second third = nothing_required
term_of_three c article.Straddle first second third = nothing_required
term_of_three c article.ProtectivePut first second third = nothing_required
term_of_three c article.Conversion first second third = conversion_term c first second third
term_of_three c article.Reconversion first second third = reconversion_term c first second third
term_of_three c article.ReceiptCall first second third = nothing_required

-- by the number of legs; an article refuses any other number
abbrev pub rule_term : Priced → Article → List Terms → TermAmount
rule_term c article [] = nothing_required
rule_term c article (first ∷ []) = nothing_required
rule_term c article (first ∷ second ∷ []) = term_of_two c article first second
rule_term c article (first ∷ second ∷ third ∷ []) = term_of_three c article first second third
rule_term c article (first ∷ second ∷ third ∷ d ∷ more) = nothing_required

-- a term of a set that an article does not refuse, else its fault
abbrev pub unless_refused : Result ℕ ArticleFault → TermAmount → Result TermAmount ArticleFault
unless_refused (Ok parts) term = Ok term
unless_refused (Err fault) term = Err fault

-- the term that gives a set's requirement under an article, or why the set is refused
abbrev pub ruling_term : Priced → Article → List Terms → Result TermAmount ArticleFault
ruling_term c article legs = unless_refused (requirement_of c article legs) (rule_term c article legs)
