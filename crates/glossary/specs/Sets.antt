-- The worked figures of sets as text: in each the words, and the definition at the same numbers.
use Rattle.std.specs.Prelude.{ℕ, List, ◌++◌, codes, decimal}
use Rattle.rules_market.specs.Quote.{Quote}
use Rattle.rules_positions.specs.declared.Side.TheVariants.{Long, Short}
use Rattle.rules_positions.specs.declared.Kind.TheVariants.{Units, Call, Put, Futures, Receipt}
use Rattle.rules_pricing.specs.declared.Right.TheVariants as right
use Rattle.rules_articles.specs.Articles.{spread, straddle, protective_put, conversion, reconversion, receipt_call}
use Rattle.certificate_pairing.specs.Pairing.{of_leg}
use Rattle.rules_priced_examples.specs.Examples.{held}
use Rattle.glossary.specs.Words.{cents_text, required_text}
use Rattle.rules_pricing.specs.Priced.{Priced}

-- set
abbrev pub set_figure : ℕ → List ℕ
set_figure s =
    codes "A set of a put and units takes " ++ (decimal (of_leg s Put)
    ++ (codes " put and " ++ (decimal (of_leg s Units)
    ++ codes " units.")))

-- spread
abbrev pub spread_figure : Priced → List ℕ
spread_figure c =
    codes "A long call of strike 55.00 at 1.20, a short call of strike 50.00 at 3.00: " ++ (required_text (spread c right.Call (held Long Call 5500 100 120) (held Short Call 5000 100 300))
    ++ codes ".")

-- straddle
abbrev pub straddle_figure : Priced → List ℕ
straddle_figure c =
    codes "A short call of strike 55.00 at 1.20, a short put of strike 52.00 at 3.50: " ++ (required_text (straddle c (held Short Call 5500 100 120) (held Short Put 5200 100 350))
    ++ codes ".")

-- protective put
abbrev pub protective_put_figure : Priced → List ℕ
protective_put_figure c =
    codes "A long put of strike 48.00 at 1.50, " ++ (decimal c.size
    ++ (codes " units at " ++ (cents_text c.quote.price
    ++ (codes ": " ++ (required_text (protective_put c (held Long Put 4800 100 150) (held Long Units 0 0 0))
    ++ codes ".")))))

-- conversion
abbrev pub conversion_figure : Priced → List ℕ
conversion_figure c =
    codes "A put of strike 50.00 at 1.80, a call of strike 51.00 at 1.40, futures at 50.60: " ++ (required_text (conversion c (held Long Put 5000 100 180) (held Short Call 5100 100 140) (held Long Futures 0 100 5060))
    ++ codes ".")

-- reconversion
abbrev pub reconversion_figure : Priced → List ℕ
reconversion_figure c =
    codes "A put of strike 50.00 at 1.80, a call of strike 51.00 at 1.40, futures at 50.60: " ++ (required_text (reconversion c (held Short Put 5000 100 180) (held Long Call 5100 100 140) (held Short Futures 0 100 5060))
    ++ codes ".")

-- call on an escrow receipt
abbrev pub receipt_call_figure : List ℕ
receipt_call_figure =
    codes "On a currency, a short call of strike 55.00 at 1.20 and a receipt: " ++ (required_text (receipt_call (held Short Call 5500 100 120) (held Long Receipt 0 0 0))
    ++ codes ".")
