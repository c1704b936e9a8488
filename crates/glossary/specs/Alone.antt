-- The worked figures of amounts and of positions alone as text: in each the words, and the definition at the same numbers.
use Rattle.std.specs.Prelude.{ℕ, ◌*◌, List, ◌++◌, codes, decimal}
use Rattle.rules_market.specs.Quote.{Quote}
use Rattle.rules_positions.specs.declared.Side.TheVariants.{Long, Short}
use Rattle.rules_positions.specs.declared.Kind.TheVariants as kind
use Rattle.rules_pricing.specs.declared.Right.TheVariants.{Call, Put}
use Rattle.rules_pricing.specs.Options.{in_the_money, out_of_the_money, time_value, counted_time_value, long_option, before_floor, floor_amount}
use Rattle.rules_pricing.specs.Alone.{units, futures, alone}
use Rattle.rules_articles.specs.Sets.{short_alone}
use Rattle.rules_priced_examples.specs.Examples.{held}
use Rattle.page_money.specs.Texts.{dollars_text}
use Rattle.glossary.specs.Words.{parts_text, cents_text}
use Rattle.rules_pricing.specs.Priced.{Priced}

-- part
abbrev pub part_figure : Quote → List ℕ
part_figure q =
    codes "Of 1.25, the floor rate of " ++ (decimal q.floor
    ++ (codes " basis points: " ++ (decimal (q.floor * 125)
    ++ (codes " parts, which are " ++ (parts_text (q.floor * 125)
    ++ codes ".")))))

-- requirement
abbrev pub requirement_figure : Priced → List ℕ
requirement_figure c =
    codes "A short call of strike 55.00 at 1.20, on " ++ (decimal c.size
    ++ (codes " units at " ++ (cents_text c.quote.price
    ++ (codes ": " ++ (parts_text (alone c (held Short kind.Call 5500 100 120))
    ++ codes ".")))))

-- long requirement
abbrev pub long_requirement_figure : Quote → List ℕ
long_requirement_figure q =
    codes "A unit at " ++ (cents_text q.price
    ++ (codes ": " ++ (parts_text (units q Long)
    ++ codes ".")))

-- short requirement
abbrev pub short_requirement_figure : Quote → List ℕ
short_requirement_figure q =
    codes "A unit at " ++ (cents_text q.price
    ++ (codes ": " ++ (parts_text (units q Short)
    ++ codes ".")))

-- in the money
abbrev pub in_the_money_figure : Quote → List ℕ
in_the_money_figure q =
    codes "At " ++ (cents_text q.price
    ++ (codes ", a call of strike 45.00: " ++ (cents_text (in_the_money Call 4500 q.price)
    ++ (codes "; a put of strike 53.00: " ++ (cents_text (in_the_money Put 5300 q.price)
    ++ codes ".")))))

-- out of the money
abbrev pub out_of_the_money_figure : Quote → List ℕ
out_of_the_money_figure q =
    codes "At " ++ (cents_text q.price
    ++ (codes ", a call of strike 55.00: " ++ (cents_text (out_of_the_money Call 5500 q.price)
    ++ (codes "; a put of strike 48.00: " ++ (cents_text (out_of_the_money Put 4800 q.price)
    ++ codes ".")))))

-- time value
abbrev pub time_value_figure : Quote → List ℕ
time_value_figure q =
    codes "At " ++ (cents_text q.price
    ++ (codes ", a call of strike 45.00 at a premium of 6.20: " ++ (cents_text (time_value 620 (in_the_money Call 4500 q.price))
    ++ codes ".")))

-- counted time value
abbrev pub counted_time_value_figure : Quote → List ℕ
counted_time_value_figure q =
    codes "Of that call: " ++ (parts_text (counted_time_value (time_value 620 (in_the_money Call 4500 q.price)) 269)
    ++ (codes " with 269 days to expiry, " ++ (parts_text (counted_time_value (time_value 620 (in_the_money Call 4500 q.price)) 270)
    ++ codes " with 270.")))

-- long option
abbrev pub long_option_figure : Priced → List ℕ
long_option_figure c =
    codes "That call, long, on " ++ (decimal c.size
    ++ (codes " units: " ++ (parts_text (long_option c Call (held Long kind.Call 4500 269 620))
    ++ (codes " with 269 days to expiry, " ++ (parts_text (long_option c Call (held Long kind.Call 4500 270 620))
    ++ codes " with 270.")))))

-- short option
abbrev pub short_option_figure : Priced → List ℕ
short_option_figure c =
    codes "A short call of strike 55.00 at 1.20: " ++ (parts_text (short_alone c Call (held Short kind.Call 5500 100 120))
    ++ (codes ". A short call of strike 90.00 at 0.05: " ++ (parts_text (short_alone c Call (held Short kind.Call 9000 100 5))
    ++ codes ".")))

-- floor amount
abbrev pub floor_amount_figure : Priced → List ℕ
floor_amount_figure c =
    codes "That of the short call of strike 90.00 at 0.05: " ++ (parts_text (floor_amount c Call (held Short kind.Call 9000 100 5))
    ++ (codes ". Its other amount is " ++ (dollars_text (before_floor c Call (held Short kind.Call 9000 100 5))
    ++ codes ".")))

-- futures
abbrev pub futures_figure : Priced → List ℕ
futures_figure c =
    codes "At a settlement of 50.60, on " ++ (decimal c.size
    ++ (codes " units: " ++ (parts_text (futures c 5060)
    ++ codes ".")))

-- escrow receipt
abbrev pub escrow_receipt_figure : Priced → List ℕ
escrow_receipt_figure c =
    codes "A receipt: " ++ (parts_text (alone c (held Long kind.Receipt 0 0 0))
    ++ codes ".")
