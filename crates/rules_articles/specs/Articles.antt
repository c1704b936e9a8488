-- The articles: the legs in their order, the conditions in the order of their causes, and the requirement.
use Rattle.std.specs.Prelude.{ℕ, Ok, Result}
use Rattle.rules_market.specs.Quote.{Quote}
use Rattle.rules_positions.specs.declared.Side.{Side}
use Rattle.rules_positions.specs.declared.Side.TheVariants.{Long, Short}
use Rattle.rules_positions.specs.declared.Kind.TheVariants.{Units, Call, Put, Futures, Receipt}
use Rattle.rules_positions.specs.Kinds.{other_side}
use Rattle.rules_positions.specs.Records.{Terms}
use Rattle.rules_pricing.specs.declared.Right.{Right}
use Rattle.rules_pricing.specs.Kinds.{kind_of_right}
use Rattle.rules_pricing.specs.Alone.{positive_part}
use Rattle.rules_articles.specs.declared.Leg.TheVariants.{First, Second, Third}
use Rattle.rules_articles.specs.declared.ArticleFault.{ArticleFault}
use Rattle.rules_articles.specs.Conditions.{leg_is, not_later, same_days, tracked, and_then}
use Rattle.rules_articles.specs.Sets.{spread_amount, straddle_amount, protective_put_amount, conversion_amount, reconversion_amount}
use Rattle.rules_pricing.specs.Priced.{Priced}

-- 1 (calls) and 2 (puts). A spread: long option, short option, the short one's days not above the long one's
abbrev pub spread : Priced → Right → Terms → Terms → Result ℕ ArticleFault
spread c r long short =
    and_then (leg_is First Long (kind_of_right r) long) (λ _.
    and_then (leg_is Second Short (kind_of_right r) short) (λ _.
    and_then (not_later long short) (λ _.
    Ok (spread_amount c r long short))))

-- 3. A straddle: short call, short put
abbrev pub straddle : Priced → Terms → Terms → Result ℕ ArticleFault
straddle c call put =
    and_then (leg_is First Short Call call) (λ _.
    and_then (leg_is Second Short Put put) (λ _.
    Ok (straddle_amount c call put)))

-- 4. A protective put: long put, long units
abbrev pub protective_put : Priced → Terms → Terms → Result ℕ ArticleFault
protective_put c put units =
    and_then (leg_is First Long Put put) (λ _.
    and_then (leg_is Second Long Units units) (λ _.
    Ok (protective_put_amount c put)))

-- put and futures of one side, the call of the other, all days equal; and the tracked amount of a unit
abbrev pub aligned : Quote → Side → Terms → Terms → Terms → Result ℕ ArticleFault
aligned q side put call futures =
    and_then (leg_is First side Put put) (λ _.
    and_then (leg_is Second (other_side side) Call call) (λ _.
    and_then (leg_is Third side Futures futures) (λ _.
    and_then (same_days put call futures) (λ _.
    tracked q))))

-- 5 of the share book. A conversion: long put, short call, long futures, days equal
abbrev pub conversion : Priced → Terms → Terms → Terms → Result ℕ ArticleFault
conversion c put call futures =
    and_then (aligned c.quote Long put call futures) (λ t. Ok (positive_part (conversion_amount c.size t put call futures)))

-- 6 of the share book. A reconversion: short put, long call, short futures, days equal
abbrev pub reconversion : Priced → Terms → Terms → Terms → Result ℕ ArticleFault
reconversion c put call futures =
    and_then (aligned c.quote Short put call futures) (λ t. Ok (positive_part (reconversion_amount c.size t put call futures)))

-- either, by the side of the put and of the futures
abbrev pub converted : Priced → Side → Terms → Terms → Terms → Result ℕ ArticleFault
converted c Long = conversion c
converted c Short = reconversion c

-- 5 of the currency book. A call on an escrow receipt: short call, receipt; nothing is required
abbrev pub receipt_call : Terms → Terms → Result ℕ ArticleFault
receipt_call call receipt =
    and_then (leg_is First Short Call call) (λ _.
    and_then (leg_is Second Long Receipt receipt) (λ _.
    Ok 0))
