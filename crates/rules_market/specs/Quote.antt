-- What a market tells, and the limits that it keeps.
use Rattle.std.specs.Prelude.{ℕ, ◌*◌, ◌≤◌, Some, None, Ok, Err, Option, Result}
use Rattle.std.specs.Result.{result_map_both}
use Rattle.rules_amounts.specs.declared.cents.Cents.{Cents}
use Rattle.rules_amounts.specs.declared.rate.Rate.{Rate}
use Rattle.rules_market.specs.declared.MarketFault.{MarketFault}
use Rattle.rules_market.specs.declared.MarketFault.TheVariants.{NoTracking}

-- the price in cents, the long and the short requirement of one unit in parts, and rates in basis points
pub record Quote : Type 0 where
  pub price : ℕ
  pub long : ℕ
  pub short : ℕ
  pub option : ℕ
  pub floor : ℕ
  pub futures : Option ℕ
  pub tracking : Option ℕ

-- a rate, if there is one, is at most so much
abbrev pub AtMost : ℕ → Option ℕ → Type 0
AtMost most None = Unit {0}
AtMost most (Some rate) = rate ≤ most

-- prices run from 1 to 500,000 cents, rates to 10,000 basis points; long is at most the whole price
pub record KeepsLimits (q : Quote) : Type 0 where
  pub price_low : 1 ≤ q.price
  pub price_high : q.price ≤ 500000
  pub long_high : q.long ≤ q.price * 10000
  pub short_high : q.short ≤ 10000000000
  pub option_high : q.option ≤ 10000
  pub floor_high : q.floor ≤ 10000
  pub futures_high : AtMost 10000 q.futures
  pub tracking_high : AtMost 10000 q.tracking

-- a rule that needs the tracking rate is refused where there is none
abbrev pub needed : Option ℕ → Result ℕ MarketFault
needed None = Err NoTracking
needed (Some rate) = Ok rate

-- the tracking rate of the price, for a unit, in parts
abbrev pub tracked_of : Quote → Result ℕ MarketFault
tracked_of q = result_map_both (λ rate. rate * q.price) (λ f. f) (needed q.tracking)

-- a rate, in basis points
abbrev pub basis_points_of : Rate → ℕ
basis_points_of rate = rate.basis_points

-- an amount, in cents
abbrev pub cents_in : Cents → ℕ
cents_in cents = cents.amount
