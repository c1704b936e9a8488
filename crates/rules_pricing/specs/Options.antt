-- Options alone. Cents a unit times 10,000 are parts; `-` on whole numbers stops at 0, and on signed ones it does not.
use Rattle.std.specs.Prelude.{ℕ, ◌+◌, ◌-◌, ◌*◌, min, cond, ℤ, pos, ◌-ℤ◌, ◌*ℤ◌, nat_le}
use Rattle.std.specs.Int.{int_max}
use Rattle.rules_market.specs.Quote.{Quote}
use Rattle.rules_positions.specs.Records.{Terms}
use Rattle.rules_pricing.specs.declared.Right.{Right}
use Rattle.rules_pricing.specs.declared.Right.TheVariants.{Call, Put}
use Rattle.rules_pricing.specs.Priced.{Priced}

-- in the money: the price above the strike for a call, the strike above the price for a put
abbrev pub in_the_money : Right → ℕ → ℕ → ℕ
in_the_money Call strike price = price - strike
in_the_money Put strike price = strike - price

-- out of the money: the other way round
abbrev pub out_of_the_money : Right → ℕ → ℕ → ℕ
out_of_the_money Call strike price = strike - price
out_of_the_money Put strike price = price - strike

-- time value: the premium above the amount in the money
abbrev pub time_value : ℕ → ℕ → ℕ
time_value premium in_money = premium - in_money

-- all of the time value counts, and half of it from 270 days up; in parts
abbrev pub counted_time_value : ℕ → ℕ → ℕ
counted_time_value time days = cond (nat_le 270 days) (time * 5000) (time * 10000)

-- an option's time value, at the market's price
abbrev pub time_value_of : Quote → Right → Terms → ℕ
time_value_of q right o = time_value o.price (in_the_money right o.strike q.price)

-- a long option: the time value that counts, plus the lesser of the long requirement of a unit and the amount in the money
abbrev pub long_option : Priced → Right → Terms → ℕ
long_option c right o =
    c.size * (counted_time_value (time_value_of c.quote right o) o.days + min c.quote.long (in_the_money right o.strike c.quote.price * 10000))

-- a short option, its first amount: premium, plus the option rate of the price, less the amount out of the money; signed
abbrev pub before_floor : Priced → Right → Terms → ℤ
before_floor c right o =
    pos c.size *ℤ (pos (o.price * 10000 + c.quote.option * c.quote.price) -ℤ pos (out_of_the_money right o.strike c.quote.price * 10000))

-- the floor rate is of the price for a call, of the strike for a put
abbrev pub floor_base : Quote → Right → Terms → ℕ
floor_base q Call o = q.price
floor_base q Put o = o.strike

-- a short option, its second amount: premium, plus the floor rate
abbrev pub floor_amount : Priced → Right → Terms → ℕ
floor_amount c right o = c.size * (o.price * 10000 + c.quote.floor * floor_base c.quote right o)

-- a short option: the greater of the two
abbrev pub short_option : Priced → Right → Terms → ℤ
short_option c right o = int_max (before_floor c right o) (pos (floor_amount c right o))
