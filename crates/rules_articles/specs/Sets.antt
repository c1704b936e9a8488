-- What a set requires, in parts, its conditions met.
use Rattle.std.specs.Prelude.{ℕ, ◌+◌, ◌-◌, ◌*◌, min, max, ℤ, pos, ◌-ℤ◌, ◌*ℤ◌}
use Rattle.std.specs.Int.{int_max}
use Rattle.rules_positions.specs.declared.Side.{Side}
use Rattle.rules_positions.specs.declared.Side.TheVariants.{Long, Short}
use Rattle.rules_positions.specs.Records.{Terms}
use Rattle.rules_pricing.specs.declared.Right.{Right}
use Rattle.rules_pricing.specs.declared.Right.TheVariants.{Call, Put}
use Rattle.rules_pricing.specs.Options.{short_option}
use Rattle.rules_pricing.specs.Alone.{positive_part}
use Rattle.rules_pricing.specs.Priced.{Priced}

-- a short option alone
abbrev pub short_alone : Priced → Right → Terms → ℕ
short_alone c right o = positive_part (short_option c right o)

-- cents a unit, for a contract, in parts
abbrev pub contract : ℕ → ℕ → ℕ
contract size cents = size * (cents * 10000)

-- the strikes' difference, larger less smaller
abbrev pub apart : ℕ → ℕ → ℕ
apart a b = max a b - min a b

-- a spread: the lesser of the short option alone and the strikes' difference
abbrev pub spread_amount : Priced → Right → Terms → Terms → ℕ
spread_amount c right long short =
    min (short_alone c right short) (contract c.size (apart long.strike short.strike))

-- a straddle: the greatest of either option alone and the put's strike above the call's
abbrev pub straddle_amount : Priced → Terms → Terms → ℕ
straddle_amount c call put =
    max (max (short_alone c Call call) (short_alone c Put put)) (contract c.size (put.strike - call.strike))

-- a protective put: the lesser of a contract's long units and the price plus the premium less the strike
abbrev pub protective_put_amount : Priced → Terms → ℕ
protective_put_amount c put =
    min (c.size * c.quote.long) (contract c.size (c.quote.price + put.price - put.strike))

-- cents a unit, one sum less another, for a contract, in parts; signed
abbrev pub signed_contract : ℕ → ℕ → ℕ → ℤ
signed_contract size up down = pos size *ℤ (pos (up * 10000) -ℤ pos (down * 10000))

-- a conversion: the greater of the tracked amount and settlement − lesser strike + put premium − call premium
abbrev pub conversion_amount : ℕ → ℕ → Terms → Terms → Terms → ℤ
conversion_amount size tracked put call futures =
    int_max (pos (size * tracked)) (signed_contract size (futures.price + put.price) (min put.strike call.strike + call.price))

-- a reconversion: the greater of the tracked amount and greater strike − settlement + call premium − put premium
abbrev pub reconversion_amount : ℕ → ℕ → Terms → Terms → Terms → ℤ
reconversion_amount size tracked put call futures =
    int_max (pos (size * tracked)) (signed_contract size (max put.strike call.strike + call.price) (futures.price + put.price))

-- by the side of the put and of the futures: long in a conversion, short in a reconversion
abbrev pub converted_amount : ℕ → ℕ → Side → Terms → Terms → Terms → ℤ
converted_amount size tracked Long = conversion_amount size tracked
converted_amount size tracked Short = reconversion_amount size tracked
