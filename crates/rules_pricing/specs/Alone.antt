-- A position alone: what one unit, or one contract, of it requires.
use Rattle.std.specs.Prelude.{ℕ, ◌*◌, ℤ, pos, negsuc, Some, None, Option}
use Rattle.rules_market.specs.Quote.{Quote}
use Rattle.rules_positions.specs.declared.Side.{Side}
use Rattle.rules_positions.specs.declared.Side.TheVariants.{Long, Short}
use Rattle.rules_positions.specs.declared.Kind.{Kind}
use Rattle.rules_positions.specs.declared.Kind.TheVariants as kind
use Rattle.rules_positions.specs.Records.{Terms}
use Rattle.rules_pricing.specs.declared.Right.{Right}
use Rattle.rules_pricing.specs.declared.Right.TheVariants.{Call, Put}
use Rattle.rules_pricing.specs.Options.{long_option, short_option}
use Rattle.rules_pricing.specs.Priced.{Priced}

-- a signed amount above 0, else 0
abbrev pub positive_part : ℤ → ℕ
positive_part (pos n) = n
positive_part (negsuc n) = 0

-- a unit of the underlying: the market's long or short requirement
abbrev pub units : Quote → Side → ℕ
units q Long = q.long
units q Short = q.short

-- a long or a short option
abbrev pub option_by_side : Priced → Right → Terms → Side → ℕ
option_by_side c right o Long = long_option c right o
option_by_side c right o Short = positive_part (short_option c right o)

-- an option, by its side
abbrev pub option_alone : Priced → Right → Terms → ℕ
option_alone c right o = option_by_side c right o o.side

-- the futures rate, or the whole where there is none
abbrev pub whole_or : Option ℕ → ℕ
whole_or None = 10000
whole_or (Some rate) = rate

-- futures, of either side: the futures rate of the settlement
abbrev pub futures : Priced → ℕ → ℕ
futures c settlement = c.size * (whole_or c.quote.futures * settlement)

-- by kind; an escrow receipt requires nothing
abbrev pub by_kind : Priced → Terms → Kind → ℕ
by_kind c o kind.Units = units c.quote o.side
by_kind c o kind.Call = option_alone c Call o
by_kind c o kind.Put = option_alone c Put o
by_kind c o kind.Futures = futures c o.price
by_kind c o kind.Receipt = 0

-- one unit, or one contract, of a position, by its kind
abbrev pub alone : Priced → Terms → ℕ
alone c o = by_kind c o o.kind
