-- The range of each field, for each kind.
use Rattle.std.specs.Prelude.{◌≡◌, ℕ, ◌*◌, ◌≤◌, Bool, true, cond, ◌&&◌, Ok, Err, Result}
use Rattle.rules_amounts.specs.Ranges.{inside}
use Rattle.rules_positions.specs.declared.Side.{Side}
use Rattle.rules_positions.specs.declared.Kind.{Kind}
use Rattle.rules_positions.specs.declared.Kind.TheVariants.{Units, Call, Put, Futures, Receipt}
use Rattle.rules_positions.specs.declared.Entry.{Entry}
use Rattle.rules_positions.specs.declared.Field.{Field}
use Rattle.rules_positions.specs.declared.Range.{Range}
use Rattle.rules_positions.specs.declared.RecordFault.{RecordFault}
use Rattle.rules_positions.specs.declared.RecordFault.TheVariants.{OutOfRange}
use Rattle.rules_positions.specs.Letters.{sided}

-- from the lowest to the highest
abbrev pub from_to : ℕ → ℕ → Range
from_to low high = record { low = low; high = high }

-- strike: of an option, 1 to 500,000 cents a unit; else 0
abbrev pub strike_range : Kind → Range
strike_range Units = from_to 0 0
strike_range Call = from_to 1 500000
strike_range Put = from_to 1 500000
strike_range Futures = from_to 0 0
strike_range Receipt = from_to 0 0

-- days to expiry: of an option or futures, 0 to 4,000; else 0
abbrev pub day_range : Kind → Range
day_range Units = from_to 0 0
day_range Call = from_to 0 4000
day_range Put = from_to 0 4000
day_range Futures = from_to 0 4000
day_range Receipt = from_to 0 0

-- price: an option's premium, 0 to 500,000 cents a unit; the daily settlement of futures, 1 to 500,000; else 0
abbrev pub price_range : Kind → Range
price_range Units = from_to 0 0
price_range Call = from_to 0 500000
price_range Put = from_to 0 500000
price_range Futures = from_to 1 500000
price_range Receipt = from_to 0 0

-- quantity: 1 to 5,000 contracts; of the underlying, as many units as those have
abbrev pub quantity_range : ℕ → Kind → Range
quantity_range size Units = from_to 1 (5000 * size)
quantity_range size Call = from_to 1 5000
quantity_range size Put = from_to 1 5000
quantity_range size Futures = from_to 1 5000
quantity_range size Receipt = from_to 1 5000

-- a number is in a range
abbrev pub holds : Range → ℕ → Bool
holds range n = inside range.low range.high n

-- side and kind go together, and strike, days and price are in their ranges
unfoldable pub in_range : Side → Kind → ℕ → ℕ → ℕ → Bool
in_range side kind strike days price =
    sided side kind && (holds (strike_range kind) strike && (holds (day_range kind) days && holds (price_range kind) price))

-- a field outside its range is refused
abbrev pub checked : Field → Range → ℕ → Result (Unit {0}) RecordFault
checked field range n = cond (holds range n) (Ok tt) (Err (OutOfRange field))

-- what all numbers in range keep to, whatever the kind
pub record AreInRange (e : Entry) (kind : Kind) : Type 0 where
  pub strike : holds (strike_range kind) e.strike ≡ true
  pub days : holds (day_range kind) e.days ≡ true
  pub price : holds (price_range kind) e.price ≡ true
  pub quantity : e.quantity ≤ 5000000
