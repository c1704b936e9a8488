-- Lemmas: what the numbers of a record in range are at most, on which the limits of a book rest.
-- They stand here, and not in `proofs/`, since a ghost member of an implementation may cite nothing outside `specs/`; no contract speaks of them.
use Rattle.std.specs.Prelude.{◌≡◌, ℕ, ◌≤◌, true, nat_le}
use Rattle.std.proofs.Common.{arith}
use Rattle.std.proofs.lemmas.Bool.{and_parts, leb-true}
use Rattle.rules_positions.specs.declared.Side.{Side}
use Rattle.rules_positions.specs.declared.Kind.{Kind}
use Rattle.rules_positions.specs.declared.Kind.TheVariants.{Units, Call, Put, Futures, Receipt}
use Rattle.rules_positions.specs.declared.Range.{Range}
use Rattle.rules_positions.specs.Ranges.{holds, in_range, strike_range, price_range}

-- the highest of each range
strike_top : (kind : Kind) → (strike_range kind).high ≤ 500000
strike_top Units = omega arith
strike_top Call = omega arith
strike_top Put = omega arith
strike_top Futures = omega arith
strike_top Receipt = omega arith

price_top : (kind : Kind) → (price_range kind).high ≤ 500000
price_top Units = omega arith
price_top Call = omega arith
price_top Put = omega arith
price_top Futures = omega arith
price_top Receipt = omega arith

pub holds_high : (r : Range) (n : ℕ) → holds r n ≡ true → n ≤ r.high
holds_high r n h = leb-true n r.high (and_parts (nat_le r.low n) (nat_le n r.high) h).1

pub strike_high : (side : Side) (kind : Kind) (strike days price : ℕ) → in_range side kind strike days price ≡ true → strike ≤ 500000
unfolding in_range
strike_high side kind strike days price h = grind (arith, strike_top kind, holds_high (strike_range kind) strike)

pub price_high : (side : Side) (kind : Kind) (strike days price : ℕ) → in_range side kind strike days price ≡ true → price ≤ 500000
unfolding in_range
price_high side kind strike days price h = grind (arith, price_top kind, holds_high (price_range kind) price)
