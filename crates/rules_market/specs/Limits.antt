-- Lemmas: the two sheets keep the limits of a market.
-- They stand here, and not in `proofs/`, since a ghost member of an implementation may cite nothing outside `specs/`; no contract speaks of them.
use Rattle.std.proofs.Common.{rules, arith, mul_comm, mul-le-mul_left}
use Rattle.std.specs.Prelude.{◌+◌}
use Rattle.std.proofs.lemmas.Nat.{mul-le}
use Rattle.rules_market.specs.declared.currency_sheet.CurrencySheet.{CurrencySheet}
use Rattle.rules_market.specs.declared.share_sheet.ShareSheet.{ShareSheet}
use Rattle.rules_market.specs.Quote.{KeepsLimits}
use Rattle.rules_market.specs.Share.{share_quote, shares_on}
use Rattle.rules_market.specs.Currency.{currency_quote, currency_on}

pub share_limits : (s : ShareSheet) → KeepsLimits (share_quote (shares_on s))
share_limits s = search rules

pub currency_limits : (c : CurrencySheet) → KeepsLimits (currency_quote (currency_on c))
currency_limits c = record {
  price_low = c.some;
  price_high = c.price.high;
  long_high = omega (arith, mul_comm c.spot.basis_points c.price.amount, mul-le-mul_left {m = c.spot.basis_points} {n = 10000} c.price.amount c.spot.high);
  short_high = omega (arith, mul-le (10000 + c.spot.basis_points) c.price.amount 20000 500000 (omega arith) c.price.high);
  option_high = c.spot.high;
  floor_high = search rules;
  futures_high = tt;
  tracking_high = tt;
}
