-- The currency sheet.
use Rattle.std.specs.Prelude.{ℕ, ◌+◌, ◌*◌, cond, ◌&&◌, None, Ok, Err, Result}
use Rattle.rules_market.specs.declared.SheetFault.{SheetFault}
use Rattle.rules_market.specs.declared.SheetFault.TheVariants.{OutOfRange}
use Rattle.rules_market.specs.declared.currency_sheet.CurrencySheet.{CurrencySheet}
use Rattle.rules_market.specs.Quote.{Quote}
use Rattle.rules_market.specs.Sheets.{price_in_range, rate_in_range}

-- what a currency sheet holds: the price of one unit, which is 100 of the currency, and the spot rate
pub record Currency : Type 0 where
  pub price : ℕ
  pub spot : ℕ

-- the values on a currency sheet
abbrev pub currency_on : CurrencySheet → Currency
currency_on c = record { price = c.price.amount; spot = c.spot.basis_points }

-- a sheet is made of values in range, and of no other
abbrev pub currency_of : Currency → Result Currency SheetFault
currency_of c =
    cond (price_in_range c.price && rate_in_range c.spot) (Ok c) (Err OutOfRange)

-- the market that a currency sheet tells of: long and option rates are the spot rate, short is the price and the spot rate of it,
-- the floor rate is 75, and there is no futures rate and no tracking rate
abbrev pub currency_quote : Currency → Quote
currency_quote c = record {
  price = c.price;
  long = c.spot * c.price;
  short = (10000 + c.spot) * c.price;
  option = c.spot;
  floor = 75;
  futures = None;
  tracking = None;
}
