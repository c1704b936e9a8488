-- The share sheet.
use Rattle.std.specs.Prelude.{ℕ, ◌+◌, ◌*◌, Bool, cond, ◌&&◌, Ok, Err, Option, Result, nat_le}
use Rattle.rules_amounts.specs.Rates.{points}
use Rattle.rules_market.specs.declared.SheetFault.{SheetFault}
use Rattle.rules_market.specs.declared.SheetFault.TheVariants.{OutOfRange}
use Rattle.rules_market.specs.declared.share_sheet.ShareSheet.{ShareSheet}
use Rattle.rules_market.specs.Quote.{Quote}
use Rattle.rules_market.specs.Sheets.{price_in_range, rate_in_range, none_or_in_range}

-- a row of the table by price: the long percentage of the price, and the short requirement of one unit in parts
pub record Row : Type 0 where
  pub long_rate : ℕ
  pub short : ℕ

-- the row of a price in cents, for a stock of reduced margin or another
abbrev pub row_at : ℕ → Bool → Row
row_at price reduced =
    cond (nat_le 200 price) (cond reduced (record { long_rate = 3000; short = 13000 * price }) (record { long_rate = 5000; short = 15000 * price }))
    (cond (nat_le 175 price) (record { long_rate = 6000; short = 300 * 10000 })
    (cond (nat_le 150 price) (record { long_rate = 8000; short = 300 * 10000 })
    (cond (nat_le 25 price) (record { long_rate = 10000; short = 20000 * price })
    (record { long_rate = 10000; short = (price + 25) * 10000 }))))

-- what a share sheet holds
pub record Shares : Type 0 where
  pub price : ℕ
  pub reduced : Bool
  pub floor : ℕ
  pub futures : Option ℕ
  pub tracking : Option ℕ

-- the values on a share sheet
abbrev pub shares_on : ShareSheet → Shares
shares_on s = record { price = s.price.amount; reduced = s.reduced; floor = s.floor.basis_points; futures = points s.futures; tracking = points s.tracking }

-- a sheet is made of values in range, and of no other
abbrev pub sheet_of : Shares → Result Shares SheetFault
sheet_of s =
    cond (price_in_range s.price && (rate_in_range s.floor && (none_or_in_range s.futures && none_or_in_range s.tracking))) (Ok s) (Err OutOfRange)

-- the market that a share sheet tells of: the option rate is the long percentage
abbrev pub share_quote : Shares → Quote
share_quote s = record {
  price = s.price;
  long = (row_at s.price s.reduced).long_rate * s.price;
  short = (row_at s.price s.reduced).short;
  option = (row_at s.price s.reduced).long_rate;
  floor = s.floor;
  futures = s.futures;
  tracking = s.tracking;
}
