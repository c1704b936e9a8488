-- The head of a file: the contract size, and the lines of a sheet, in their order.
use Rattle.std.specs.Prelude.{ℕ, cond, List, Some, None, Ok, Err, codes, Option, Result}
use Rattle.std.specs.Str.{bytes_eq}
use Rattle.rules_amounts.specs.Ranges.{inside}
use Rattle.rules_market.specs.declared.SheetFault.{SheetFault}
use Rattle.rules_market.specs.Share.{sheet_of}
use Rattle.rules_market.specs.Currency.{currency_of}
use Rattle.calls_docket.specs.declared.Refusal.TheVariants.{SizeOutOfRange}
use Rattle.file_fields.specs.Fields.{Got, then_read}
use Rattle.file_fields.specs.Numbers.{natural, number_or_none, yes_or_no}
use Rattle.file_head.specs.declared.faults.ReadFault.{ReadFault}
use Rattle.file_head.specs.declared.head.MarketName.{MarketName}
use Rattle.file_head.specs.declared.head.MarketName.TheVariants as name
use Rattle.file_head.specs.Faults.{on_line, from_sheet, from_call}
use Rattle.file_head.specs.Lines.{value_line}
use Rattle.file_head.specs.Rates.{Rates, share, currency}

-- share or currency
abbrev pub market_name : List ℕ → Option MarketName
market_name bs = cond (bytes_eq bs (codes "share")) (Some name.Share) (cond (bytes_eq bs (codes "currency")) (Some name.Currency) None)

-- a sheet whose last line is line n: refused there, or read
abbrev pub sheet_judged : {A : Type 0} → (A → Rates) → ℕ → Result A SheetFault → ℕ → List (List ℕ) → Result (Got Rates) ReadFault
sheet_judged rates n (Ok s) m fs = Ok (record { value = rates s; place = m; left = fs })
sheet_judged rates n (Err f) m fs = Err (on_line n (from_sheet f))

-- price, reduced, floor, futures and tracking
abbrev pub shares_at : ℕ → List (List ℕ) → Result (Got Rates) ReadFault
shares_at n fs =
    then_read (value_line natural (codes "price=") n fs) (λ price n fs.
    then_read (value_line yes_or_no (codes "reduced=") n fs) (λ reduced n fs.
    then_read (value_line natural (codes "floor=") n fs) (λ floor n fs.
    then_read (value_line number_or_none (codes "futures=") n fs) (λ futures n fs.
    then_read (value_line number_or_none (codes "tracking=") n fs) (λ tracking m gs.
    sheet_judged share n (sheet_of (record { price = price; reduced = reduced; floor = floor; futures = futures; tracking = tracking })) m gs)))))

-- price and spot
abbrev pub currency_at : ℕ → List (List ℕ) → Result (Got Rates) ReadFault
currency_at n fs =
    then_read (value_line natural (codes "price=") n fs) (λ price n fs.
    then_read (value_line natural (codes "spot=") n fs) (λ spot m gs.
    sheet_judged currency n (currency_of (record { price = price; spot = spot })) m gs))

-- the lines of the sheet that is named
abbrev pub sheet_named : MarketName → ℕ → List (List ℕ) → Result (Got Rates) ReadFault
sheet_named name.Share n fs = shares_at n fs
sheet_named name.Currency n fs = currency_at n fs

-- the market's name, and its sheet
abbrev pub sheet_at : ℕ → List (List ℕ) → Result (Got Rates) ReadFault
sheet_at n fs = then_read (value_line market_name (codes "market=") n fs) sheet_named

-- a contract size and a sheet
pub record Head : Type 0 where
  pub size : ℕ
  pub rates : Rates

-- a sheet that was read, and the size before it
abbrev pub with_size : ℕ → Result (Got Rates) ReadFault → Result (Got Head) ReadFault
with_size size (Ok g) = Ok (record { value = record { size = size; rates = g.value }; place = g.place; left = g.left })
with_size size (Err f) = Err f

-- a size outside 1 to 1,000 is refused at its own line
abbrev pub sized : ℕ → ℕ → ℕ → List (List ℕ) → Result (Got ℕ) ReadFault
sized n size m fs = cond (inside 1 1000 size) (Ok (record { value = size; place = m; left = fs })) (Err (on_line n (from_call SizeOutOfRange)))

-- the line of the size
abbrev pub size_at : ℕ → List (List ℕ) → Result (Got ℕ) ReadFault
size_at n fs = then_read (value_line natural (codes "size=") n fs) (sized n)

-- the size, judged before the sheet is read, and the sheet
abbrev pub head_at : ℕ → List (List ℕ) → Result (Got Head) ReadFault
head_at n fs = then_read (size_at n fs) (λ size m gs. with_size size (sheet_at m gs))
