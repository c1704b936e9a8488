-- The worked figure of each term as text, in a market and for a contract size.
use Rattle.std.specs.Prelude.{ℕ, List}
use Rattle.rules_market.specs.Quote.{Quote}
use Rattle.glossary.specs.declared.terms.Term.{Term}
use Rattle.glossary.specs.declared.terms.Term.TheVariants.{Part, Requirement, LongRequirement, ShortRequirement, InTheMoney, OutOfTheMoney, TimeValue, CountedTimeValue, LongOption, ShortOption, FloorAmount, Futures, EscrowReceipt, Set, Spread, Straddle, ProtectivePut, Conversion, Reconversion, ReceiptCall, FreeUnits, Total, Mark, Fair, Floor, LawfulPairing, Least}
use Rattle.glossary.specs.Alone.{part_figure, requirement_figure, long_requirement_figure, short_requirement_figure, in_the_money_figure, out_of_the_money_figure, time_value_figure, counted_time_value_figure, long_option_figure, short_option_figure, floor_amount_figure, futures_figure, escrow_receipt_figure}
use Rattle.glossary.specs.Sets.{set_figure, spread_figure, straddle_figure, protective_put_figure, conversion_figure, reconversion_figure, receipt_call_figure}
use Rattle.glossary.specs.Dockets.{free_units_figure, total_figure, mark_figure, fair_figure, floor_figure, lawful_pairing_figure, least_figure}
use Rattle.rules_pricing.specs.Priced.{Priced}

-- each term's own
abbrev pub worked_text : Priced → Term → List ℕ
worked_text c Part = part_figure c.quote
worked_text c Requirement = requirement_figure c
worked_text c LongRequirement = long_requirement_figure c.quote
worked_text c ShortRequirement = short_requirement_figure c.quote
worked_text c InTheMoney = in_the_money_figure c.quote
worked_text c OutOfTheMoney = out_of_the_money_figure c.quote
worked_text c TimeValue = time_value_figure c.quote
worked_text c CountedTimeValue = counted_time_value_figure c.quote
worked_text c LongOption = long_option_figure c
worked_text c ShortOption = short_option_figure c
worked_text c FloorAmount = floor_amount_figure c
worked_text c Futures = futures_figure c
worked_text c EscrowReceipt = escrow_receipt_figure c
worked_text c Set = set_figure c.size
worked_text c Spread = spread_figure c
worked_text c Straddle = straddle_figure c
worked_text c ProtectivePut = protective_put_figure c
worked_text c Conversion = conversion_figure c
worked_text c Reconversion = reconversion_figure c
worked_text c ReceiptCall = receipt_call_figure
worked_text c FreeUnits = free_units_figure
worked_text c Total = total_figure
worked_text c Mark = mark_figure
worked_text c Fair = fair_figure
worked_text c Floor = floor_figure
worked_text c LawfulPairing = lawful_pairing_figure
worked_text c Least = least_figure
