-- The figures of the screen as numbers, from the definitions alone.
use Rattle.std.specs.Prelude.{◌≡◌, ◌*◌, pos, neg_ℤ, Some, None, Ok}
use Rattle.rules_market.specs.Quote.{Quote}
use Rattle.rules_market.specs.Share.{share_quote}
use Rattle.rules_positions.specs.declared.Side.TheVariants.{Long, Short}
use Rattle.rules_positions.specs.declared.Kind.TheVariants as kind
use Rattle.rules_pricing.specs.declared.Right.TheVariants.{Call, Put}
use Rattle.rules_pricing.specs.Options.{in_the_money, out_of_the_money, time_value, counted_time_value, long_option, before_floor, floor_amount, short_option}
use Rattle.rules_pricing.specs.Alone.{units, futures, alone}
use Rattle.rules_articles.specs.Articles.{spread, straddle, protective_put, conversion, reconversion, receipt_call}
use Rattle.certificate_pairing.specs.Pairing.{of_leg, mark, floor, cost}
use Rattle.certificate_pairing.specs.Claims.{total, pairing_of, cost_in}
use Rattle.certificate_fairness.specs.Search.{first_breach, legs_from}
use Rattle.certificate_fairness.specs.declared.Breach.TheVariants as breach
use Rattle.certificate_certify.specs.Totals.{free}
use Rattle.answer_docket.specs.declared.Verdict.TheVariants.{Least}
use Rattle.answer_docket.specs.Answers.{verdict_of}
use Rattle.rules_priced_examples.specs.Examples.{sample, held}
use Rattle.glossary.specs.Sample.{tables, tally, marks, other_marks, sample_docket}
use Rattle.rules_pricing.specs.Priced.{contracts_of}

-- the market of the sample sheet
abbrev pub quote : Quote
quote = share_quote sample

-- cents are whole, and parts are ten-thousandths of a cent
pub record WorkedFigures : Type 0 where
  pub part : quote.floor * 125 ≡ 62500
  pub requirement : alone (contracts_of quote 100) (held Short kind.Call 5500 100 120) ≡ 2120000000
  pub long_requirement : units quote Long ≡ 25000000
  pub short_requirement : units quote Short ≡ 75000000
  pub call_in_the_money : in_the_money Call 4500 5000 ≡ 500
  pub put_in_the_money : in_the_money Put 5300 5000 ≡ 300
  pub call_out_of_the_money : out_of_the_money Call 5500 5000 ≡ 500
  pub put_out_of_the_money : out_of_the_money Put 4800 5000 ≡ 200
  pub time : time_value 620 (in_the_money Call 4500 5000) ≡ 120
  pub whole_counted : counted_time_value (time_value 620 (in_the_money Call 4500 5000)) 269 ≡ 1200000
  pub half_counted : counted_time_value (time_value 620 (in_the_money Call 4500 5000)) 270 ≡ 600000
  pub long_whole : long_option (contracts_of quote 100) Call (held Long kind.Call 4500 269 620) ≡ 620000000
  pub long_half : long_option (contracts_of quote 100) Call (held Long kind.Call 4500 270 620) ≡ 560000000
  pub short_near : short_option (contracts_of quote 100) Call (held Short kind.Call 5500 100 120) ≡ pos 2120000000
  pub short_far : short_option (contracts_of quote 100) Call (held Short kind.Call 9000 100 5) ≡ pos 255000000
  pub first_amount : before_floor (contracts_of quote 100) Call (held Short kind.Call 9000 100 5) ≡ neg_ℤ (pos 1495000000)
  pub second_amount : floor_amount (contracts_of quote 100) Call (held Short kind.Call 9000 100 5) ≡ 255000000
  pub futures_alone : futures (contracts_of quote 100) 5060 ≡ 1012000000
  pub escrow_receipt : alone (contracts_of quote 100) (held Long kind.Receipt 0 0 0) ≡ 0
  pub put_of_a_set : of_leg 100 kind.Put ≡ 1
  pub units_of_a_set : of_leg 100 kind.Units ≡ 100
  pub spread_set : spread (contracts_of quote 100) Call (held Long kind.Call 5500 100 120) (held Short kind.Call 5000 100 300) ≡ Ok 500000000
  pub straddle_set : straddle (contracts_of quote 100) (held Short kind.Call 5500 100 120) (held Short kind.Put 5200 100 350) ≡ Ok 2850000000
  pub protective_put_set : protective_put (contracts_of quote 100) (held Long kind.Put 4800 100 150) (held Long kind.Units 0 0 0) ≡ Ok 350000000
  pub conversion_set : conversion (contracts_of quote 100) (held Long kind.Put 5000 100 180) (held Short kind.Call 5100 100 140) (held Long kind.Futures 0 100 5060) ≡ Ok 100000000
  pub reconversion_set : reconversion (contracts_of quote 100) (held Short kind.Put 5000 100 180) (held Long kind.Call 5100 100 140) (held Short kind.Futures 0 100 5060) ≡ Ok 75000000
  pub receipt_call_set : receipt_call (held Short kind.Call 5500 100 120) (held Long kind.Receipt 0 0 0) ≡ Ok 0
  pub free_units : free sample_docket 1 ≡ 100
  pub free_puts : free sample_docket 2 ≡ 0
  pub free_calls : free sample_docket 3 ≡ 1
  pub whole : total sample_docket ≡ 5320000000
  pub unit_mark : mark marks 1 ≡ pos 25000000
  pub put_mark : mark marks 2 ≡ neg_ℤ (pos 2150000000)
  pub call_mark : mark marks 3 ≡ pos 2120000000
  pub fair : first_breach tables 100 tally.held marks ≡ None
  pub unfair : first_breach tables 100 tally.held other_marks ≡ Some (breach.Set 4 (legs_from 2 1 None))
  pub marks_floor : floor tally.held marks ≡ pos 5320000000
  pub lawful_pairing : cost_in sample_docket (pairing_of tally.claims) ≡ 5320000000
  pub least : verdict_of 5320000000 (Some (pos 5320000000)) ≡ Least
