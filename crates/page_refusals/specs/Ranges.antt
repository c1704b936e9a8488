-- A field of a position outside its range, in words.
use Rattle.std.specs.Prelude.{ℕ, cond, List, ◌++◌, Some, codes, decimal, Option, unwrap_or, ◌==◌}
use Rattle.std.specs.Option.{option_and_then}
use Rattle.std.specs.Result.{result_ok}
use Rattle.rules_positions.specs.declared.Entry.{Entry}
use Rattle.rules_positions.specs.declared.Field.{Field}
use Rattle.rules_positions.specs.declared.Field.TheVariants as field
use Rattle.rules_positions.specs.declared.Kind.{Kind}
use Rattle.rules_positions.specs.declared.Kind.TheVariants.{Units, Call, Put, Futures, Receipt}
use Rattle.rules_positions.specs.declared.Range.{Range}
use Rattle.rules_positions.specs.Letters.{kind_of}
use Rattle.rules_positions.specs.Ranges.{strike_range, day_range, price_range, quantity_range}
use Rattle.rules_positions.specs.Refusals.{field_number}
use Rattle.page_money.specs.Digits.{with_commas}
use Rattle.file_fields.specs.Fields.{split}
use Rattle.file_head.specs.Lines.{strip}
use Rattle.file_body.specs.Values.{entry_at}
use Rattle.page_wording.specs.Fields.{place_of}
use Rattle.page_wording.specs.Names.{ordinal}
use Rattle.page_refusals.specs.Words.{Said, saying}

-- a number with commas
abbrev pub grouped : ℕ → List ℕ
grouped n = with_commas (decimal n)

-- a range from its lowest to its highest number
abbrev pub range_text : Range → List ℕ
range_text r = cond (r.low == r.high) (grouped r.low) (grouped r.low ++ (codes " to " ++ grouped r.high))

-- a field by its name
abbrev pub field_name : Field → List ℕ
field_name field.Side = codes "side"
field_name field.Kind = codes "kind"
field_name field.Strike = codes "strike"
field_name field.Days = codes "days"
field_name field.Price = codes "price"
field_name field.Quantity = codes "quantity"

-- whose field it is
abbrev pub whose : Kind → List ℕ
whose Units = codes "the units'"
whose Call = codes "a call's"
whose Put = codes "a put's"
whose Futures = codes "the futures'"
whose Receipt = codes "an escrow receipt's"

-- a field as a subject
abbrev pub subject : Field → List ℕ
subject field.Side = codes "side is"
subject field.Kind = codes "kind is"
subject field.Strike = codes "strike is"
subject field.Days = codes "days to expiry are"
subject field.Price = codes "price is"
subject field.Quantity = codes "quantity is"

-- what a quantity counts
abbrev pub quantity_counted : Kind → List ℕ
quantity_counted Units = codes " units, 5,000 times the contract size"
quantity_counted kind = codes " contracts"

-- what a field counts
abbrev pub counted : Field → Kind → List ℕ
counted field.Strike kind = codes " cents"
counted field.Price kind = codes " cents"
counted field.Quantity kind = quantity_counted kind
counted f kind = codes ""

-- a field of a kind with its range
abbrev pub ranged_text : Field → Kind → Range → List ℕ
ranged_text f kind range = whose kind ++ (codes " " ++ (subject f ++ (codes " " ++ (range_text range ++ counted f kind))))

-- what would be right for a field of a kind, where a contract has so many units
abbrev pub field_right : ℕ → Kind → Field → List ℕ
field_right size kind field.Side = codes "L is long and S is short"
field_right size kind field.Kind = codes "U units, C call, P put, F futures, R escrow receipt, which is never short"
field_right size kind field.Strike = ranged_text field.Strike kind (strike_range kind)
field_right size kind field.Days = ranged_text field.Days kind (day_range kind)
field_right size kind field.Price = ranged_text field.Price kind (price_range kind)
field_right size kind field.Quantity = ranged_text field.Quantity kind (quantity_range size kind)

-- the position that a line sends
abbrev pub entry_on : List ℕ → Option Entry
entry_on line = option_and_then (λ value. result_ok (entry_at 5 (split 44 value))) (strip (codes "pos=") line)

-- its kind; units where it has none
abbrev pub kind_on : List ℕ → Kind
kind_on line = unwrap_or (option_and_then (λ e. kind_of e.kind) (entry_on line)) Units

-- a field of a position outside its range
abbrev pub range_words : ℕ → List ℕ → Field → Said
range_words size line f =
    saying (Some (place_of line (field_number f)))
    (codes "the " ++ (ordinal (field_number f) ++ (codes " field (" ++ (field_name f ++ codes ") is out of its range"))))
    (field_right size (kind_on line) f)
