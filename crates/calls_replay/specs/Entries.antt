-- The entry that makes a record again.
use Rattle.rules_positions.specs.declared.Entry.{Entry}
use Rattle.rules_positions.specs.declared.record.Record.{Record}
use Rattle.rules_positions.specs.Letters.{side_letter, kind_letter}

-- the letters, and the four numbers
abbrev pub entry_of : Record → Entry
entry_of r = record {
  side = side_letter r.side;
  kind = kind_letter r.kind;
  strike = r.strike;
  days = r.days;
  price = r.price;
  quantity = r.quantity;
}
