-- A position as text.
use Rattle.std.specs.Prelude.{ℕ, List, [], ◌∷◌, decimal}
use Rattle.std.specs.List.{join_with_byte}
use Rattle.std.specs.Char.{encode_utf8}
use Rattle.rules_positions.specs.declared.Side.{Side}
use Rattle.rules_positions.specs.declared.Kind.{Kind}
use Rattle.rules_positions.specs.declared.Entry.{Entry}
use Rattle.rules_positions.specs.declared.record.Record.{Record}
use Rattle.rules_positions.specs.Letters.{side_letter, kind_letter}

-- a side by its letter
abbrev pub side_text : Side → List ℕ
side_text side = side_letter side ∷ []

-- a kind by its letter
abbrev pub kind_text : Kind → List ℕ
kind_text kind = kind_letter kind ∷ []

-- six fields with commas (44) between them: side and kind as text, and four numbers
abbrev pub fields_text : List ℕ → List ℕ → ℕ → ℕ → ℕ → ℕ → List ℕ
fields_text side kind strike days price quantity = join_with_byte 44 (side ∷ kind ∷ decimal strike ∷ decimal days ∷ decimal price ∷ decimal quantity ∷ [])

-- those of a record
abbrev pub record_text : Record → List ℕ
record_text r = fields_text (side_text r.side) (kind_text r.kind) r.strike r.days r.price r.quantity

-- those of an entry, whose letters may be any characters
abbrev pub entry_text : Entry → List ℕ
entry_text e = fields_text (encode_utf8 e.side) (encode_utf8 e.kind) e.strike e.days e.price e.quantity
