-- The fields that a cursor has left.
use Rattle.std.specs.Prelude.{ℕ, List}
use Rattle.file_fields.specs.declared.fields.Fields.{Fields}
use Rattle.file_fields.specs.Fields.{remaining}

-- the fields that are left to take
abbrev pub fields_left : Fields → List (List ℕ)
fields_left f = remaining f.rest
