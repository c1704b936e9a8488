-- The numbers of fields, and the refusal that names one.
use Rattle.std.specs.Prelude.{ℕ, List, ◌++◌, codes, decimal}
use Rattle.rules_positions.specs.declared.Field.{Field}
use Rattle.rules_positions.specs.declared.Field.TheVariants.{Side, Kind, Strike, Days, Price, Quantity}
use Rattle.rules_positions.specs.declared.RecordFault.{RecordFault}
use Rattle.rules_positions.specs.declared.RecordFault.TheVariants.{OutOfRange}

-- fields are numbered in the order of a record
abbrev pub field_number : Field → ℕ
field_number Side = 1
field_number Kind = 2
field_number Strike = 3
field_number Days = 4
field_number Price = 5
field_number Quantity = 6

-- 2: a field outside its range
abbrev pub record_fault_number : RecordFault → ℕ
record_fault_number (OutOfRange field) = 2

-- and its number is returned
abbrev pub record_fault_detail : RecordFault → ℕ
record_fault_detail (OutOfRange field) = field_number field

-- the refusal as text: its number and the field's
abbrev pub record_fault_text : RecordFault → List ℕ
record_fault_text f = codes "refused=" ++ (decimal (record_fault_number f) ++ (codes "," ++ decimal (record_fault_detail f)))
