-- The faults of reading: the number of each, and what is returned with it.
use Rattle.std.specs.Prelude.{ℕ}
use Rattle.rules_market.specs.declared.SheetFault.{SheetFault}
use Rattle.rules_market.specs.Sheets.{sheet_number}
use Rattle.calls_docket.specs.declared.Details.{Details}
use Rattle.calls_docket.specs.declared.Refusal.{Refusal}
use Rattle.calls_docket.specs.Refusals.{refusal_number, refusal_details, four_of}
use Rattle.file_fields.specs.declared.BadField.{BadField}
use Rattle.file_head.specs.declared.faults.LineCause.{LineCause}
use Rattle.file_head.specs.declared.faults.LineCause.TheVariants.{NoLine, WrongKey, IllFormed, Repeated}
use Rattle.file_head.specs.declared.faults.LineFault.{LineFault}
use Rattle.file_head.specs.declared.faults.LineFault.TheVariants.{Bad, Sheet, Call}
use Rattle.file_head.specs.declared.faults.ReadFault.{ReadFault}

-- 1: no ending byte, or no line where one is due; 2: a wrong key; 3: an ill-formed value; 4: a claim with an earlier line's article and legs
abbrev pub line_cause_number : LineCause → ℕ
line_cause_number NoLine = 1
line_cause_number WrongKey = 2
line_cause_number IllFormed = 3
line_cause_number Repeated = 4

-- what is wrong on line n
abbrev pub on_line : ℕ → LineFault → ReadFault
on_line n f = record { line = n; fault = f }

-- causes 1, 2 and 4 have place 1
abbrev pub bad_line : LineCause → LineFault
bad_line cause = Bad 1 cause

-- no ending byte, or no line
abbrev pub no_line : LineFault
no_line = bad_line NoLine

-- a key that may not stand there
abbrev pub wrong_key : LineFault
wrong_key = bad_line WrongKey

-- a claim that repeats an earlier line
abbrev pub repeated : LineFault
repeated = bad_line Repeated

-- an ill-formed value has the place of its first bad, missing or surplus field
abbrev pub from_field : BadField → LineFault
from_field b = Bad b.place IllFormed

-- the refusal of a sheet is held whole
abbrev pub from_sheet : SheetFault → LineFault
from_sheet f = Sheet f

-- and so is that of a call
abbrev pub from_call : Refusal → LineFault
from_call r = Call r

-- 19: a bad line; 20: a sheet or a call that is refused
abbrev pub fault_number : LineFault → ℕ
fault_number (Bad place cause) = 19
fault_number (Sheet fault) = 20
fault_number (Call refusal) = 20

-- with 19 the line, the byte place and the cause; with 20 the line, the refusal inside and its first two details
abbrev pub fault_details : ℕ → LineFault → Details
fault_details n (Bad place cause) = four_of n place (line_cause_number cause) 0
fault_details n (Sheet fault) = four_of n (sheet_number fault) 0 0
fault_details n (Call refusal) = four_of n (refusal_number refusal) (refusal_details refusal).one (refusal_details refusal).two
