-- A whole file: the docket and the marks that it describes, or its first fault.
use Rattle.std.specs.Prelude.{ℕ, List, ◌++◌, length, drop, ℤ, Ok, Err, Result}
use Rattle.rules_books.specs.Tables.{Tables}
use Rattle.certificate_pairing.specs.Dockets.{Tally, docket_of, Docket}
use Rattle.file_fields.specs.Fields.{split, then_read}
use Rattle.file_head.specs.declared.faults.ReadFault.{ReadFault}
use Rattle.file_head.specs.Rates.{Rates, tables_by}
use Rattle.file_head.specs.Head.{Head, head_at}
use Rattle.file_body.specs.Body.{Body, no_body, body_from}

-- a contract size, the values of a sheet, what was entered and claimed, and marks
pub record Content : Type 0 where
  pub size : ℕ
  pub rates : Rates
  pub tally : Tally
  pub marks : List ℤ

-- a head's size and values, and what the lines after it led to
abbrev pub content : ℕ → Rates → Body → Content
content size rates b = record { size = size; rates = rates; tally = b.tally; marks = b.marks }

-- the docket that is described, by its book's tables
abbrev pub docket_described : Content → Docket Tables
docket_described c = docket_of (tables_by c.rates) c.size c.tally

-- the first fault stands
abbrev pub with_head : Head → Result Body ReadFault → Result Content ReadFault
with_head h (Ok b) = Ok (content h.size h.rates b)
with_head h (Err f) = Err f

-- lines are judged in order
abbrev pub read_pieces : List (List ℕ) → Result Content ReadFault
read_pieces fs = then_read (head_at 1 fs) (λ h n gs. with_head h (body_from (tables_by h.rates) h.size n no_body gs))

-- byte 10 ends a line
abbrev pub read_file : List ℕ → Result Content ReadFault
read_file file = read_pieces (split 10 file)

-- marks fill the first places, and later places stay; a fault leaves them all
abbrev pub filled : Result Content ReadFault → List ℤ → List ℤ
filled (Ok c) old = c.marks ++ drop (length c.marks) old
filled (Err f) old = old
