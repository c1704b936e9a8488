-- What each position of a file requires alone.
use Rattle.std.specs.Prelude.{ℕ, ◌+◌, cond, List, [], ◌∷◌, ◌++◌, map, Ok, Err, codes, decimal, Result}
use Rattle.rules_positions.specs.declared.record.Record.{Record}
use Rattle.rules_books.specs.Tables.{Tables}
use Rattle.file_head.specs.declared.faults.ReadFault.{ReadFault}
use Rattle.file_head.specs.Limit.{fits}
use Rattle.file_head.specs.Rates.{tables_by}
use Rattle.file_reading.specs.Files.{Content, read_file}
use Rattle.answer_docket.specs.declared.FileFault.{FileFault}
use Rattle.answer_docket.specs.declared.FileFault.TheVariants.{TooLong}
use Rattle.answer_docket.specs.Answers.{from_read}
use Rattle.file_reading.specs.Files.{docket_described}
use Rattle.calls_docket.specs.Dockets.{Docket}

-- one unit or contract of each position, in order of entry
abbrev pub charges : Docket Tables → List ℕ
charges d = map (d.book.alone d.size) d.tally.held

-- those of a file's positions, by its book
abbrev pub charges_of : Content → List ℕ
charges_of c = charges (docket_described c)

-- of what was read, or the fault of reading
abbrev pub charges_read : Result Content ReadFault → Result (List ℕ) FileFault
charges_read (Ok c) = Ok (charges_of c)
charges_read (Err f) = Err (from_read f)

-- the length is tested first; marks are read and not judged
abbrev pub tariff_of : List ℕ → Result (List ℕ) FileFault
tariff_of file = cond (fits file) (charges_read (read_file file)) (Err TooLong)

-- a position's number and its parts
abbrev pub charge_text : ℕ → ℕ → List ℕ
charge_text position parts = codes "position=" ++ (decimal position ++ (codes "," ++ (decimal parts ++ codes "\n")))

-- a line for each position, numbered from the first
abbrev pub charges_text : ℕ → List ℕ → List ℕ
charges_text first [] = []
charges_text first (parts ∷ others) = charge_text first parts ++ charges_text (first + 1) others
