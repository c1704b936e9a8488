-- What is read of a file is what was written, and what is written is read again.
use Rattle.std.specs.Prelude.{◌≡◌, ℕ, ◌<◌, ◌≤◌, true, List, [], ◌∷◌, length, ℤ, Ok, unsigned_abs}
use Rattle.rules_amounts.specs.Ranges.{inside}
use Rattle.rules_books.specs.declared.sheets.Sheet.{Sheet}
use Rattle.rules_books.specs.Books.{sheet_tables}
use Rattle.certificate_pairing.specs.Dockets.{Tally, docket_by, Docket}
use Rattle.calls_serve.specs.Laws.{IsReached}
use Rattle.file_head.specs.Rates.{rates_on, tables_by}
use Rattle.file_body.specs.Files.{Content, read_file, docket_described}
use Rattle.file_writing.specs.Texts.{file_text, described}

-- a mark that a file can hold has at most 15 digits
abbrev pub AreShort : List ℤ → Type 0
AreShort [] = Unit {0}
AreShort (z ∷ zs) = (unsigned_abs z < 1000000000000000) × AreShort zs

-- marks that a file can hold: at most 32, each of at most 15 digits
pub record AreFileMarks (marks : List ℤ) : Type 0 where
  pub few : length marks ≤ 32
  pub short : AreShort marks

-- reading and writing are each the other undone, and what is read was led to by calls
pub record Faithful : Type 0 where
  -- every accepted file is the text of the docket and the marks that it is read to
  pub rewritten : (file : List ℕ) (c : Content) → read_file file ≡ Ok c → file_text c ≡ file
  -- the text of a docket that calls led to, with marks that a file can hold, is read back to that docket and those marks
  pub read_back :
      (d : Docket Sheet) (marks : List ℤ) → inside 1 1000 d.size ≡ true → IsReached (docket_by sheet_tables d) → AreFileMarks marks
      → read_file (file_text (described d marks)) ≡ Ok (described d marks)
  -- such a text has at most 65,536 bytes, which is what the programs take
  pub short :
      (d : Docket Sheet) (marks : List ℤ) → inside 1 1000 d.size ≡ true → IsReached (docket_by sheet_tables d) → AreFileMarks marks
      → length (file_text (described d marks)) ≤ 65536
  -- two files that are read to the same docket and marks are equal
  pub same : (file other : List ℕ) (c : Content) → read_file file ≡ Ok c → read_file other ≡ Ok c → file ≡ other
  -- calls led to the docket that a file is read to
  pub led : (file : List ℕ) (c : Content) → read_file file ≡ Ok c → IsReached (docket_described c)
  -- and its marks are ones that a file can hold
  pub held : (file : List ℕ) (c : Content) → read_file file ≡ Ok c → AreFileMarks c.marks
  -- its contract size is in range
  pub sized : (file : List ℕ) (c : Content) → read_file file ≡ Ok c → inside 1 1000 c.size ≡ true
