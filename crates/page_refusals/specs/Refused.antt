-- A file that is refused, in words.
use Rattle.std.specs.Prelude.{ℕ, List, ◌++◌, Some, None, codes, decimal, Option}
use Rattle.file_head.specs.declared.faults.LineFault.{LineFault}
use Rattle.file_head.specs.declared.faults.LineFault.TheVariants.{Bad, Sheet, Call}
use Rattle.file_head.specs.declared.faults.ReadFault.{ReadFault}
use Rattle.page_wording.specs.Lines.{line_at}
use Rattle.page_wording.specs.Shown.{shown_text}
use Rattle.page_refusals.specs.Before.{Before, before}
use Rattle.page_refusals.specs.BadLines.{due_text, bad_words}
use Rattle.page_refusals.specs.Sheets.{size_words, sheet_words}
use Rattle.page_refusals.specs.Calls.{call_words}
use Rattle.page_refusals.specs.Words.{Said}

-- what is wrong with a line, by what the lines before it describe; before there is a docket, the only call is to open one
abbrev pub line_fault_words : List ℕ → ℕ → Option Before → LineFault → Said
line_fault_words file number b (Bad place cause) = bad_words file number (line_at file number) place (due_text file number b) cause
line_fault_words file number b (Sheet fault) = sheet_words file number
line_fault_words file number (Some b) (Call refusal) = call_words b (line_at file number) refusal
line_fault_words file number None (Call refusal) = size_words

-- the byte that is marked, if one is
abbrev pub place_text : Option ℕ → List ℕ
place_text (Some place) = codes ", byte " ++ decimal place
place_text None = codes ""

-- the number of the line, the line as it stands with the byte marked, what is wrong, and what would be right
abbrev pub refusal_page_text : List ℕ → ℕ → Said → List ℕ
refusal_page_text file number s =
    codes "The file is refused at line " ++ (decimal number
    ++ (place_text s.place
    ++ (codes ".\n\n" ++ (shown_text (line_at file number) s.place
    ++ (codes "\nWrong: " ++ (s.wrong
    ++ (codes ".\nRight: " ++ (s.right
    ++ codes ".\n"))))))))

-- of a file and the fault of reading it
abbrev pub refusal_page : List ℕ → ReadFault → List ℕ
refusal_page file f = refusal_page_text file f.line (line_fault_words file f.line (before file f.line) f.fault)
