-- The total, the floor, and what the one says of the other, on the page.
use Rattle.std.specs.Prelude.{ℕ, List, [], ◌++◌, ℤ, pos, Some, None, Ok, Err, codes, Option, Result}
use Rattle.rules_positions.specs.declared.record.Record.{Record}
use Rattle.certificate_pairing.specs.Dockets.{Tally, docket_by, Docket}
use Rattle.calls_docket.specs.Calls.{total_reply}
use Rattle.answer_docket.specs.declared.FileFault.{FileFault}
use Rattle.answer_docket.specs.declared.FileFault.TheVariants.{TooLong, Read, Certify}
use Rattle.answer_docket.specs.declared.Summary.{Summary}
use Rattle.answer_docket.specs.declared.Verdict.{Verdict}
use Rattle.answer_docket.specs.declared.Verdict.TheVariants.{Least, Gap, Absent}
use Rattle.answer_docket.specs.Answers.{verdict_of}
use Rattle.page_money.specs.Texts.{dollars_text}
use Rattle.page_figures.specs.Shown.{gap_of}
use Rattle.page_statement.specs.Columns.{right_text, amount_text}
use Rattle.page_statement.specs.Rules.{Rules, tables_in}
use Rattle.page_statement.specs.Marks.{refusal_words}

-- how far the floor lies under the total
abbrev pub gap_words : Option ℤ → List ℕ
gap_words (Some gap) = codes "gap: the floor lies under the total by " ++ (dollars_text gap ++ codes "\n")
gap_words None = codes "gap: the floor lies under the total\n"

-- a gap where there is a floor
abbrev pub gap_or_none : ℕ → Option ℤ → List ℕ
gap_or_none total (Some floor) = gap_words (gap_of total floor)
gap_or_none total None = codes "not certified: the file has no marks\n"

-- what the floor says of the total
abbrev pub verdict_words : Verdict → ℕ → Option ℤ → List ℕ
verdict_words Least total floor = codes "least: no lawful pairing of these positions costs less\n"
verdict_words Gap total floor = gap_or_none total floor
verdict_words Absent total floor = codes "not certified: the file has no marks\n"

-- the floor, or none
abbrev pub floor_column : Option ℤ → List ℕ
floor_column (Some floor) = amount_text 27 floor
floor_column None = right_text 27 (codes "none")

-- the total and the floor, a line each, and the label of the verdict
unfoldable pub figure_lines : ℕ → Option ℤ → List ℕ
figure_lines total floor =
    codes "  Total    " ++ (amount_text 27 (pos total) ++ (codes "\n  Floor    " ++ (floor_column floor ++ codes "\n  Verdict  ")))

-- the verdict on figures
abbrev pub verdict_line : Summary → List ℕ
verdict_line x = verdict_words (verdict_of x.total x.floor) x.total x.floor

-- the figures and their verdict
abbrev pub summary_words : Summary → List ℕ
summary_words x = figure_lines x.total x.floor ++ verdict_line x

-- why the marks are refused; the fault of a file that is read is of its marks
abbrev pub marks_fault_words : Docket Rules → List ℤ → FileFault → List ℕ
marks_fault_words d marks (Certify r) = refusal_words d marks r
marks_fault_words d marks TooLong = []
marks_fault_words d marks (Read f) = []

-- the total without a floor, and why the marks are refused
abbrev pub fault_lines : Docket Rules → List ℤ → FileFault → List ℕ
fault_lines d marks fault =
    figure_lines (total_reply (docket_by tables_in d)) None ++ (codes "not certified: the marks are refused\n\n" ++ marks_fault_words d marks fault)

-- what the docket and its marks are answered
abbrev pub answer_words : Docket Rules → List ℤ → Result Summary FileFault → List ℕ
answer_words d marks (Ok x) = summary_words x
answer_words d marks (Err fault) = fault_lines d marks fault

-- the heading, and what the docket and its marks are answered
unfoldable pub verdict_section : Docket Rules → List ℤ → Result Summary FileFault → List ℕ
verdict_section d marks answer = codes "\nTotal and floor\n\n" ++ answer_words d marks answer
