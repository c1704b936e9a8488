-- The page of a file.
use Rattle.std.specs.Prelude.{ℕ, List, ◌++◌, Ok, Err, codes, Result, cond}
use Rattle.file_head.specs.declared.faults.ReadFault.{ReadFault}
use Rattle.file_head.specs.Limit.{fits}
use Rattle.file_reading.specs.Files.{Content, read_file}
use Rattle.answer_docket.specs.declared.FileFault.{FileFault}
use Rattle.answer_docket.specs.declared.Summary.{Summary}
use Rattle.answer_docket.specs.Answers.{summary_in}
use Rattle.page_refusals.specs.Refused.{refusal_page}
use Rattle.page_statement.specs.Sheet.{sheet_section}
use Rattle.page_statement.specs.Positions.{positions_section}
use Rattle.page_statement.specs.Options.{options_section}
use Rattle.page_statement.specs.Rules.{Rules, rules_by}
use Rattle.page_statement.specs.Claims.{claims_section}
use Rattle.page_statement.specs.Verdict.{verdict_section}
use Rattle.rules_pricing.specs.Priced.{contracts_of}
use Rattle.certificate_pairing.specs.Dockets.{docket_of}

-- the sections in their order, under some rules, with what the docket and its marks are answered
unfoldable pub page_under : Rules → Content → Result Summary FileFault → List ℕ
page_under b c answer =
    sheet_section c.rates c.size
    ++ (positions_section (docket_of b.tables c.size c.tally)
    ++ (options_section (docket_of b.quote c.size c.tally)
    ++ (claims_section (docket_of b c.size c.tally)
    ++ verdict_section (docket_of b c.size c.tally) c.marks answer)))

-- under the rules of its sheet, with what it is answered
abbrev pub page_text : Content → List ℕ
page_text c = page_under (rules_by c.rates) c (summary_in c)

-- a file that is too long
abbrev pub too_long_text : List ℕ
too_long_text = codes "The file is refused.\n\nWrong: it has more than 65,536 bytes.\nRight: a file has at most 65,536 bytes.\n"

-- the page of what was read, or why it is refused
abbrev pub read_text : List ℕ → Result Content ReadFault → List ℕ
read_text file (Ok c) = page_text c
read_text file (Err f) = refusal_page file f

-- the page of the bytes of a file; the length is tested first
unfoldable pub statement_text : List ℕ → List ℕ
statement_text file = cond (fits file) (read_text file (read_file file)) too_long_text
