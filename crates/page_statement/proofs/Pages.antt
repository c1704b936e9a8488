-- A file that is read, on its page.
use Rattle.std.proofs.Common.{◌≡◌, ℕ, ◌≤◌, List, ℤ, length, nat_le, true, cond, Ok, Err, Result, refl, sym, ap, ◌∙◌, rules, tests}
use Rattle.rules_books.specs.declared.sheets.Sheet.{Sheet}
use Rattle.rules_books.specs.declared.sheets.Sheet.TheVariants.{Share, Currency}
use Rattle.file_head.specs.Limit.{fits}
use Rattle.file_head.specs.Rates.{rates_on}
use Rattle.file_head.specs.declared.faults.ReadFault.{ReadFault}
use Rattle.file_reading.specs.declared.Content.{Content as ReadContent}
use Rattle.file_reading.specs.Content.{content_read}
use Rattle.file_reading.specs.Files.{Content, read_file}
use Rattle.answer_docket.specs.declared.FileFault.{FileFault}
use Rattle.answer_docket.specs.declared.FileFault.TheVariants.{TooLong}
use Rattle.answer_docket.specs.declared.Summary.{Summary}
use Rattle.answer_docket.specs.Answers.{summary_in, summary_read, answer_to}
use Rattle.page_statement.specs.Rules.{rules_by, rules_on}
use Rattle.page_statement.specs.Page.{page_under, page_text, too_long_text, read_text, statement_text}

-- the rules of a sheet are those of its values
rules_same : (s : Sheet) → rules_on s ≡ rules_by (rates_on s)
rules_same (Share s) = refl
rules_same (Currency c) = refl

-- what the file is answered is that of the docket and the marks that it is read to
answered : (file : List ℕ) (c : Content) (answer : Result Summary FileFault) → fits file ≡ true → Ok c ≡ read_file file → answer ≡ answer_to file → answer ≡ summary_in c
answered file c answer few read said =
    said
    ∙ ap (λ b. cond b (summary_read (read_file file)) (Err TooLong)) few
    ∙ ap summary_read (sym read)

-- its page is under the rules of its sheet
pub page_read : (file : List ℕ) (x : ReadContent) (places : List ℤ) (answer : Result Summary FileFault) → fits file ≡ true → Ok (content_read x places) ≡ read_file file → answer ≡ answer_to file → page_under (rules_on x.docket.book) (content_read x places) answer ≡ page_text (content_read x places)
page_read file x places answer few read said = λ j. page_under (rules_same x.docket.book j) (content_read x places) (answered file (content_read x places) answer few read said j)

-- what is printed of what was read is the page of the file
pub read_shown : (file : List ℕ) (r : Result Content ReadFault) → fits file ≡ true → r ≡ read_file file → read_text file r ≡ statement_text file
unfolding statement_text
read_shown file r few read =
    ap (read_text file) read ∙ ap (λ b. cond b (read_text file (read_file file)) too_long_text) (sym few)
