use Rattle.std.proofs.Common.{◌≡◌, length}
use Rattle.rules_books.specs.Books.{sheet_tables}
use Rattle.file_head.specs.Lines.{pieces}
use Rattle.file_body.specs.Body.{body_from}
use Rattle.file_body.specs.Bodies.{body_in}
use Rattle.file_body.proofs.files.take_lines.Given as goal

-- what the lines that are left lead to is what all of them lead to
abbrev pub invariant-loop-bytes : goal.invariant-loop-bytes
invariant-loop-bytes l =
    (l.line ≡ l.reader.line_number)
    × (l.body.docket ≡ record l.initial.body.docket { tally = l.body.docket.tally })
    × (body_from (sheet_tables l.initial.body.docket.book) l.initial.body.docket.size l.reader.line_number (body_in l.body) (pieces l.reader)
    ≡ body_from (sheet_tables l.initial.body.docket.book) l.initial.body.docket.size l.initial.reader.line_number (body_in l.initial.body) (pieces l.initial.reader))

abbrev pub decreases-loop-bytes : goal.decreases-loop-bytes
decreases-loop-bytes l = length (pieces l.reader)
