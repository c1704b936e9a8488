use Rattle.std.proofs.Common.{◌≡◌, ◌++◌, length, string_bytes}
use Rattle.rules_books.specs.Books.{sheet_tables}
use Rattle.file_head.specs.Lines.{pieces}
use Rattle.answer_session.specs.Sessions.{lines_text}
use Rattle.answer_session.specs.Laws.{whole_lines, tally_after_lines}
use Rattle.answer_session.proofs.serving.Opened.serve_lines.Given as goal
use Rattle.certificate_pairing.specs.Dockets.{docket_by}

-- the lines that are left lead where all of them do; what is printed so far, and what the lines that are left print, is what all of them print
abbrev pub invariant-loop-out : goal.invariant-loop-out
invariant-loop-out l =
    let d = l.initial.self.docket in
    let now = docket_by sheet_tables l.self.docket in
    let first = docket_by sheet_tables d in
    record {
      kept : l.self.docket ≡ record d { tally = l.self.docket.tally };
      led : tally_after_lines now (whole_lines (pieces l.self.reader)) ≡ tally_after_lines first (whole_lines (pieces l.initial.self.reader));
      printed : string_bytes l.out ++ lines_text now l.self.reader.line_number (pieces l.self.reader)
          ≡ lines_text first l.initial.self.reader.line_number (pieces l.initial.self.reader);
    }

abbrev pub decreases-loop-out : goal.decreases-loop-out
decreases-loop-out l = length (pieces l.self.reader)
