-- A session: the head opens a docket, and then each line is answered in turn.
use Rattle.std.specs.Prelude.{ℕ, ◌+◌, cond, List, [], ◌∷◌, ◌++◌, Ok, Err, Result}
use Rattle.std.specs.Result.{result_map_both}
use Rattle.rules_books.specs.Tables.{Tables}
use Rattle.certificate_pairing.specs.Dockets.{Tally, empty, Docket}
use Rattle.calls_serve.specs.declared.Call.{Call}
use Rattle.calls_serve.specs.Runs.{Reply, reply_to, after}
use Rattle.file_fields.specs.Fields.{Got, split}
use Rattle.file_head.specs.declared.faults.LineFault.{LineFault}
use Rattle.file_head.specs.Limit.{fits}
use Rattle.file_head.specs.Faults.{on_line, no_line}
use Rattle.file_head.specs.Rates.{tables_by}
use Rattle.file_head.specs.Head.{Head, head_at}
use Rattle.answer_docket.specs.declared.FileFault.{FileFault}
use Rattle.answer_docket.specs.declared.FileFault.TheVariants.{TooLong}
use Rattle.answer_docket.specs.Answers.{from_read}
use Rattle.answer_docket.specs.Texts.{fault_text}
use Rattle.answer_session.specs.declared.replies.LineReply.{LineReply}
use Rattle.answer_session.specs.declared.replies.LineReply.TheVariants.{Granted, Refused, Bad}
use Rattle.answer_session.specs.Lines.{call_at}
use Rattle.answer_session.specs.Texts.{reply_text}
use Rattle.calls_serve.specs.Laws.{opened}

-- the reply to a call is that of its line
abbrev pub from_reply : Reply → LineReply
from_reply (Ok granted) = Granted granted
from_reply (Err refusal) = Refused refusal

-- the reply to line n: to the call that it sends, or that it is bad
abbrev pub line_reply : Docket Tables → ℕ → Result Call LineFault → LineReply
line_reply d n (Ok call) = from_reply (reply_to d call)
line_reply d n (Err fault) = Bad (on_line n fault)

-- the tally after a line; a bad line changes nothing
abbrev pub after_line : Docket Tables → Result Call LineFault → Tally
after_line d (Ok call) = after d call
after_line d (Err fault) = d.tally

-- the input ends where a line would begin, and nothing more is printed; a last line with no ending byte is bad
abbrev pub end_text : ℕ → List ℕ → List ℕ
end_text n [] = []
end_text n (c ∷ cs) = reply_text (Bad (on_line n no_line))

-- what is printed for the lines from line n on, each by the docket that those before it led to
abbrev pub lines_text : Docket Tables → ℕ → List (List ℕ) → List ℕ
lines_text d n [] = []
lines_text d n (f ∷ []) = end_text n f
lines_text d n (f ∷ g ∷ fs) = reply_text (line_reply d n (call_at f)) ++ lines_text (record d { tally = after_line d (call_at f) }) (n + 1) (g ∷ fs)

-- the head of the input, or why it is refused; the length of the whole input is tested first
abbrev pub head_in : List ℕ → Result (Got Head) FileFault
head_in input = cond (fits input) (result_map_both (λ g. g) from_read (head_at 1 (split 10 input))) (Err TooLong)

-- the docket that a head opens, by its book's tables
abbrev pub docket_opened : Head → Docket Tables
docket_opened h = opened (tables_by h.rates) h.size

-- what is printed after a head: its refusal alone, or the replies to the lines after it, on a docket just opened
abbrev pub text_after : Result (Got Head) FileFault → List ℕ
text_after (Ok g) = lines_text (docket_opened g.value) g.place g.left
text_after (Err fault) = fault_text fault

-- all that a session prints
abbrev pub session_text : List ℕ → List ℕ
session_text input = text_after (head_in input)
