-- What holds after each line of a session.
use Rattle.std.specs.Prelude.{◌≡◌, ℕ, List, [], ◌∷◌, take, Ok}
use Rattle.rules_books.specs.Tables.{Tables}
use Rattle.certificate_pairing.specs.Dockets.{Tally, empty, Docket}
use Rattle.calls_serve.specs.Laws.{Holds, IsReached}
use Rattle.file_fields.specs.Fields.{Got}
use Rattle.file_head.specs.Rates.{tables_by}
use Rattle.file_head.specs.Head.{Head}
use Rattle.answer_session.specs.Lines.{call_at}
use Rattle.answer_session.specs.Sessions.{after_line, head_in, docket_opened}

-- the lines: all pieces but the last, which no ending byte follows
abbrev pub whole_lines : List (List ℕ) → List (List ℕ)
whole_lines [] = []
whole_lines (f ∷ []) = []
whole_lines (f ∷ g ∷ fs) = f ∷ whole_lines (g ∷ fs)

-- the tally after some lines
abbrev pub tally_after_lines : Docket Tables → List (List ℕ) → Tally
tally_after_lines d [] = d.tally
tally_after_lines d (f ∷ fs) = tally_after_lines (record d { tally = after_line d (call_at f) }) fs

-- the tally after the first k lines that follow a head
abbrev pub tally_at : Got Head → ℕ → Tally
tally_at g k = tally_after_lines (docket_opened g.value) (take k (whole_lines g.left))

-- some list of calls led here from a docket just opened, and all that should hold does
abbrev pub ReachedAndHolds : Docket Tables → Type 0
ReachedAndHolds d = IsReached d × Holds d

-- so it is after each line of a session whose head opens a docket
abbrev pub HoldsThroughout : List ℕ → Type 0
HoldsThroughout input = (g : Got Head) → head_in input ≡ Ok g → (k : ℕ) → ReachedAndHolds (record (docket_opened g.value) { tally = tally_at g k })
