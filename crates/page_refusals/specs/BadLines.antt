-- A bad line, in words.
use Rattle.std.specs.Prelude.{ℕ, ◌+◌, ◌-◌, Bool, true, false, cond, List, ◌++◌, length, find, slice_get, Some, None, codes, decimal, Option, ◌==◌, nat_le, nat_lt, if◌then◌else◌}
use Rattle.std.specs.List.{before_last, range_with_len}
use Rattle.std.specs.Str.{bytes_eq}
use Rattle.file_head.specs.declared.faults.LineCause.{LineCause}
use Rattle.file_head.specs.declared.faults.LineCause.TheVariants.{NoLine, WrongKey, IllFormed, Repeated}
use Rattle.page_refusals.specs.declared.forms.LineKind.{LineKind}
use Rattle.page_wording.specs.Names.{ordinal}
use Rattle.page_wording.specs.Lines.{line_at}
use Rattle.page_wording.specs.Fields.{field_number_at, begins_at}
use Rattle.page_refusals.specs.Forms.{key_text, line_words, field_names, form_of, form_words, line_kind, due_kind}
use Rattle.page_refusals.specs.Before.{Before}
use Rattle.page_refusals.specs.Words.{Said, saying}

-- what may stand on a line after the head, by the numbers of claims and of marks before it
abbrev pub body_text : ℕ → ℕ → List ℕ
body_text claims marks =
    if nat_le 32 marks then codes "nothing stands after the 32nd mark"
    else (if nat_lt 0 marks then codes "after a mark stand marks: a line of mark="
    else (if nat_lt 0 claims then codes "after a claim stand claims and marks: a line of claim= or of mark="
    else codes "a line of pos=, of claim= or of mark="))

-- what a line of the head has to be
abbrev pub head_text : ℕ → Option LineKind → List ℕ
head_text number (Some kind) = codes "line " ++ (decimal number ++ (codes " is " ++ line_words kind))
head_text number None = codes "a line of pos=, of claim= or of mark="

-- the second line names a currency
abbrev pub of_currency : List ℕ → Bool
of_currency file = bytes_eq (line_at file 2) (codes "market=currency")

-- what is due on a line, by what stands before it
abbrev pub due_text : List ℕ → ℕ → Option Before → List ℕ
due_text file number (Some before) = body_text (length before.docket.tally.claims) before.marks
due_text file number None = head_text number (due_kind number (of_currency file))

-- no line, or one that is not ended
abbrev pub no_line_words : List ℕ → ℕ → List ℕ → Said
no_line_words line place due =
    if length line == 0 then saying (Some place) (codes "the file ends where a line is due") due
    else saying (Some place) (codes "the line is not ended") (codes "every line is ended by a line feed (byte 10), the last one too")

-- a key that may not stand there
abbrev pub key_words : Option LineKind → List ℕ
key_words (Some kind) = codes "a line of " ++ (key_text kind ++ codes " may not stand there")
key_words None = codes "the line does not begin with a key that may stand there"

-- such a line
abbrev pub wrong_key_words : List ℕ → ℕ → List ℕ → Said
wrong_key_words line place due = saying (Some place) (key_words (line_kind line)) due

-- the field at fault: the one at the place; where none begins there, the one after it is missing
abbrev pub field_at_fault : List ℕ → LineKind → ℕ → ℕ
field_at_fault line kind place = cond (begins_at line (key_text kind) place) (field_number_at line (key_text kind) place) (field_number_at line (key_text kind) place + 1)

-- a whole line of a kind
abbrev pub whole_text : LineKind → List ℕ
whole_text kind = codes "a line is " ++ line_words kind

-- a field that is there, by its name
abbrev pub ill_formed_text : ℕ → List ℕ → List ℕ
ill_formed_text field name = codes "the " ++ (ordinal field ++ (codes " field (" ++ (name ++ codes ") is ill-formed")))

-- a field that is not there, by its name
abbrev pub missing_text : ℕ → List ℕ → List ℕ
missing_text field name = codes "the " ++ (ordinal field ++ (codes " field (" ++ (name ++ codes ") is missing")))

-- a field of a kind, by its number, whether it is there, and its name, if the kind has such a field
abbrev pub field_words : LineKind → ℕ → ℕ → Bool → Option (List ℕ) → Said
field_words kind place field there None = saying (Some place) (codes "a field too many") (whole_text kind)
field_words kind place field true (Some name) = saying (Some place) (ill_formed_text field name) (form_words (form_of kind field))
field_words kind place field false (Some name) = saying (Some place) (missing_text field name) (whole_text kind)

-- the field of a number
abbrev pub numbered_words : LineKind → ℕ → ℕ → Bool → Said
numbered_words kind place field there = field_words kind place field there (slice_get (field_names kind) (field - 1))

-- a field that is bad, missing or too many
abbrev pub ill_formed_words : List ℕ → ℕ → LineKind → Said
ill_formed_words line place kind = numbered_words kind place (field_at_fault line kind place) (begins_at line (key_text kind) place)

-- a claim's line without its sets
abbrev pub up_to_sets : List ℕ → List ℕ
up_to_sets line = before_last (λ c. c == 44) line

-- the first line before a number that is equal to a line up to its last comma
abbrev pub same_before : List ℕ → ℕ → List ℕ → Option ℕ
same_before file number line = find (λ n. bytes_eq (up_to_sets (line_at file n)) (up_to_sets line)) (range_with_len 1 (number - 1))

-- that line, if there is one
abbrev pub repeated_text : Option ℕ → List ℕ
repeated_text (Some number) = codes "line " ++ (decimal number ++ codes " claims under the same article and legs")
repeated_text None = codes "an earlier line claims under the same article and legs"

-- a claim of an earlier line's article and legs
abbrev pub repeated_words : List ℕ → ℕ → List ℕ → ℕ → Said
repeated_words file number line place =
    saying (Some place) (repeated_text (same_before file number line)) (codes "one line of claim= for an article and its legs, with all its sets")

-- an ill-formed line of a kind, or of none
abbrev pub ill_words : List ℕ → ℕ → List ℕ → Option LineKind → Said
ill_words line place due (Some kind) = ill_formed_words line place kind
ill_words line place due None = wrong_key_words line place due

-- a bad line by its cause
abbrev pub bad_words : List ℕ → ℕ → List ℕ → ℕ → List ℕ → LineCause → Said
bad_words file number line place due NoLine = no_line_words line place due
bad_words file number line place due WrongKey = wrong_key_words line place due
bad_words file number line place due IllFormed = ill_words line place due (line_kind line)
bad_words file number line place due Repeated = repeated_words file number line place
