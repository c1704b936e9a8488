-- The lines of a file: what byte 10 parts. The last piece is no line, since no ending byte follows it.
use Rattle.std.specs.Prelude.{ℕ, ◌+◌, cond, List, [], ◌∷◌, length, take, drop, Some, None, Ok, Err, Option, Result}
use Rattle.std.specs.Result.{result_map_both}
use Rattle.std.specs.Str.{bytes_eq}
use Rattle.file_fields.specs.Fields.{split, Got, got, one_field}
use Rattle.file_head.specs.declared.faults.LineFault.{LineFault}
use Rattle.file_head.specs.declared.faults.ReadFault.{ReadFault}
use Rattle.file_head.specs.declared.reader.Reader.{Reader}
use Rattle.file_head.specs.Faults.{on_line, no_line, wrong_key, from_field}

-- the pieces that a reader has before it
abbrev pub pieces : Reader → List (List ℕ)
pieces r = split 10 (drop r.at r.file.now)

-- what is read from where a reader stands, by the number of its line and the pieces before it
abbrev pub read_by : {A : Type 0} → Reader → (ℕ → List (List ℕ) → A) → A
read_by r reads = reads r.line_number (pieces r)

-- what was read, with where the reader stands after it
abbrev pub left_by : {A E : Type 0} → Reader → Result A E → Result (Got A) E
left_by r x = got x r.line_number (pieces r)

-- the file ends where a line would begin; a line without its ending byte is none
abbrev pub last_piece : ℕ → List ℕ → Result (Got (Option (List ℕ))) ReadFault
last_piece n [] = Ok (record { value = None; place = n; left = [] ∷ [] })
last_piece n (c ∷ cs) = Err (on_line n no_line)

-- the next line, if there is one
abbrev pub next_line : ℕ → List (List ℕ) → Result (Got (Option (List ℕ))) ReadFault
next_line n [] = Ok (record { value = None; place = n; left = [] })
next_line n (f ∷ []) = last_piece n f
next_line n (f ∷ g ∷ fs) = Ok (record { value = Some f; place = n + 1; left = g ∷ fs })

-- what stands after a key, or None where another stands there
abbrev pub strip : List ℕ → List ℕ → Option (List ℕ)
strip key bs = cond (bytes_eq (take (length key) bs) key) (Some (drop (length key) bs)) None

-- the value after a key, which begins at the place after it
abbrev pub after_key : {A : Type 0} → (ℕ → List ℕ → Result A LineFault) → ℕ → Option (List ℕ) → Result A LineFault
after_key reads p None = Err wrong_key
after_key reads p (Some v) = reads p v

-- a value of one field
abbrev pub single : {A : Type 0} → (List ℕ → Option A) → ℕ → List ℕ → Result A LineFault
single reads p v = result_map_both (λ x. x) from_field (one_field reads p (split 44 v))

-- a line of a key and one field
abbrev pub value_of : {A : Type 0} → (List ℕ → Option A) → List ℕ → List ℕ → Result A LineFault
value_of reads key f = after_key (single reads) (length key + 1) (strip key f)

-- what a line gives, or its fault on line n
abbrev pub line_gives : {A : Type 0} → ℕ → List (List ℕ) → Result A LineFault → Result (Got A) ReadFault
line_gives n fs (Ok x) = Ok (record { value = x; place = n + 1; left = fs })
line_gives n fs (Err f) = Err (on_line n f)

-- a line is due
abbrev pub due_line : {A : Type 0} → (List ℕ → Result A LineFault) → ℕ → List (List ℕ) → Result (Got A) ReadFault
due_line reads n [] = Err (on_line n no_line)
due_line reads n (f ∷ []) = Err (on_line n no_line)
due_line reads n (f ∷ g ∷ fs) = line_gives n (g ∷ fs) (reads f)

-- a line of a key and one field is due
unfoldable pub value_line : {A : Type 0} → (List ℕ → Option A) → List ℕ → ℕ → List (List ℕ) → Result (Got A) ReadFault
value_line reads key n fs = due_line (value_of reads key) n fs
