-- A line as it is shown, with a mark under one of its bytes.
use Rattle.std.specs.Prelude.{ℕ, ◌-◌, Bool, cond, ◌&&◌, List, [], ◌++◌, map, length, take, drop, Some, None, codes, Option, ◌==◌, nat_lt, nat_le, unwrap_or}
use Rattle.std.specs.List.{repeat}

-- a byte that is no printable ASCII is shown as ? (63)
abbrev pub shown_byte : ℕ → ℕ
shown_byte c = cond (nat_le 32 c && nat_le c 126) c 63

-- how many bytes before a place are not shown
abbrev pub hidden : ℕ → ℕ
hidden place = cond (nat_lt 80 place) (place - 60) 0

-- three points stand for bytes that are not shown
abbrev pub dots : Bool → List ℕ
dots cut = cond cut (codes "...") []

-- so many spaces
unfoldable pub spaces : ℕ → List ℕ
spaces count = repeat count (codes " ")

-- said of a line with nothing on it
abbrev pub empty_note : List ℕ → List ℕ
empty_note line = cond (length line == 0) (codes "(there is nothing on this line)") []

-- the mark under the byte at a place, where so many bytes before are not shown
abbrev pub mark_text : Option ℕ → ℕ → List ℕ
mark_text None cut = []
mark_text (Some place) cut = codes "  " ++ (spaces (cond (nat_lt 0 cut) 3 0) ++ (spaces (place - 1 - cut) ++ codes "^\n"))

-- the bytes of a line from the first that is shown, at most 88 of them
abbrev pub part_text : List ℕ → List ℕ
part_text rest = map shown_byte (take 88 rest) ++ dots (nat_lt 88 (length rest))

-- the line where so many bytes are not shown
abbrev pub line_text : List ℕ → ℕ → List ℕ
line_text line cut = codes "  " ++ dots (nat_lt 0 cut) ++ part_text (drop cut line) ++ empty_note line ++ codes "\n"

-- the line, and a line with the mark
abbrev pub shown_text : List ℕ → Option ℕ → List ℕ
shown_text line place = line_text line (hidden (unwrap_or place 1)) ++ mark_text place (hidden (unwrap_or place 1))
