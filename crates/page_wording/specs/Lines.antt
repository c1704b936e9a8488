-- The lines of a file by their numbers, from 1.
use Rattle.std.specs.Prelude.{ℕ, zero, suc, ◌-◌, Bool, List, length, take, ◌==◌}
use Rattle.std.specs.List.{before_first, after_first}

-- byte 10 ends a line
abbrev pub ends_line : ℕ → Bool
ends_line c = c == 10

-- what stands after the first lines, so many of them
abbrev pub rest_after : ℕ → List ℕ → List ℕ
rest_after zero file = file
rest_after (suc n) file = after_first ends_line (rest_after n file)

-- a line without its ending byte; nothing where there is none
abbrev pub line_at : List ℕ → ℕ → List ℕ
line_at file number = before_first ends_line (rest_after (number - 1) file)

-- all that stands before a line
abbrev pub before_line : List ℕ → ℕ → List ℕ
before_line file number = take (length file - length (rest_after (number - 1) file)) file
