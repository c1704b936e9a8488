-- The fields of a line: where each begins, and which stands at a place.
use Rattle.std.specs.Prelude.{ℕ, ◌+◌, ◌-◌, Bool, false, ◌||◌, List, length, take, drop, count_by, filter, slice_get, Some, None, Option, ◌==◌}
use Rattle.std.specs.List.{enumerate_from}
use Rattle.std.specs.Option.{option_map_or}

-- a field stands after an equals sign (61) and after each comma (44)
abbrev pub leads : ℕ → Bool
leads c = c == 61 || c == 44

-- where the field of a number begins, from 1; the line's first byte where there is no such field
abbrev pub place_of : List ℕ → ℕ → ℕ
place_of line field = option_map_or (λ x. x.0 + 2) (slice_get (filter (λ x. leads x.1) (enumerate_from 0 line)) (field - 1)) 1

-- the number of the field at a place, from 1: one more than the commas between the key and the place
abbrev pub field_number_at : List ℕ → List ℕ → ℕ → ℕ
field_number_at line key place = count_by (λ c. c == 44) (drop (length key) (take (place - 1) line)) + 1

-- a comma is there
abbrev pub is_comma : Option ℕ → Bool
is_comma None = false
is_comma (Some c) = c == 44

-- a field begins after the key, and after each comma
abbrev pub begins_at : List ℕ → List ℕ → ℕ → Bool
begins_at line key place = place == length key + 1 || is_comma (slice_get line (place - 2))
