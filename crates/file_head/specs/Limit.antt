-- How long a file may be.
use Rattle.std.specs.Prelude.{ℕ, Bool, List, length, nat_le}

-- at most 65,536 bytes
abbrev pub fits : List ℕ → Bool
fits file = nat_le (length file) 65536
