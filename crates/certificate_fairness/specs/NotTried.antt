-- Which positions the search does not try.
use Rattle.std.specs.Prelude.{◌≡◌, ℕ, Bool, true, false, List, slice_index_or}
use Rattle.rules_positions.specs.declared.record.Record.{Record}
use Rattle.rules_articles.specs.declared.Leg.{Leg}
use Rattle.rules_books.specs.Tables.{Tables, IsRefusedAt}
use Rattle.certificate_pairing.specs.Pairing.{no_record}

-- a flag for each position, in their order: where it is true, the book refuses the position at the leg
abbrev pub FlagsOnlyRefused : Tables → List Record → ℕ → Leg → List Bool → Type 0
FlagsOnlyRefused t held article leg refused =
    (i : ℕ) → slice_index_or refused i false ≡ true → IsRefusedAt t article leg (slice_index_or held i no_record)
