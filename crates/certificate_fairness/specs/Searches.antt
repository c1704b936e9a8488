-- What is asked of a search: of its positions and their marks, under its book's tables and its contract size.
use Rattle.std.specs.Prelude.{ℕ, List, ℤ}
use Rattle.rules_positions.specs.declared.record.Record.{Record}
use Rattle.rules_books.specs.Tables.{Tables}
use Rattle.certificate_fairness.specs.declared.Search.{Search}

-- what is asked of a book's tables, a contract size, positions and marks, asked of a search's
abbrev pub asked : {A B : Type 0} → (Tables → ℕ → List Record → List ℤ → A) → (B → Tables) → Search B → A
asked what tables s = what (tables s.book.now) s.size.units s.marked.held.now s.marked.marks.now
