-- The refusal of a book as text.
use Rattle.std.specs.Prelude.{ℕ, List, ◌++◌, codes, decimal}
use Rattle.rules_articles.specs.Causes.{leg_or_zero}
use Rattle.rules_books.specs.declared.BookFault.{BookFault}

-- its cause, and the number of its leg, 0 for none
abbrev pub book_fault_text : BookFault → List ℕ
book_fault_text f = codes "refused by cause " ++ (decimal f.cause ++ (codes ", leg " ++ decimal (leg_or_zero f.leg)))
