use Rattle.std.proofs.Common.{◌≡◌, map, take}
use Rattle.rules_books.specs.Books.{sheet_tables}
use Rattle.answer_tariff.proofs.charged.Given as goal

abbrev pub invariant-loop-position : goal.invariant-loop-position
invariant-loop-position l = l.parts.items ≡ map ((sheet_tables l.docket.book).alone l.docket.size) (take l.position-index l.docket.tally.held)
