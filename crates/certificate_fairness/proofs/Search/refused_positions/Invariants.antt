use Rattle.certificate_fairness.specs.NotTried.{FlagsOnlyRefused}
use Rattle.certificate_fairness.proofs.Search.refused_positions.Given as goal

abbrev pub invariant-loop-i : goal.invariant-loop-i
invariant-loop-i g l = FlagsOnlyRefused (g.B.Book.tables l.self.book.now) l.self.marked.held.now l.article l.leg l.refused
