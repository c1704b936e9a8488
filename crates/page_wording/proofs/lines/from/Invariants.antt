use Rattle.std.proofs.Common.{◌≡◌, ◌≤◌, length}
use Rattle.page_wording.specs.Lines.{rest_after}
use Rattle.page_wording.proofs.lines.from.Given as goal

abbrev pub invariant-loop : goal.invariant-loop
invariant-loop l = (l.rest ≡ rest_after l.counter l.file) × (length l.rest ≤ length l.file)
