use Rattle.std.proofs.Common.{◌≡◌, ℕ, List, ◌++◌, take, string_bytes}
use Rattle.std.specs.List.{flat_map}
use Rattle.file_writing.specs.Texts.{ended, PrintsAs}
use Rattle.file_writing.proofs.lines.lines.Given as goal

abbrev pub invariant-loop-item : goal.invariant-loop-item
invariant-loop-item g l = (text : g.row.T.Denot → List ℕ) → PrintsAs g.T.Display.output text → string_bytes l.out ≡ flat_map (λ x. ended (l.key ++ text x)) (take l.item-index l.items)
