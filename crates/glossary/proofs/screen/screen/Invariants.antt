use Rattle.std.proofs.Common.{◌≡◌, ◌++◌, take, string_bytes}
use Rattle.std.specs.List.{flat_map}
use Rattle.glossary.specs.Screen.{heading, term_text}
use Rattle.glossary.proofs.screen.screen.Given as goal

abbrev pub invariant-loop-term : goal.invariant-loop-term
invariant-loop-term l = string_bytes l.page ≡ heading ++ flat_map (term_text l.contract) (take l.term-index l.term-items)
