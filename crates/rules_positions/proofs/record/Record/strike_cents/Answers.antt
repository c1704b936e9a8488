use Rattle.rules_positions.specs.Bounds.{strike_high}
use Rattle.rules_positions.proofs.record.Record.strike_cents.Goals as goal

pub invariant_of-result : goal.invariant_of-result
invariant_of-result c = record { high = strike_high _ _ _ _ _ c.args.self.now.ranged }
