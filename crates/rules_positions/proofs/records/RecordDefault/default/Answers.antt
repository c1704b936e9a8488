use Rattle.rules_positions.specs.Records.{in_range_lem}
use Rattle.rules_positions.proofs.records.RecordDefault.default.Goals as goal

pub invariant_of-result : goal.invariant_of-result
invariant_of-result c = record { ranged = in_range_lem }
