use Rattle.std.proofs.Common.{◌≡◌, pos, ◌-ℤ◌, sym, ◌∙◌, arith, w64, to_z, of_z}
use Rattle.std.proofs.lemmas.Int.{ints}
use Rattle.rules_amounts.specs.Differences.{times_difference}
use Rattle.rules_amounts.proofs.contract_size.ContractSize.difference.Goals as goal

pub returns-clause-value : goal.returns-clause-value
returns-clause-value c =
    let a = c.times.result in
    let b = c.times-2.result in
    let d : to_z w64 (of_z w64 (to_z w64 a -ℤ to_z w64 b)) ≡ pos a -ℤ pos b = omega (arith, ints) in
    d ∙ omega (arith, ints, c.times.ensures.value, c.times-2.ensures.value) ∙ sym (times_difference c.args.self.units c.args.up.parts c.args.down.parts)
