use Rattle.std.proofs.Common.{◌≤◌, length, arith, rules}
use native.Mathlib.Nat.{pow-le-pow_right}
use Rattle.file_fields.proofs.numbers.natural_of.Goals as goal

pub digits_after-requires : goal.digits_after-requires
digits_after-requires c =
    let h : length c.args.s.now ≤ 15 = search rules in
    omega (arith, pow-le-pow_right {n = 10} (omega arith) {i = length c.args.s.now} {j = 15} h)
