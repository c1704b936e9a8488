use Rattle.std.proofs.Common.{◌≡◌, suc, ◌-◌, ◌<◌, length, take, drop, arith, rules}
use Rattle.file_fields.proofs.Digits.{small, room_more}
use Rattle.file_fields.proofs.numbers.+digits_after.Goals as goal

pub overflow_mul-n : goal.overflow_mul-n
overflow_mul-n t c = omega (arith, small c.args.n (length c.args.s.now) _ c.requires)

pub overflow_add-n : goal.overflow_add-n
overflow_add-n t c = omega (arith, small c.args.n (length c.args.s.now) _ c.requires)

pub digits_after-requires : goal.digits_after-requires
digits_after-requires t c =
    let s = c.args.s.now in
    let some : 0 < length s = search rules in
    let k : length (take (length s - 1) (drop 1 s)) ≡ length s - 1 = search rules in
    let e : length s ≡ suc (length s - 1) = omega arith in (
      search rules,
      rw k (room_more c.args.n c.from.result (length s - 1) _ (rw e at c.requires) (search rules)),
    )
