use Rattle.std.proofs.Common.{ℕ, suc, ◌+◌, ◌*◌, ◌^◌, ◌≤◌, ap, mul-le-mul_right, mul_assoc, mul_comm, mul-le-mul_left, pow-suc, arith}
use Rattle.std.proofs.Math.Nat.{one-le-pow}

-- a number with room for k more digits
pub small : (n k m : ℕ) → (n + 1) * 10 ^ k ≤ m → n + 1 ≤ m
small n k m h = omega (arith, mul-le-mul_left (n + 1) (one-le-pow k 10 (omega arith)))

pub room_more : (n d k m : ℕ) → (n + 1) * 10 ^ suc k ≤ m → d ≤ 9 → (n * 10 + d + 1) * 10 ^ k ≤ m
room_more n d k m h le =
    omega (arith, mul-le-mul_right {m = n * 10 + d + 1} {n = (n + 1) * 10} (10 ^ k) (omega arith), mul_assoc (n + 1) (10 ^ k) 10, mul_assoc (n + 1) 10 (10 ^ k), mul_comm (10 ^ k) 10, ap (λ p. (n + 1) * p) (mul_comm (10 ^ k) 10), ap (λ p. (n + 1) * p) (pow-suc 10 k))
