-- A lemma: a product with a difference, on which the limits of a book rest.
-- It stands here, and not in `proofs/`, since a ghost member of an implementation may cite nothing outside `specs/`; no contract speaks of it.
use Rattle.std.proofs.Common.{◌≡◌, ℕ, suc, ◌-◌, ◌*◌, pos, negsuc, ◌-ℤ◌, ◌*ℤ◌, neg_ℤ, ap, ◌∙◌, ⊎_elim, mul-le-mul_left, arith}
use native.Mathlib.Nat.{mul-sub}
use Rattle.std.proofs.lemmas.Int.{ints}
use Rattle.std.proofs.lemmas.Bool.{cases_lt}

-- a factor goes over a difference
pub times_difference : (s x y : ℕ) → pos s *ℤ (pos x -ℤ pos y) ≡ pos (s * x) -ℤ pos (s * y)
times_difference s x y =
    ⊎_elim
    (λ lt.
    let e : pos x -ℤ pos y ≡ negsuc (y - x - 1) = omega (arith, ints) in
    let d : suc (y - x - 1) ≡ y - x = omega arith in
    ap (λ z. pos s *ℤ z) e ∙ ap (λ n. neg_ℤ (pos (s * n))) d ∙ omega (arith, ints, mul-sub s y x, mul-le-mul_left {m = x} {n = y} s (omega arith)))
    (λ le.
    let e : pos x -ℤ pos y ≡ pos (x - y) = omega (arith, ints) in
    ap (λ z. pos s *ℤ z) e ∙ omega (arith, ints, mul-sub s x y, mul-le-mul_left {m = y} {n = x} s (omega arith)))
    (cases_lt x y)
