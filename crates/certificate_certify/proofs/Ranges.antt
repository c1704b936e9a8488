-- The numbers of a range that has its end.
use Rattle.std.proofs.Common.{◌≡◌, ℕ, zero, suc, ◌+◌, ◌-◌, Bool, true, false, refl, sym, ap, ◌∙◌, subst, arith}
use Rattle.std.specs.Iterator.{AlwaysYields}
use Rattle.std.specs.List.{range_with_len}
use Rattle.std.specs.Range.{range_inclusive_start, range_inclusive_end, range_inclusive_exhausted, range_inclusive_len}
use Rattle.std.specs.declared.ops.RangeInclusive.{RangeInclusive}
use Rattle.std.proofs.iter.runs.Sources.{nat_range_inclusive_steps}
use Rattle.std.proofs.lemmas.Iterator.{YieldsList}

-- how many are left
abbrev left : ℕ → ℕ → Bool → ℕ
left a b x = range_inclusive_len (λ (x y : ℕ). y - x) a b x

unspent : (a b : ℕ) (x : Bool) (n : ℕ) → left a b x ≡ suc n → x ≡ false
unspent a b false n e = refl
unspent a b true n e = absurd (let w : ⊥ = omega (arith, e) in w)

counts_up : (n a : ℕ) (s : RangeInclusive ℕ) → left (range_inclusive_start s) (range_inclusive_end s) (range_inclusive_exhausted s) ≡ n → (range_inclusive_exhausted s ≡ false → range_inclusive_start s ≡ a) → AlwaysYields nat_range_inclusive_steps (λ x. x) s (range_with_len a n)
counts_up zero a s e h = λ x j p. omega (arith, p.1.1, e)
counts_up (suc n) a s e h =
    let from = h (unspent (range_inclusive_start s) (range_inclusive_end s) (range_inclusive_exhausted s) n e) in (
      (λ j p. omega (arith, p.1.0, e)),
      λ x j p. (p.1.0 ∙ from, counts_up n (a + 1) j (omega (arith, p.1.1, e)) (λ z. p.1.2 z ∙ ap (λ (k : ℕ). k + 1) from)),
    )

pub yields_up_to : {t : RangeInclusive ℕ} (s : RangeInclusive ℕ) (n : ℕ) → t ≡ s → range_inclusive_start s ≡ 1 → range_inclusive_end s ≡ n → range_inclusive_exhausted s ≡ false → YieldsList nat_range_inclusive_steps (λ x. x) t (range_with_len 1 n)
yields_up_to s n i a b e = record { runs = subst (λ (t : RangeInclusive ℕ). AlwaysYields nat_range_inclusive_steps (λ x. x) t (range_with_len 1 n)) (sym i) (counts_up n 1 s (omega (arith, ap (left (range_inclusive_start s) (range_inclusive_end s)) e, a, b)) (λ z. a)) }
