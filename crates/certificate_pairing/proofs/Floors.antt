-- Fair marks are worth no more than any lawful pairing costs.
use Rattle.std.proofs.Common.{◌≡◌, ℕ, ◌+◌, ◌-◌, ◌*◌, List, [], ◌∷◌, length, ℤ, pos, ◌+ℤ◌, ◌*ℤ◌, ◌≤ℤ◌, sym, ap, ◌∙◌, subst, arith}
use lib.IntN.{*ℤ-zero}
use Rattle.std.proofs.lemmas.Int.{ints}
use Rattle.rules_positions.specs.declared.record.Record.{Record}
use Rattle.rules_books.specs.Tables.{Tables}
use Rattle.certificate_pairing.specs.Sums.{sum_z}
use Rattle.certificate_pairing.specs.Pairing.{Set, ArePositions, at, mark, lot, takes, worth, requirement, IsFair, floor, used, required, AllAllowed, IsLawfulPairing, cost, FloorUnderCost}
use Rattle.certificate_pairing.proofs.Sums.{times_sum, times_le, sum_z_add, sum_z_same, sum_z_le, sum_z_none, sum_z_at, at_one}

module _ (t : Tables) (s : ℕ) (held : List Record) (marks : List ℤ) where
  abbrev n : ℕ
  n = length held

  abbrev m : ℕ → ℤ
  m p = mark marks p

  -- the marks of what the legs take, position by position
  sum_takes : (qs : List ℕ) → ArePositions held qs → sum_z n (λ p. m p *ℤ pos (takes s held qs p)) ≡ worth s held marks qs
  sum_takes [] h = sum_z_none n (λ p. m p *ℤ pos 0) (λ p _ _. *ℤ-zero (m p))
  sum_takes (q ∷ qs) h =
      sum_z_same n _ (λ p. (m p *ℤ pos (at_one q (lot s held q) p)) +ℤ (m p *ℤ pos (takes s held qs p))) (λ p _ _. times_sum (m p) (at_one q (lot s held q) p) (takes s held qs p))
      ∙ sum_z_add n (λ p. m p *ℤ pos (at_one q (lot s held q) p)) (λ p. m p *ℤ pos (takes s held qs p))
      ∙ ap (λ (z : ℤ). z +ℤ sum_z n (λ p. m p *ℤ pos (takes s held qs p))) (sum_z_at n m q (lot s held q) h.0.0 h.0.1)
      ∙ ap (λ (z : ℤ). (m q *ℤ pos (lot s held q)) +ℤ z) (sum_takes qs h.1)

  module _ (fair : IsFair t s held marks) where
    used_le : (xs : List Set) → AllAllowed t s held xs → sum_z n (λ p. m p *ℤ pos (used s held xs p)) ≤ℤ pos (required t s held xs)
    used_le [] h = let e = sum_z_none n (λ p. m p *ℤ pos 0) (λ p _ _. *ℤ-zero (m p)) in omega (arith, ints)
    used_le (x ∷ xs) h =
        let e = sum_z_same n (λ p. m p *ℤ pos (takes s held x.legs p + used s held xs p)) (λ p. (m p *ℤ pos (takes s held x.legs p)) +ℤ (m p *ℤ pos (used s held xs p))) (λ p _ _. times_sum (m p) (takes s held x.legs p) (used s held xs p))
        ∙ sum_z_add n (λ p. m p *ℤ pos (takes s held x.legs p)) (λ p. m p *ℤ pos (used s held xs p)) in
        let here = subst (λ (z : ℤ). z ≤ℤ pos (requirement t s held x)) (sym (sum_takes x.legs h.0.positions)) (fair.sets x h.0) in
        let rest = used_le xs h.1 in
        omega (arith, ints)

    bound : (xs : List Set) → IsLawfulPairing t s held xs → floor held marks ≤ℤ pos (cost t s held xs)
    bound xs h =
        let units = λ (p : ℕ). (at held p).quantity in
        let rest = λ (p : ℕ). units p - used s held xs p in
        let e = sum_z_same n (λ p. m p *ℤ pos (units p)) (λ p. (m p *ℤ pos (used s held xs p)) +ℤ (m p *ℤ pos (rest p)))
        (λ p low high. ap (λ (u : ℕ). m p *ℤ pos u) (let f = h.fits p (low, high) in omega arith) ∙ times_sum (m p) (used s held xs p) (rest p))
        ∙ sum_z_add n (λ p. m p *ℤ pos (used s held xs p)) (λ p. m p *ℤ pos (rest p)) in
        let over = sum_z_le n (λ p. m p *ℤ pos (rest p)) (λ p. t.alone s (at held p) * rest p) (λ p low high. times_le (m p) (t.alone s (at held p)) (rest p) (fair.alone p (low, high))) in
        let sets = used_le xs h.allowed in
        omega (arith, ints)

pub floor_under_cost : FloorUnderCost
floor_under_cost t s held marks xs fair h = bound t s held marks fair xs h
