use Rattle.std.proofs.Common.{◌≡◌, ◌*◌, ◌^◌, length, pos, ◌*ℤ◌, neg_ℤ, ◌≤ℤ◌}
use Rattle.certificate_pairing.specs.Sums.{sum_z}
use Rattle.certificate_pairing.specs.Pairing.{at, mark}
use Rattle.certificate_certify.proofs.floor.Given as goal

abbrev pub invariant-loop-record : goal.invariant-loop-record
invariant-loop-record l =
    (l.total ≡ sum_z (length l.yielded) (λ p. mark l.marked.marks.now p *ℤ pos (at l.marked.held.now p).quantity))
    × (neg_ℤ (pos (2 ^ 95 * length l.yielded)) ≤ℤ l.total)
    × (l.total ≤ℤ pos (2 ^ 95 * length l.yielded))
