use Rattle.std.proofs.Common.{◌≡◌, ℕ, false, slice_index_or, ⊎_elim, arith}
use Rattle.std.proofs.Math.ListN.{replicate, length-replicate, get_or-eq_default}
use Rattle.std.proofs.lemmas.Bool.{cases_lt}
use Rattle.std.proofs.lemmas.List.{get_or-replicate}
use Rattle.certificate_fairness.proofs.Search.refused_positions.Goals as goal

none_refused : (n i : ℕ) → slice_index_or (replicate n false) i false ≡ false
none_refused n i =
    ⊎_elim (get_or-replicate n i false false) (λ past. get_or-eq_default (replicate n false) false (omega (arith, length-replicate n false))) (cases_lt i n)

pub loop-i-init : goal.loop-i-init
loop-i-init g c = λ i refused. absurd (let none = none_refused 32 i in let w : ⊥ = cc in w)
