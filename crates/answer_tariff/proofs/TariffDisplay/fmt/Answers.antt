use Rattle.std.proofs.Common.{rules}
use Rattle.std.proofs.Output.{has_written_append, has_written_of_eq}
use Rattle.answer_tariff.proofs.Charging.{charges_more}
use Rattle.answer_tariff.proofs.TariffDisplay.fmt.Goals as goal

pub loop-i-preserved : goal.loop-i-preserved
loop-i-preserved g c = λ p.
    has_written_of_eq _ _ _ _ _ (charges_more c.deref-parts-items.result.now c.loop-i.i 0 (search rules))
    (has_written_append _ _ _ _ _ _ (c.loop-i.invariant p) (search rules))
