use Rattle.rules_positions.specs.Letters.{side_of, kind_for}
use Rattle.rules_positions.proofs.Ranges.{all_in_range}
use Rattle.rules_positions.proofs.Made.{made_of, recorded}
use Rattle.rules_positions.proofs.record.Record.new.Goals as goal

pub invariant_of-result : goal.invariant_of-result
invariant_of-result c = record { ranged = all_in_range c.in_ok-side.side c.in_ok-kind.kind c.args.entry.now c.in_ok-kind.ensures.sided c.in_ok-judge.ensures.fits }

pub returns : goal.returns
returns c =
    let side = c.in_ok-side.side in
    let kind = c.in_ok-kind.kind in
    let entry = c.args.entry.now in
    recorded c.args.size.units entry side kind (made_of (side_of entry.side) _ side c.in_ok-side.ensures) (made_of (kind_for side entry.kind) _ kind c.in_ok-kind.ensures.value) c.in_ok-judge.ensures.value _
