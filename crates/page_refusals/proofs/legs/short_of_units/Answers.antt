use Rattle.std.proofs.Common.{◌≡◌, ap, ◌∙◌}
use Rattle.std.proofs.lemmas.Result.{IfOk-weaker}
use Rattle.page_refusals.specs.Before.{before_in}
use Rattle.page_refusals.specs.Legs.{claim_on, position_of, short_leg_words}
use Rattle.page_refusals.proofs.legs.short_of_units.Goals as goal

pub returns : goal.returns
returns c =
    let claim : c.claim_on-claim.result ≡ claim_on c.args.line.now = c.claim_on-claim.ensures in
    let position : c.position_of.result ≡ position_of (claim_on c.args.line.now) c.args.leg = c.position_of.ensures ∙ ap (λ l. position_of l c.args.leg) claim in
    IfOk-weaker c.short_of.result _ _ (λ w h. h ∙ (λ i. short_leg_words (before_in c.args.before.now) c.args.line.now c.args.leg (claim i) (position i))) c.short_of.ensures
