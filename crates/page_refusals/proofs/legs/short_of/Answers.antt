use Rattle.std.proofs.Common.{◌≡◌, ◌*◌, ◌++◌, codes, decimal, string_bytes, Some, ap, ◌∙◌}
use Rattle.certificate_pairing.specs.Pairing.{lot}
use Rattle.page_refusals.specs.Before.{before_in}
use Rattle.page_refusals.specs.Words.{saying}
use Rattle.page_refusals.specs.Legs.{leg_place, free_or_none, short_text}
use Rattle.page_refusals.proofs.legs.short_of.Goals as goal

pub returns : goal.returns
returns c =
    let b = before_in c.args.before.now in
    let l = c.args.claim.now in
    let p = c.args.position in
    let place : c.leg_place.result ≡ leg_place c.args.line.now c.args.leg = c.leg_place.ensures in
    let needed : c.needed-needed.result ≡ l.sets * lot b.docket.size b.docket.tally.held p = c.needed-needed.ensures in
    let free : c.free-free.result ≡ free_or_none b.docket p = c.free-free.ensures in
    let wrong : string_bytes c.in_ok-short_text.field-0 ≡ short_text c.args.leg l.sets c.needed-needed.result p c.free-free.result = c.in_ok-short_text.ensures in
    let size : c.size.result.units ≡ b.docket.size = c.size.ensures in
    let right : string_bytes c.in_ok-format.field-0 ≡ codes "a set takes " ++ (decimal c.size.result.units ++ codes " units of the underlying, and one contract of any other leg") = c.in_ok-format.ensures.ok in
    λ i. saying (Some (place i)) ((wrong ∙ (λ j. short_text c.args.leg l.sets (needed j) p (free j))) i) ((right ∙ ap (λ n. codes "a set takes " ++ (decimal n ++ codes " units of the underlying, and one contract of any other leg")) size) i)
