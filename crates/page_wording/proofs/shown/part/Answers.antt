use Rattle.std.proofs.Common.{◌≡◌, ◌∙◌, ap, refl, take, arith, append_assoc}
use Rattle.std.proofs.lemmas.Grind.{common_steps}
use Rattle.page_wording.proofs.Ends.{first_of}
use Rattle.page_wording.proofs.shown.part.Goals as goal

pub returns : goal.returns
returns c =
    let first : c.unwrap_or-part.result.now ≡ take 88 c.args.rest.now = ap (λ r. r.now) c.unwrap_or-part.ensures ∙ first_of c.args.rest.now 88 c.get.result _ refl c.get.ensures.lookup in
    grind (arith, common_steps, append_assoc)
