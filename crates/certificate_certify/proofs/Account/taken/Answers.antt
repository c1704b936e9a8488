use Rattle.std.proofs.Common.{◌≡◌, ◌*◌, sum_by, sym, refl, ◌∙◌, arith, rules, tests}
use Rattle.std.proofs.lemmas.List.Recursion.{is_sum_by}
use Rattle.std.proofs.lemmas.Iterator.{YieldsList-from_slice}
use Rattle.std.proofs.lemmas.Iterator.Adapters.{fits_from_length, at_most_from_yields_List}
use Rattle.certificate_pairing.specs.declared.Claim.{Claim}
use Rattle.certificate_pairing.specs.Pairing.{takes}
use Rattle.certificate_pairing.specs.Claims.{legs_of, taken}
use Rattle.certificate_certify.proofs.Account.taken.Goals as goal

pub sum-requires-clause-fits : goal.sum-requires-clause-fits
sum-requires-clause-fits g c =
    fits_from_length _ _ 64 _ (at_most_from_yields_List (YieldsList-from_slice c.args.self.now.claims.now cc) (omega (arith, c.args.self.now.few_claims)))
    c.map.ensures.closure (omega arith) (λ x r q k. search (rules, tests))

pub returns : goal.returns
returns g c =
    let s = c.args.self.now.size.units in
    let held = c.args.self.now.held.now in
    let ls = c.args.self.now.claims.now in
    let p = c.args.p in
    let all : c.sum.result ≡ sum_by (λ (l : Claim). l.sets * takes s held (legs_of l) p) ls = search rules in
    all ∙ sym (is_sum_by (λ ks. taken s held ks p) (λ (l : Claim). l.sets * takes s held (legs_of l) p) refl (λ _ _. refl) ls)
