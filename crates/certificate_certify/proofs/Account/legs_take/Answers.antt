use Rattle.std.proofs.Common.{◌≡◌, cond, eqb, sum_by, sym, refl, ◌∙◌, arith, rules}
use Rattle.std.proofs.lemmas.List.Recursion.{is_sum_by}
use Rattle.certificate_pairing.specs.Pairing.{lot, takes}
use Rattle.certificate_certify.proofs.Sums.{takes_limit}
use Rattle.certificate_certify.proofs.Account.legs_take.Goals as goal

pub returns : goal.returns
returns g c =
    let size = c.args.self.now.size in
    let held = c.args.self.now.held.now in
    let qs = c.args.legs.now in
    let p = c.args.p in
    let all : c.sum.result ≡ sum_by (λ q. cond (eqb q p) (lot size.units held q) 0) qs = search rules in
    let value = all ∙ sym (is_sum_by (λ ps. takes size.units held ps p) (λ q. cond (eqb q p) (lot size.units held q) 0) refl (λ _ _. refl) qs) in
    let most = takes_limit size.units held qs p size.high in
    record { value = value; bound = omega arith }
