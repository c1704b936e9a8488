use Rattle.std.proofs.Common.{◌≡◌, ◌+◌, ◌*◌, ◌^◌, sum_by, sym, refl, ◌∙◌, arith, rules, tests}
use Rattle.std.proofs.lemmas.List.Recursion.{is_sum_by}
use Rattle.std.proofs.lemmas.Iterator.{YieldsList-from_slice}
use Rattle.std.proofs.lemmas.Iterator.Adapters.{fits_from_length, at_most_from_yields_List}
use Rattle.certificate_pairing.specs.declared.Claim.{Claim}
use Rattle.certificate_certify.specs.Accounts.{account_by}
use Rattle.certificate_certify.specs.Totals.{set_amount, claims_amount}
use Rattle.certificate_certify.proofs.Account.claims_amount.Goals as goal

pub sum-requires-clause-fits : goal.sum-requires-clause-fits
sum-requires-clause-fits g c =
    fits_from_length _ _ 64 _ (at_most_from_yields_List (YieldsList-from_slice c.args.self.now.claims.now cc) (omega (arith, c.args.self.now.few_claims)))
    c.map.ensures.closure (omega arith) (λ x r q k. search (rules, tests))

pub returns-clause-value : goal.returns-clause-value
returns-clause-value g c =
    let d = account_by g.B.Book.tables c.args.self.now in
    let ls = c.args.self.now.claims.now in
    let all : c.sum.result ≡ sum_by (λ (l : Claim). l.sets * set_amount d l) ls = search rules in
    all ∙ sym (is_sum_by (claims_amount d) (λ (l : Claim). l.sets * set_amount d l) refl (λ _ _. refl) ls)

pub returns-clause-bound : goal.returns-clause-bound
returns-clause-bound g c =
    let run = c.sum.ensures.runs tt in
    let most = fits_from_length _ _ 64 (2 ^ 108 * 64 + 1) (at_most_from_yields_List (YieldsList-from_slice c.args.self.now.claims.now cc) (omega (arith, c.args.self.now.few_claims)))
    c.map.ensures.closure (omega arith) (λ x r q k. search (rules, tests)) run.0 run.0.seen run.1 in
    omega (arith, most, run.3)
