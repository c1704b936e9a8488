use Rattle.std.proofs.Common.{◌<◌, ◌^◌, nat_abs, subst, sym, arith, rules}
use Rattle.std.proofs.lemmas.Result.{IfOk-weaker}
use Rattle.page_money.specs.Amounts.{dollars_amount}
use Rattle.page_money.specs.Reading.{StandsFor}
use Rattle.page_money.proofs.Amounts.{size}
use Rattle.page_money.proofs.Reading.{reads_back}
use Rattle.page_money.proofs.dollars.Dollars.text.Goals as goal

pub returns-clause-again : goal.returns-clause-again
returns-clause-again c =
    let d = c.args.self in
    let fits : d.parts < 2 ^ 128 = search rules in
    let wide : nat_abs (dollars_amount d) < 10 ^ 64 = omega (arith, size d) in
    IfOk-weaker c.format.result _ _ (λ t e. subst (λ bs. StandsFor bs (dollars_amount d)) (sym e) (reads_back (dollars_amount d) wide)) c.format.ensures.ok
