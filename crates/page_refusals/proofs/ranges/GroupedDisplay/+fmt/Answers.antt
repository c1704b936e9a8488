use Rattle.std.proofs.Common.{ap, ◌∙◌, ◌<◌, ◌/◌, ◌%◌, ◌^◌, ◌∷◌, ◌++◌, decimal, arith, rules}
use Rattle.std.proofs.Output.{has_written_of_eq}
use Rattle.page_money.specs.Digits.{with_commas}
use Rattle.page_money.proofs.Digits.{digits_printed, below_thousand, from_thousand}
use Rattle.page_money.proofs.Texts.{in_two}
use Rattle.page_refusals.proofs.ranges.GroupedDisplay.+fmt.Goals as goal

pub returns-then-self-lt1000-clause-writes : goal.returns-then-self-lt1000-clause-writes
returns-then-self-lt1000-clause-writes g t c = λ p ok.
    has_written_of_eq _ _ _ _ _ (below_thousand c.args.self.now.0 c.if-self-lt1000.true) (c.write.ensures.writes p ok)

pub returns-clause-writes : goal.returns-clause-writes
returns-clause-writes g t c =
    let n = c.args.self.now.0 in
    let fits : n < 2 ^ 64 = search rules in
    let last = digits_printed 2 (n % 1000) c.laid_out.result c.laid_out.ensures (omega arith) (omega arith) in
    in_two c.in_ok-fmt.ensures.writes c.write-2.ensures.writes
    (ap (λ l. with_commas (decimal (n / 1000)) ++ (44 ∷ l)) last ∙ from_thousand n c.if-self-lt1000.false (omega arith))
