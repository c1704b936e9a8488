use Rattle.std.proofs.Common.{◌≡◌, ◌∙◌, ◌/◌, ◌%◌, ◌∷◌, ◌++◌, decimal, arith, rules}
use Rattle.std.proofs.Output.{has_written_of_eq}
use Rattle.page_money.specs.Digits.{with_commas}
use Rattle.page_money.proofs.Amounts.{sign_text}
use Rattle.page_money.proofs.Digits.{digits_printed}
use Rattle.page_money.proofs.Texts.{in_two, whole_cents, with_rest}
use Rattle.page_money.proofs.display.DollarsDisplay.fmt.Goals as goal
use Rattle.page_money.proofs.display.DollarsDisplay.fmt.Goals.{then-self, else-self}

pub returns-in_ok-write-2-clause-writes : goal.returns-in_ok-write-2-clause-writes
returns-in_ok-write-2-clause-writes g c =
    let d = c.args.self.now in
    let sign : c.if-self.sign.now ≡ sign_text d.negative = elim c.if-self.branch [ then-self w ↦ search rules | else-self w ↦ search rules ] in
    let cents = digits_printed 1 (d.parts % 1000000 / 10000) c.laid_out.result c.laid_out.ensures (omega arith) (omega arith) in
    let rest = digits_printed 3 (d.parts % 10000) c.laid_out-then-rest-ne0.result c.laid_out-then-rest-ne0.ensures (omega arith) (omega arith) in
    in_two c.in_ok-write.ensures.writes c.in_ok-write-2.ensures.writes
    ((λ i. (sign i ++ (with_commas (decimal (d.parts / 1000000)) ++ 46 ∷ cents i)) ++ rest i) ∙ with_rest d c.if-rest-ne0.true)

pub returns-else-rest-ne0-clause-writes : goal.returns-else-rest-ne0-clause-writes
returns-else-rest-ne0-clause-writes g c = λ p ok.
    let d = c.args.self.now in
    let sign : c.if-self.sign.now ≡ sign_text d.negative = elim c.if-self.branch [ then-self w ↦ search rules | else-self w ↦ search rules ] in
    let cents = digits_printed 1 (d.parts % 1000000 / 10000) c.laid_out.result c.laid_out.ensures (omega arith) (omega arith) in
    has_written_of_eq _ _ _ _ _
    ((λ i. sign i ++ (with_commas (decimal (d.parts / 1000000)) ++ 46 ∷ cents i)) ∙ whole_cents d c.if-rest-ne0.false)
    (c.in_ok-write.ensures.writes p ok)
