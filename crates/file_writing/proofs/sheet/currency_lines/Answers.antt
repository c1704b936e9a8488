use Rattle.std.proofs.Common.{◌∙◌}
use Rattle.std.proofs.lemmas.Result.{IfOk-weaker}
use Rattle.rules_market.specs.Currency.{currency_on}
use Rattle.file_writing.proofs.Forms.{currency_text}
use Rattle.file_writing.proofs.sheet.currency_lines.Goals as goal

pub returns : goal.returns
returns c = IfOk-weaker c.format.result _ _ (λ t e. e ∙ currency_text (currency_on c.args.sheet.now)) c.format.ensures.ok
