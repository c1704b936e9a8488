use Rattle.std.proofs.Common.{rules}
use Rattle.std.proofs.lemmas.Result.{IfOk-weaker}
use Rattle.rules_market.specs.Share.{shares_on}
use Rattle.file_writing.proofs.Forms.{printed_rate, share_printed}
use Rattle.file_writing.proofs.sheet.share_lines.Goals as goal

pub returns : goal.returns
returns c =
    let sheet = c.args.sheet.now in
    let futures = printed_rate sheet.futures c.map.result (λ r n e. search rules) c.map.ensures.cases in
    let tracking = printed_rate sheet.tracking c.map-2.result (λ r n e. search rules) c.map-2.ensures.cases in
    IfOk-weaker c.format.result _ _ (λ t e. share_printed (shares_on sheet) c.yes_or_no.ensures futures tracking e) c.format.ensures.ok
