use Rattle.std.proofs.Common.{◌≡◌, true, Ok, Err, ◌∙◌, rules}
use Rattle.std.proofs.lemmas.Result.{IfOk-weaker}
use Rattle.file_head.specs.Limit.{fits}
use Rattle.file_reading.specs.Content.{content_read}
use Rattle.page_statement.proofs.Pages.{page_read, read_shown}
use Rattle.page_statement.proofs.statement.Goals as goal

pub returns-in-Ok-clause-text : goal.returns-in-Ok-clause-text
returns-in-Ok-clause-text c =
    let file = c.args.file.now in
    let few : fits file ≡ true = search rules in
    let x = c.in-Ok.content in
    let marks = c.read.new.marks in
    let read = c.in-Ok.ensures.value in
    let answer = c.answer_to-answer in
    let page = page_read file x marks answer.result few read answer.ensures.value in
    IfOk-weaker c.page.result _ _ (λ t e. e ∙ page ∙ read_shown file (Ok (content_read x marks)) few read) c.page.ensures

pub returns-in-Err-clause-text : goal.returns-in-Err-clause-text
returns-in-Err-clause-text c =
    let file = c.args.file.now in
    let few : fits file ≡ true = search rules in
    IfOk-weaker c.refused.result _ _ (λ t e. e ∙ read_shown file (Err c.in-Err.fault) few c.in-Err.ensures.value) c.refused.ensures
