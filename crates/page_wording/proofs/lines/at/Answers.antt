use Rattle.std.proofs.Common.{rules, tests, ◌≡◌, ◌∙◌, ap, ◌-◌, take}
use Rattle.std.specs.List.{position, position_or_len, before_first}
use Rattle.std.proofs.lemmas.Iterator.{YieldsList-from_slice}
use Rattle.std.proofs.lemmas.Iterator.Search.{position_from_yields_List}
use Rattle.page_wording.specs.Lines.{ends_line, rest_after}
use Rattle.page_wording.proofs.Ends.{first_or_len}
use Rattle.page_wording.proofs.lines.at.Goals as goal

pub returns : goal.returns
returns c =
    let rest = c.from-rest.result.now in
    let found : c.position.result ≡ position ends_line rest = position_from_yields_List ends_line _ _ c.position.result c.position.ensures.ran (YieldsList-from_slice rest cc) (λ x b q k. search (rules, tests)) in
    let n : c.unwrap_or-n.result ≡ position_or_len ends_line rest = c.unwrap_or-n.ensures ∙ first_or_len ends_line rest c.position.result found in
    let from : rest ≡ rest_after (c.args.number - 1) c.args.file.now = c.from-rest.ensures.value in
    ap (λ k. take k rest) n ∙ ap (before_first ends_line) from
