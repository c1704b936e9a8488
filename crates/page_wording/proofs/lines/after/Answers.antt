use Rattle.std.proofs.Common.{rules, tests, ◌≡◌, ◌∙◌, ap, refl, ◌+◌, drop}
use Rattle.std.specs.List.{position, position_or_len}
use Rattle.std.proofs.lemmas.Iterator.{YieldsList-from_slice}
use Rattle.std.proofs.lemmas.Iterator.Search.{position_from_yields_List}
use Rattle.page_wording.specs.Lines.{ends_line}
use Rattle.page_wording.proofs.Ends.{first_or_len, rest_from}
use Rattle.page_wording.proofs.lines.after.Goals as goal

pub returns-clause-value : goal.returns-clause-value
returns-clause-value c =
    let bs = c.args.bytes.now in
    let found : c.position.result ≡ position ends_line bs = position_from_yields_List ends_line _ _ c.position.result c.position.ensures.ran (YieldsList-from_slice bs cc) (λ x b q k. search (rules, tests)) in
    let n : c.unwrap_or-n.result ≡ position_or_len ends_line bs = c.unwrap_or-n.ensures ∙ first_or_len ends_line bs c.position.result found in
    ap (λ r. r.now) c.unwrap_or.ensures ∙ rest_from bs (c.unwrap_or-n.result + 1) c.get.result _ refl c.get.ensures.lookup ∙ ap (λ k. drop (k + 1) bs) n
