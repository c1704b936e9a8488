use Rattle.std.proofs.Common.{rules, tests, ◌≡◌, ◌==◌, ◌-◌, ◌∙◌, sym, ap, take, length, reverse}
use Rattle.std.specs.List.{position, position_or_len}
use Rattle.std.specs.Option.{unwrap_or}
use Rattle.std.proofs.lemmas.List.{length-reverse}
use Rattle.std.proofs.lemmas.Iterator.Adapters.{YieldsList-from_rev_slice}
use Rattle.std.proofs.lemmas.Iterator.Search.{position_from_yields_List}
use Rattle.page_wording.proofs.Ends.{first_or_len}
use Rattle.page_refusals.proofs.bad_lines.up_to_sets.Goals as goal

pub returns : goal.returns
returns c =
    let line = c.args.line.now in
    let found : c.position.result ≡ position (λ b. b == 44) (reverse line) = position_from_yields_List (λ b. b == 44) _ _ c.position.result c.position.ensures.ran (YieldsList-from_rev_slice line cc) (λ x b q k. search (rules, tests)) in
    let sets : c.unwrap_or-sets.result ≡ position_or_len (λ b. b == 44) (reverse line) =
    c.unwrap_or-sets.ensures ∙ ap (unwrap_or c.position.result) (sym (length-reverse line)) ∙ first_or_len (λ b. b == 44) (reverse line) c.position.result found in
    ap (λ n. take n line) (c.saturating_sub-2.ensures ∙ ap (λ n. n - 1) c.saturating_sub.ensures ∙ ap (λ n. length line - n - 1) sets)
