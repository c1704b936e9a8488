use Rattle.std.proofs.Common.{◌<◌, ◌≤◌, List, ℕ, ◌++◌, length, take, ap, sym, ◌∙◌, rules}
use Rattle.std.specs.List.{flat_map}
use Rattle.std.proofs.lemmas.List.{take_all, flat_map_more, take_more}
use Rattle.rules_market.specs.Share.{share_quote, shares_on}
use Rattle.glossary.specs.declared.terms.Term.{Term}
use Rattle.glossary.specs.declared.terms.Term.TheVariants.{Part}
use Rattle.glossary.specs.Screen.{heading, term_text}
use Rattle.glossary.proofs.screen.screen.Goals as goal
use Rattle.rules_pricing.specs.Priced.{contracts_of}

pub loop-term-preserved : goal.loop-term-preserved
loop-term-preserved c =
    let f : Term → List ℕ = term_text (contracts_of (share_quote (shares_on c.sample_sheet-sheet.result)) c.sample_size.result.units) in
    let xs = c.all-term-items.result in
    let i = c.loop-term.term-index in
    let inside : i < length xs = search rules in
    c.in_ok-push_str.ensures.bytes
    ∙ (λ j. c.loop-term.invariant j ++ (c.as_str.ensures.value ∙ c.in_ok-text.ensures) j)
    ∙ flat_map_more f heading (take i xs) _
    ∙ ap (λ (ys : List Term). heading ++ flat_map f ys) (sym (take_more xs i Part inside))

pub returns-clause-text : goal.returns-clause-text
returns-clause-text c =
    let f : Term → List ℕ = term_text (contracts_of (share_quote (shares_on c.sample_sheet-sheet.result)) c.sample_size.result.units) in
    let xs = c.all-term-items.result in
    let over : length xs ≤ c.loop-term.term-index = search rules in
    c.loop-term.invariant
    ∙ ap (λ (ys : List Term). heading ++ flat_map f ys) (take_all c.loop-term.term-index xs over)
    ∙ (λ j. heading ++ flat_map (term_text (contracts_of (share_quote (c.sample_sheet-sheet.ensures j)) (c.sample_size.ensures.size j))) (c.all-term-items.ensures j))
