use Rattle.std.proofs.Common.{rules, tests, sym, ap, ◌∙◌, ◌+◌, slice_get, filter, Option, ℕ}
use Rattle.std.specs.List.{enumerate_from}
use Rattle.std.specs.Option.{option_map, option_map_or}
use Rattle.std.proofs.lemmas.Iterator.{YieldsList-from_slice}
use Rattle.std.proofs.lemmas.Iterator.Consumers.{nth_from_yields_List, YieldsList-at, YieldsList-from_filter, YieldsList-from_enumerate}
use Rattle.page_wording.specs.Fields.{leads}
use Rattle.page_wording.proofs.fields.place_of.Goals as goal
use Rattle.page_wording.proofs.fields.place_of.Goals.{In-Some, In-None}

-- where a field begins, by the byte before it
abbrev begins : Option (ℕ × ℕ) → ℕ
begins o = option_map_or (λ x. x.0 + 2) o 1

pub returns-in-Some : goal.returns-in-Some
returns-in-Some c =
    let found =
    nth_from_yields_List c.nth-before.result _ c.saturating_sub.result c.nth-before.ensures.ran
    (YieldsList-from_filter _ (λ x. leads x.1)
    (YieldsList-at c.filter.ensures.source (YieldsList-from_enumerate (YieldsList-at c.enumerate.ensures.source (YieldsList-from_slice c.args.line.now cc)) (cc)))
    c.filter.ensures.closure (λ x r q k. search (rules, tests))) in
    ap (λ o. begins (option_map (λ p. (p.0, (p.1).now)) o)) (sym c.in-Some.is)
    ∙ ap begins found
    ∙ ap (λ n. begins (slice_get (filter (λ x. leads x.1) (enumerate_from 0 c.args.line.now)) n)) c.saturating_sub.ensures

pub returns-in-None : goal.returns-in-None
returns-in-None c =
    let found =
    nth_from_yields_List c.nth-before.result _ c.saturating_sub.result c.nth-before.ensures.ran
    (YieldsList-from_filter _ (λ x. leads x.1)
    (YieldsList-at c.filter.ensures.source (YieldsList-from_enumerate (YieldsList-at c.enumerate.ensures.source (YieldsList-from_slice c.args.line.now cc)) (cc)))
    c.filter.ensures.closure (λ x r q k. search (rules, tests))) in
    ap (λ o. begins (option_map (λ p. (p.0, (p.1).now)) o)) (sym c.in-None.is)
    ∙ ap begins found
    ∙ ap (λ n. begins (slice_get (filter (λ x. leads x.1) (enumerate_from 0 c.args.line.now)) n)) c.saturating_sub.ensures
