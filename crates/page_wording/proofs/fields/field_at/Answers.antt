use Rattle.std.proofs.Common.{rules, tests, ap, ◌∙◌, ◌+◌, ◌-◌, length, take, drop, ◌==◌}
use Rattle.std.proofs.lemmas.Iterator.{YieldsList-from_slice, YieldsList-from_take}
use Rattle.std.proofs.lemmas.Iterator.Consumers.{count_from_yields_List, YieldsList-at, YieldsList-from_filter}
use Rattle.std.proofs.lemmas.Iterator.Adapters.{YieldsList-from_skip}
use Rattle.std.proofs.lemmas.List.Sums.{length-filter}
use Rattle.page_wording.proofs.fields.field_at.Goals as goal

pub returns : goal.returns
returns c =
    let line = c.args.line.now in
    let part = drop (length c.args.key.now) (take (c.args.place - 1) line) in
    ap (λ n. n + 1)
    (count_from_yields_List c.filter.result _ c.count-commas.ensures.ran
    (YieldsList-from_filter _ (λ b. b == 44)
    (YieldsList-at c.filter.ensures.source
    (YieldsList-from_skip (length c.args.key.now)
    (YieldsList-at c.skip.ensures.source
    (YieldsList-from_take (c.args.place - 1)
    (YieldsList-at c.take.ensures.source (YieldsList-from_slice line cc))
    (cc)))
    (cc)))
    c.filter.ensures.closure (λ x r q k. search (rules, tests)))
    ∙ length-filter (λ b. b == 44) part)
