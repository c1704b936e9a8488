use Rattle.std.proofs.Common.{rules, ◌-◌, Some, None, length, ◌∙◌, sym, arith}
use Rattle.std.proofs.lemmas.Bool.{cond-false, ne_eqb}
use Rattle.certificate_fairness.specs.Search.{legs_from, set_breach}
use Rattle.certificate_fairness.proofs.Firsts.{find_map_first}
use Rattle.certificate_fairness.proofs.NotTried.{second_refused}
use Rattle.certificate_fairness.proofs.Under.third_leg.Goals as goal

pub returns : goal.returns
returns g c =
    let u = c.args.self.now in
    let k = u.search.now in
    let t = g.B.Book.tables k.book.now in
    let n = c.new.ensures in
    find_map_first _ _ (λ z. set_breach t k.size.units k.marked.held.now k.marked.marks.now u.article (legs_from c.args.first c.args.second (Some z))) (length k.marked.held.now) (search rules) (λ x o l v e. search rules) c.new.result c.find_map.result c.find_map.ensures.runs n.start (omega (arith, n.end, c.positions.ensures)) n.exhausted
    ∙ sym (cond-false _ (set_breach t k.size.units k.marked.held.now k.marked.marks.now u.article (legs_from c.args.first c.args.second None)) _ (ne_eqb (t.legs u.article) 2 (λ e. c.if-legs-eq2.false (c.legs.ensures ∙ e))))

pub returns-then-is_refused : goal.returns-then-is_refused
returns-then-is_refused g c =
    let u = c.args.self.now in
    let k = u.search.now in
    let refused = u.only_second (c.args.second - 1) (sym c.is_refused.ensures ∙ c.if-is_refused.true) in
    sym (second_refused (g.B.Book.tables k.book.now) (g.met.B.Book.lawful k.book.now) k.size.units k.marked.held.now k.marked.marks.now (k.size.low, k.size.high) u.article u.has c.args.first c.args.second refused)
