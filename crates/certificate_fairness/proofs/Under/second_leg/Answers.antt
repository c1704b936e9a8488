use Rattle.std.proofs.Common.{rules, ◌-◌, length, sym, ◌∙◌, arith}
use Rattle.certificate_fairness.specs.Search.{third_leg}
use Rattle.certificate_fairness.proofs.Firsts.{find_map_first}
use Rattle.certificate_fairness.proofs.NotTried.{first_refused}
use Rattle.certificate_fairness.proofs.Under.second_leg.Goals as goal

pub returns : goal.returns
returns g c =
    let u = c.args.self.now in
    let k = u.search.now in
    let n = c.new.ensures in
    find_map_first _ _ (third_leg (g.B.Book.tables k.book.now) k.size.units k.marked.held.now k.marked.marks.now u.article c.args.first) (length k.marked.held.now) (search rules) (λ x o l v e. search rules) c.new.result c.find_map.result c.find_map.ensures.runs n.start (omega (arith, n.end, c.positions.ensures)) n.exhausted

pub returns-then-is_refused : goal.returns-then-is_refused
returns-then-is_refused g c =
    let u = c.args.self.now in
    let k = u.search.now in
    let refused = u.only_first (c.args.first - 1) (sym c.is_refused.ensures ∙ c.if-is_refused.true) in
    sym (first_refused (g.B.Book.tables k.book.now) (g.met.B.Book.lawful k.book.now) k.size.units k.marked.held.now k.marked.marks.now (k.size.low, k.size.high) u.article u.has c.args.first refused)
