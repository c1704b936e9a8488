use Rattle.std.proofs.Common.{rules, length, arith}
use Rattle.certificate_fairness.specs.Search.{second_leg}
use Rattle.certificate_fairness.proofs.Firsts.{find_map_first}
use Rattle.certificate_fairness.proofs.Under.first_leg.Goals as goal

pub returns : goal.returns
returns g c =
    let u = c.args.self.now in
    let k = u.search.now in
    let n = c.new.ensures in
    find_map_first _ _ (second_leg (g.B.Book.tables k.book.now) k.size.units k.marked.held.now k.marked.marks.now u.article) (length k.marked.held.now) (search rules) (λ x o l v e. search rules) c.new.result c.find_map.result c.find_map.ensures.runs n.start (omega (arith, n.end, c.positions.ensures)) n.exhausted
