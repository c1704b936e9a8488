use Rattle.std.proofs.Common.{rules, length, arith}
use Rattle.certificate_fairness.specs.Search.{alone_breach}
use Rattle.certificate_fairness.proofs.Firsts.{find_map_first}
use Rattle.certificate_fairness.proofs.Search.first_alone.Goals as goal

pub returns : goal.returns
returns g c =
    let k = c.args.self.now in
    let n = c.new.ensures in
    find_map_first _ _ (alone_breach (g.B.Book.tables k.book.now) k.size.units k.marked.held.now k.marked.marks.now) (length k.marked.held.now) (search rules) (λ x o l u e. search rules) c.new.result c.find_map.result c.find_map.ensures.runs n.start (omega (arith, n.end, c.positions.ensures)) n.exhausted
