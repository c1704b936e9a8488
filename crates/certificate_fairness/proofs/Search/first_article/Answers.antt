use Rattle.std.proofs.Common.{rules, arith}
use Rattle.certificate_fairness.specs.Search.{first_leg}
use Rattle.certificate_fairness.proofs.Firsts.{find_map_first}
use Rattle.certificate_fairness.proofs.Search.first_article.Goals as goal

pub returns : goal.returns
returns g c =
    let k = c.args.self.now in
    let t = g.B.Book.tables k.book.now in
    let n = c.new.ensures in
    find_map_first _ _ (first_leg t k.size.units k.marked.held.now k.marked.marks.now) t.articles (search rules) (λ x o l u e. search rules) c.new.result c.find_map.result c.find_map.ensures.runs n.start (omega (arith, n.end, c.articles.ensures)) n.exhausted
