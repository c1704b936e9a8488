use Rattle.std.proofs.Common.{◌-◌, sym, ◌∙◌}
use Rattle.certificate_fairness.proofs.NotTried.{third_refused}
use Rattle.certificate_fairness.proofs.Under.three_breach.Goals as goal

pub returns-then-is_refused : goal.returns-then-is_refused
returns-then-is_refused g c =
    let u = c.args.self.now in
    let k = u.search.now in
    let refused = u.only_third (c.args.third - 1) (sym c.is_refused.ensures ∙ c.if-is_refused.true) in
    sym (third_refused (g.B.Book.tables k.book.now) (g.met.B.Book.lawful k.book.now) k.size.units k.marked.held.now k.marked.marks.now (k.size.low, k.size.high) u.article u.has c.args.first c.args.second c.args.third c.requires refused)
