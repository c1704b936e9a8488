use Rattle.std.proofs.Common.{sym, ◌∙◌}
use Rattle.certificate_fairness.proofs.Least.{search_finds_first}
use Rattle.certificate_fairness.proofs.Fairness.{none_exactly_if_fair}
use Rattle.certificate_fairness.proofs.first_breach.Goals as goal

pub returns : goal.returns
returns g c =
    let k = c.args.book.now in
    record {
      value = c.first_breach.ensures;
      fair = none_exactly_if_fair (g.B.Book.tables k) (g.met.B.Book.lawful k) c.args.size.units c.args.marked.now.held.now c.args.marked.now.marks.now c.args.marked.now.each c.requires c.first_breach.result c.first_breach.ensures;
      first = λ b e. search_finds_first (g.B.Book.tables k) (g.met.B.Book.lawful k) c.args.size.units c.args.marked.now.held.now c.args.marked.now.marks.now b (sym c.first_breach.ensures ∙ e);
    }
