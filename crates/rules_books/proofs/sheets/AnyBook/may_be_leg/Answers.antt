use Rattle.rules_books.proofs.WrongLegs.{refused_at}
use Rattle.rules_books.proofs.sheets.AnyBook.may_be_leg.Goals as goal

pub returns-clause-law : goal.returns-clause-law
returns-clause-law g c =
    let answered = c.matches_leg.ensures in
    let of = c.article_of.ensures in
    λ no size legs _ _. refused_at (g.M.Market.quote c.args.self.now) (g.M.Listed.numbered c.args.article) c.args.leg c.args.position.now (cc) size legs
