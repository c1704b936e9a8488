use Rattle.std.proofs.Common.{map}
use Rattle.rules_positions.specs.Records.{terms}
use Rattle.page_workings.proofs.Coming.{term_comes}
use Rattle.page_workings.proofs.terms.ruling_term.Goals as goal

pub returns-clause-requirement : goal.returns-clause-requirement
returns-clause-requirement g c =
    term_comes c.args.contract.now.quote c.args.contract.now.size c.args.article (map terms c.args.legs.now) _ c.term_of.result c.in_ok-set_requirement.ensures c.term_of.ensures
