use Rattle.answer_session.proofs.Holding.{held}
use Rattle.answer_session.proofs.session.Goals as goal

pub returns-in-Ok-clause-held : goal.returns-in-Ok-clause-held
returns-in-Ok-clause-held c = held c.args.input.now c.new.result c.new.ensures.head
