use Rattle.std.proofs.Common.{rules}
use Rattle.answer_docket.proofs.Floors.{floor_printed}
use Rattle.answer_docket.proofs.texts.SummaryDisplay.fmt.Goals as goal

pub returns-clause-writes : goal.returns-clause-writes
returns-clause-writes g c = search (rules, floor_printed)
