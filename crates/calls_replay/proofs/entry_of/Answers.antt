use Rattle.calls_replay.proofs.Runs.{replay}
use Rattle.calls_replay.proofs.entry_of.Goals as goal

pub returns-clause-again : goal.returns-clause-again
returns-clause-again c = replay
