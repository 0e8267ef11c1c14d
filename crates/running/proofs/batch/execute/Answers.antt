use Rattle.running.proofs.Runs.{has_answered}
use Rattle.running.proofs.batch.execute.Goals as goal

pub returns-clause-answered : goal.returns-clause-answered
returns-clause-answered g c = has_answered g.X.Fn c.args.executor.now _ _ _ _ c.executor.ensures
