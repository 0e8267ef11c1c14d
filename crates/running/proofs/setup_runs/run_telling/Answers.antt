use Rattle.running.proofs.Alone.{none_refused}
use Rattle.running.proofs.setup_runs.run_telling.Goals as goal

pub returns-clause-threadless : goal.returns-clause-threadless
returns-clause-threadless g c = none_refused _ _ c.run_source.result.result (λ engine batch left p. p.1.1 tt) c.run_source.ensures.threads
