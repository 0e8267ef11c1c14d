use Rattle.retries.proofs.Reported.{end_is, texts_grown}
use Rattle.retries.proofs.laws.report_grows_batch_by_batch.Goals as goal

pub returns-clause-texts : goal.returns-clause-texts
returns-clause-texts c = texts_grown

pub returns-clause-end : goal.returns-clause-end
returns-clause-end c = end_is
