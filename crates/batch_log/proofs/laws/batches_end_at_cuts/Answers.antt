use Rattle.batch_log.proofs.CutLaws as laws
use Rattle.batch_log.proofs.laws.batches_end_at_cuts.Goals as goal

pub returns-clause-back : goal.returns-clause-back
returns-clause-back c = laws.back

pub returns-clause-end : goal.returns-clause-end
returns-clause-end c = laws.end

pub returns-clause-fault : goal.returns-clause-fault
returns-clause-fault c = laws.fault
