use Rattle.batch_log.proofs.Places.{step_call, step_cut, step_fault}
use Rattle.batch_log.proofs.feed.LogFeed.take.Goals as goal

pub returns-then-byte-eq10-clause-place : goal.returns-then-byte-eq10-clause-place
returns-then-byte-eq10-clause-place c = λ ended fed at. step_call c.take_line.result c.args.byte _ _ _ ended fed c.if-byte-eq10.true at c.take_line.ensures.call

pub returns-then-byte-eq10-clause-batch : goal.returns-then-byte-eq10-clause-batch
returns-then-byte-eq10-clause-batch c = λ ended fed at. step_cut c.take_line.result c.args.byte _ _ _ ended fed c.if-byte-eq10.true at c.take_line.ensures.cut

pub returns-then-byte-eq10-clause-fault : goal.returns-then-byte-eq10-clause-fault
returns-then-byte-eq10-clause-fault c = λ ended fed more at. step_fault c.take_line.result c.args.byte _ _ ended fed more c.if-byte-eq10.true at c.take_line.ensures.fault
