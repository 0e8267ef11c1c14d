use Rattle.session.proofs.Told.{keeps_onward}
use Rattle.session.proofs.Runs.{keeps_setting, on_err, on_ok}
use Rattle.session.proofs.work.Work.take_rest.Goals as goal

pub returns-in-Ok-clause-whole : goal.returns-in-Ok-clause-whole
returns-in-Ok-clause-whole c = on_ok c.close.result _ _ c.close.ensures.whole
    (λ closes start fed drained passed h. closes start fed drained passed (c.in-Ok.ensures.whole start fed drained passed h))

pub returns-in-Ok-clause-fault : goal.returns-in-Ok-clause-fault
returns-in-Ok-clause-fault c = on_err c.close.result _ _ c.close.ensures.fault
    (λ fault faults start fed drained passed h. faults start fed drained passed (c.in-Ok.ensures.whole start fed drained passed h))

pub returns-in-Ok-clause-replies : goal.returns-in-Ok-clause-replies
returns-in-Ok-clause-replies c = keeps_onward _ _ _ c.take_last_batch.ensures.replies c.close.ensures.replies

pub returns-in-Ok-clause-setting : goal.returns-in-Ok-clause-setting
returns-in-Ok-clause-setting c = keeps_setting _ _ _ _ _ _ c.take_last_batch.ensures.setting c.close.ensures.setting
