use Rattle.session.proofs.session.Session.end.Goals as goal

pub returns-in-Ok-clause-whole : goal.returns-in-Ok-clause-whole
returns-in-Ok-clause-whole c = λ start fed drained passed h. c.in-Ok.ensures.whole start fed drained passed h.run

pub returns-in-Err-clause-fault : goal.returns-in-Err-clause-fault
returns-in-Err-clause-fault c = λ start fed drained passed h. c.in-Err.ensures.fault start fed drained passed h.run

pub returns-in-Ok-clause-kept : goal.returns-in-Ok-clause-kept
returns-in-Ok-clause-kept c = λ start fed drained passed h. c.take_end.ensures.kept start fed drained passed h.run

pub returns-in-Err-clause-kept : goal.returns-in-Err-clause-kept
returns-in-Err-clause-kept c = λ start fed drained passed h. c.take_end.ensures.kept start fed drained passed h.run
