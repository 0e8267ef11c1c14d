use Rattle.session.proofs.session.Session.feed.Goals as goal

pub returns-in-Err-clause-fault : goal.returns-in-Err-clause-fault
returns-in-Err-clause-fault c = λ start fed drained more passed h. c.in-Err.ensures.fault start fed drained more passed h.run
