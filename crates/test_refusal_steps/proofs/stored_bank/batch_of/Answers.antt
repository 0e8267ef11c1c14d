use Rattle.test_refusal_steps.proofs.stored_bank.batch_of.Goals as goal

pub returns-in-Ok : goal.returns-in-Ok
returns-in-Ok c = c.in-Ok.ensures.over c.args._procs.now.tables c.requires
