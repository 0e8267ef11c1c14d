use Rattle.example_embedding.proofs.calls.batch_over.Goals as goal

pub returns : goal.returns
returns c = c.in_ok-batch.ensures.over c.args._procs.now.tables c.requires
