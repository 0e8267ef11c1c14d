use Rattle.devices.proofs.Passing.{Passes-refl}
use Rattle.batch_log.proofs.Moves.{Moves-none}
use Rattle.batch_log.proofs.Taken.{TakesCalls-none}
use Rattle.batch_log.proofs.reader.LogReader.next_batch.Goals as goal

pub returns-in-Some-clause-taken : goal.returns-in-Some-clause-taken
returns-in-Some-clause-taken g c = (Passes-refl _ _ (λ x. TakesCalls-none _ _ _ x c.args.self.now.few), Moves-none _ _)
