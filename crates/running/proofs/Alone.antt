-- What a run ends with where its executor is refused no thread.
use Rattle.std.proofs.Common.{ℕ, Result, Ok, Err, IfErr}
use denote.Ref.{MutBor}
use denote.Param.Members.{Shared}
use Rattle.sequencer.specs.declared.batch.Batch.{Batch}
use Rattle.engine.specs.declared.fault.ExecFault.{ExecFault}
use Rattle.engine.specs.declared.fault.ExecFault.TheVariants.{Spawn}
use Rattle.engine.specs.declared.replies.BatchDone.{BatchDone}
use Rattle.engine.specs.Engines.{PublishingParts}
use Rattle.running.specs.declared.run_fault.RunFault.{RunFault}
use Rattle.running.specs.declared.run_fault.RunFault.TheVariants as runs
use Rattle.running.specs.Executors.{HasAnswered}
use Rattle.running.specs.Stops.{IfOfThread, IsNotOfThread}

pub none_refused : {X : Type 0} (calls : Shared X (MutBor PublishingParts × (Batch × Unit {0})) (Result BatchDone ExecFault × (MutBor PublishingParts × Unit {0}))) (executor : X) (result : Result ℕ RunFault) →
    ((engine : MutBor PublishingParts) (batch : Batch) (left : MutBor PublishingParts) → calls.post executor (engine, (batch, tt)) (Err Spawn, (left, tt)) → ⊥) →
    IfErr result (λ e. IfOfThread e (HasAnswered calls executor Spawn)) → IsNotOfThread result
none_refused calls executor (Ok count) never h = tt
none_refused calls executor (Err (runs.Log fault)) never h = tt
none_refused calls executor (Err (runs.Spawn line)) never h = never h.engine h.batch h.left h.answers
