-- Claimed: what contracts promise to a reader rests on these words.
-- What executes batches.
use Rattle.std.specs.Prelude.{Result, Err, IfOk, IfErr}
use denote.Ref.{MutBor}
use denote.Param.Members.{Shared}
use Rattle.sequencer.specs.declared.batch.Batch.{Batch}
use Rattle.sequencer.specs.Batches.{items_of, AreOver}
use Rattle.engine.specs.declared.fault.ExecFault.{ExecFault}
use Rattle.engine.specs.declared.replies.BatchDone.{BatchDone}
use Rattle.engine.specs.Engines.{EngineParts, PublishingParts, tables_of}
use Rattle.engine.specs.Batches.{next_attempts}
use Rattle.engine.specs.Executions.{IsRefusal, IsExecutionOf, KeepsSetting}

-- an engine without what it publishes
abbrev pub core_of : PublishingParts → EngineParts
core_of engine = engine.core

-- what comes of a batch that is given to an engine: it was run, or it was refused
pub record IsExecution (old : EngineParts) (batch : Batch) (result : Result BatchDone ExecFault) (new : EngineParts)
    : Type 0 where
  pub same : KeepsSetting old new
  pub done : IfOk result (IsExecutionOf old new (next_attempts old batch))
  pub refused : IfErr result (IsRefusal old new batch)

-- a call that an executor is: on each engine it takes any batch over the engine's tables, and executes it there
pub record Executes {X E : Type 0} (parts : E → EngineParts)
    (calls : Shared X (MutBor E × (Batch × Unit {0})) (Result BatchDone ExecFault × (MutBor E × Unit {0})))
    (executor : X)
    : Type 0 where
  pub takes : (engine : MutBor E) (batch : Batch) → AreOver (tables_of (parts engine.now)) (items_of batch) →
      calls.pre executor (engine, (batch, tt))
  pub gives : (engine : MutBor E) (batch : Batch) (result : Result BatchDone ExecFault) (left : MutBor E) →
      calls.post executor (engine, (batch, tt)) (result, (left, tt)) →
      IsExecution (parts engine.now) batch result (parts left.now)

-- the call has answered so, given some engine and some batch; `left` is that engine afterwards
pub record HasAnswered {X E : Type 0}
    (calls : Shared X (MutBor E × (Batch × Unit {0})) (Result BatchDone ExecFault × (MutBor E × Unit {0})))
    (executor : X)
    (fault : ExecFault) : Type 0 where
  pub engine : MutBor E
  pub batch : Batch
  pub left : MutBor E
  pub answers : calls.post executor (engine, (batch, tt)) (Err fault, (left, tt))
