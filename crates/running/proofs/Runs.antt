-- Batches that an engine takes, and what its refusals are told as.
use Rattle.std.proofs.Common.{◌≡◌, ℕ, ◌+◌, ◌≤◌, ◌^◌, length, true, false, Result, Ok, Err, IfErr, refl, sym, arith, ◌∙◌}
use denote.Ref.{MutBor}
use denote.Param.Members.{Shared}
use Rattle.sequencer.specs.declared.batch.Batch.{Batch}
use Rattle.engine.specs.declared.fault.ExecFault.{ExecFault}
use Rattle.engine.specs.declared.fault.ExecFault.TheVariants.{Busy, LogFull, Spawn, NoMemory}
use Rattle.engine.specs.declared.replies.BatchDone.{BatchDone}
use Rattle.engine.specs.Batches.{next_attempts}
use Rattle.engine.specs.Engines.{EngineParts, is_busy}
use Rattle.engine.specs.Executions.{IsRefusal, KeepsSetting}
use Rattle.running.specs.declared.run_fault.RunFault.{RunFault}
use Rattle.running.specs.Executors.{HasAnswered}
use Rattle.running.specs.Stops.{IfOfThread, IsHeld, IsRefusedBy}

-- an idle engine with room for a batch gives none back
pub held_fault : (old new : EngineParts) (batch : Batch) (fault : ExecFault) → IsRefusal old new batch fault → is_busy old ≡ false → old.next + length (next_attempts old batch) ≤ 2 ^ 48 → IsHeld fault
held_fault old new batch (Busy back) h idle room = let bad : true ≡ false = sym h.1 ∙ idle in absurd cc
held_fault old new batch (LogFull back) h idle room = omega (arith, h.1, room)
held_fault old new batch Spawn h idle room = tt
held_fault old new batch NoMemory h idle room = tt

-- a fault with which a call came back is one that it has answered
pub has_answered : {X E : Type 0} (calls : Shared X (MutBor E × (Batch × Unit {0})) (Result BatchDone ExecFault × (MutBor E × Unit {0}))) (executor : X)
    (engine : MutBor E) (batch : Batch) (result : Result BatchDone ExecFault) (left : MutBor E) →
    calls.post executor (engine, (batch, tt)) (result, (left, tt)) → IfErr result (HasAnswered calls executor)
has_answered calls executor engine batch (Ok done) left p = tt
has_answered calls executor engine batch (Err fault) left p = record { engine = engine; batch = batch; left = left; answers = p }

-- a run tells of a thread only where a thread was refused to the engine
pub told_of_thread : (fault : ExecFault) (told : RunFault) (line : ℕ) (P : ExecFault → Type 0) → IsRefusedBy line fault told → P fault → IfOfThread told (P Spawn)
told_of_thread (Busy back) told line P h p = absurd h
told_of_thread (LogFull back) told line P h p = absurd h
told_of_thread Spawn told line P h p = rw h p
told_of_thread NoMemory told line P h p = rw h tt

-- an engine's setting is kept by two calls that each keep it, and where nothing is done
pub keeps_on : (old between new : EngineParts) → KeepsSetting old between → KeepsSetting between new → KeepsSetting old new
keeps_on old between new first second = record {
  procs = second.procs ∙ first.procs;
  settings = second.settings ∙ first.settings;
  retries = second.retries ∙ first.retries;
}

pub keeps_still : (engine : EngineParts) → KeepsSetting engine engine
keeps_still engine = record { procs = refl; settings = refl; retries = refl }
