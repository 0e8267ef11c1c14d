-- The command `run`.
use Rattle.std.proofs.Common.{◌≡◌, ℕ, List, Bool, true, Option}
use Rattle.setup.specs.declared.document.SetupDocument.{SetupDocument}
use Rattle.dispatcher.specs.declared.settings.Settings.{Settings}
use Rattle.engine.specs.Engines.{EngineParts}
use Rattle.running.specs.Runs.{device_with}
use Rattle.running.specs.Standings.{standing_of}
use Rattle.running.specs.Stops.{IsNotOfThread}
use Rattle.running.specs.declared.reading.Ended.{Ended}
use Rattle.running.specs.EngineRuns.{engine_on, has_ended, IsEngineRun}
use Rattle.calvin.specs.CommandEnds.{end_status, IsRunAt}
use Rattle.calvin.specs.Inputs.{Files, IsSetupAt, Paths}

pub run_at : {S K : Type 0} (left : S → Option (List ℕ)) (failed : S → Bool) (taken : K → Option (List ℕ)) (broken : K → Bool) (alone feed : Bool) (holds : Files) (paths : Paths) (document : SetupDocument) (settings : Settings)
    (source spent : S) (sink filled : K) (ended : Ended) (status : ℕ) → IsSetupAt holds paths document →
    ((after : EngineParts) × IsEngineRun left failed taken broken (record { digest = document.digest; feed = feed }) (engine_on document.setup settings) after source spent sink filled ended) →
    (alone ≡ true → IsNotOfThread ended.result) → status ≡ end_status (has_ended ended) ended.result →
    IsRunAt alone feed holds paths (device_with (left source) (failed source)) (device_with (left spent) (failed spent)) (device_with (taken sink) (broken sink)) (device_with (taken filled) (broken filled)) status
run_at left failed taken broken alone feed holds paths document settings source spent sink filled ended status is_setup (after, run) threadless ends = record {
  document = document;
  is_setup = is_setup;
  result = ended.result;
  ended = has_ended ended;
  run = run.run;
  whole = run.feed;
  followed = λ e. (standing_of after, (run.followed e).followed);
  threadless = threadless;
  ends = ends;
}
