-- Claimed: what contracts promise to a reader rests on these words.
-- What a run has done of a log that is a feed where nothing more comes.
use Rattle.std.specs.Prelude.{◌≡◌, ℕ, List, ◌++◌, Option, false, true}
use Rattle.std.specs.Io.KnownBytes.{Appends}
use Rattle.devices.specs.Devices.{Passes}
use Rattle.requests.specs.Requests.{Call}
use Rattle.batch_log.specs.Log.{batches_of, first_fault}
use Rattle.batch_log.specs.Places.{batches_said}
use Rattle.batch_log.specs.Taken.{TakesCalls}
use Rattle.retries.specs.Standings.{call_count, Standing}
use Rattle.engine.specs.Engines.{EngineParts, is_busy}
use Rattle.running.specs.Reports.{log_fault}
use Rattle.running.specs.Standings.{standing_after, standing_of}
use Rattle.running.specs.Starts.{Start}
use Rattle.running.specs.Stopped.{said_after, texts_of}

-- Of a log these batches were reported, and nothing else was written. After their bytes whole lines were read, each a
-- call, and then a beginning of a line, or nothing; this rest was not read. The rows, the next number and the requests
-- that are carried are those after these batches.
pub record IsFollowedTo (start : Start) (sink filled : Option (List ℕ)) (standing : Standing) (log rest : List ℕ)
    : Type 0 where
  pub reported : List (List Call)
  pub bytes : List ℕ
  pub taken : List ℕ
  pub whole : log ≡ bytes ++ (taken ++ rest)
  pub batches : batches_said start.procs start.retries log
      ≡ reported ++ batches_of (said_after start bytes reported (taken ++ rest))
  pub fault : log_fault start log ≡ first_fault (said_after start bytes reported (taken ++ rest))
  pub calls : TakesCalls start.retries start.procs.procs (call_count reported) true (taken ++ rest) rest
  pub written : Appends sink filled (texts_of start reported)
  pub standing_is : standing ≡ standing_after start reported

-- the engine holds no batch, and has run those that are reported of a log that a source tells
pub record LeavesBetween (start : Start) (left rest sink filled : Option (List ℕ)) (engine : EngineParts)
    : Type 0 where
  pub idle : is_busy engine ≡ false
  pub followed : Passes (IsFollowedTo start sink filled (standing_of engine)) left rest
