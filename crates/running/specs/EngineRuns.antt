-- Claimed: what contracts promise to a reader rests on these words.
-- The engine of a run: what it is made of, and what the run of a log leaves of it and of the log's reader.
use Rattle.std.specs.Prelude.{◌≡◌, ℕ, List, [], Bool, true, false, ◌||◌, Option, None, is_some, IfSome, OnOk}
use Rattle.std.specs.FinMap.{empty}
use Rattle.devices.specs.LineReader.{left_for}
use Rattle.row_store.specs.Stock.{with_rows}
use Rattle.requests.specs.declared.setup.Setup.{Setup}
use Rattle.dispatcher.specs.declared.settings.Settings.{Settings}
use Rattle.engine.specs.Engines.{EngineParts, is_busy}
use Rattle.engine.specs.Executions.{KeepsSetting}
use Rattle.running.specs.Followed.{LeavesBetween}
use Rattle.running.specs.Reports.{rows_after}
use Rattle.running.specs.Runs.{device_with, IsRunOfLog}
use Rattle.running.specs.Starts.{start_on}
use Rattle.running.specs.declared.reading.Ended.{Ended}
use Rattle.running.specs.declared.reading.Reading.{Reading}

-- an engine on the starting rows of a setup, which has run nothing
abbrev pub engine_on : Setup → Settings → EngineParts
engine_on setup settings = record {
  procs = setup.procs;
  settings = settings;
  retries = setup.retries;
  next = 0;
  rows = with_rows empty setup.rows.items;
  carried = [];
  unfinished = None;
}

-- an engine that has run no transaction, and holds no batch
abbrev pub IsFresh : EngineParts → Type 0
IsFresh engine = (is_busy engine ≡ false) × (engine.next ≡ 0)

-- whether the log was a feed, of which nothing more had come when it was read
abbrev pub has_ended : Ended → Bool
has_ended ended = is_some ended.feed

-- What the run of a log on an engine leaves, by what a source and a sink say of their bytes and of their failures: the
-- report, as a run from the engine's procedures, retries and rows writes it, and the engine with its procedures and
-- settings. Of a feed, bytes are to come after those that the source has, and its end is a failed read.
pub record IsEngineRun {S K : Type 0} (left : S → Option (List ℕ)) (failed : S → Bool) (taken : K → Option (List ℕ))
    (broken : K → Bool) (reading : Reading) (old new : EngineParts) (source spent : S) (sink filled : K)
    (ended : Ended) : Type 0 where
  pub run : IsRunOfLog (start_on old reading.digest)
      (device_with (left_for reading.feed (left source)) (failed source))
      (device_with (left_for reading.feed (left spent)) (has_ended ended || failed spent))
      (device_with (taken sink) (broken sink)) (device_with (taken filled) (broken filled)) ended.result
  pub setting : KeepsSetting old new
  -- After a whole run the engine holds no batch, and its rows are those that the log leaves.
  pub idle : OnOk ended.result (is_busy new ≡ false)
  pub rows : OnOk ended.result (IfSome (left_for reading.feed (left source)) (λ log.
      new.rows ≡ rows_after (start_on old reading.digest) log))
  -- After the end of a feed it holds none either, and has run those that are reported.
  pub followed : has_ended ended ≡ true → LeavesBetween (start_on old reading.digest)
      (left_for reading.feed (left source)) (left_for reading.feed (left spent)) (taken sink) (taken filled) new
  -- Only a feed ends so, once all that had come is read.
  pub feed : has_ended ended ≡ true → (reading.feed ≡ true) × IfSome (left spent) (λ bytes. bytes ≡ [])
