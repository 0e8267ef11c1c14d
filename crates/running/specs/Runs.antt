-- Claimed: what contracts promise to a reader rests on these words.
-- What comes of running a log.
use Rattle.std.specs.Prelude.{◌≡◌, ℕ, ◌||◌, List, [], length, Bool, false, Option, Some, None, Result, IfOk, IfErr, OnOk, IfSome}
use Rattle.std.specs.Io.KnownBytes.{Appends}
use Rattle.devices.specs.Devices.{AppendsFront}
use Rattle.report_text.specs.Report.{all_transactions}
use Rattle.running.specs.declared.run_fault.RunFault.{RunFault}
use Rattle.running.specs.Reports.{batches_in, log_fault, report_of}
use Rattle.running.specs.Starts.{Start}
use Rattle.running.specs.Stops.{ends_in_io, IfOfLine, IfOfMachine, IsLineOf}
use Rattle.running.specs.Stopped.{IsStop}

-- a device as a clause sees it: its bytes, which may be unknown, and whether it has failed
pub record Device : Type 0 where
  pub bytes : Option (List ℕ)
  pub failed : Bool

-- a device with these bytes, if they are known, and with or without a failure
abbrev pub device_with : Option (List ℕ) → Bool → Device
device_with bytes failed = record { bytes = bytes; failed = failed }

-- A run of the log that a source has left, into a sink, from a start: devices before and after it, and how it ended.
pub record IsRunOfLog (start : Start) (source spent sink filled : Device) (result : Result ℕ RunFault) : Type 0 where
  -- Where it ended well, the log has no fault, all of it was read, its report was written, and the transactions were
  -- counted.
  pub count : IfOk result (λ n. IfSome source.bytes (λ log. n ≡ length (all_transactions (batches_in start log))))
  pub sound : OnOk result (IfSome source.bytes (λ log. log_fault start log ≡ None))
  pub read : OnOk result (IfSome source.bytes (λ log. spent.bytes ≡ Some []))
  pub ok : OnOk result (IfSome source.bytes (λ log.
      Appends sink.bytes filled.bytes (report_of start log)))
  -- A fault of a line is the log's first, and the report of the batches before it was written.
  pub fault : IfErr result (λ e. IfOfLine e (λ fault. IfSome source.bytes (λ log.
      log_fault start log ≡ Some fault)))
  pub until : IfErr result (λ e. IfOfLine e (λ fault. IfSome source.bytes (λ log.
      Appends sink.bytes filled.bytes (report_of start log))))
  -- However it ended, what was written is a beginning of the report.
  pub front : IfSome source.bytes (λ log.
      AppendsFront sink.bytes filled.bytes (report_of start log))
  -- The fault of a device comes exactly where one has failed meanwhile. Each fault names its line.
  pub devices : (spent.failed || filled.failed) ≡ ((source.failed || sink.failed) || ends_in_io result)
  pub line : source.failed ≡ false → IfErr result (λ e. IfOfMachine e (IsLineOf spent.failed source.bytes spent.bytes))
  -- A device, memory or a thread stopped it after the batches that it had reported, and within the next one.
  pub stop : source.failed ≡ false → IfErr result (λ e. IfOfMachine e (λ line. IfSome source.bytes (λ log.
      IsStop start spent.failed e log sink.bytes filled.bytes line)))

-- The same of a source and a sink, by what each of them says of its bytes and of its failures.
abbrev pub RunsLog : {S K : Type 0} → (S → Option (List ℕ)) → (S → Bool) → (K → Option (List ℕ)) → (K → Bool) →
    Start → S → S → K → K → Result ℕ RunFault → Type 0
RunsLog left failed taken broken start source spent sink filled result =
    IsRunOfLog start (device_with (left source) (failed source)) (device_with (left spent) (failed spent))
    (device_with (taken sink) (broken sink)) (device_with (taken filled) (broken filled)) result
