-- Claimed: what contracts promise to a reader rests on these words.
-- Faults by their kind.
use Rattle.std.specs.Prelude.{◌≡◌, ℕ, List, [], Option, Some, None, Result, Ok, Err, IfErr, Bool, true, false, ◌||◌, if◌then◌else◌}
use Rattle.devices.specs.Lines.{next_number}
use Rattle.devices.specs.LineReader.{came, failed_in, has_ended, IsFeedEnd, Position, position_of, source_of}
use Rattle.devices.specs.declared.line_reader.LineReadFault.{LineReadFault}
use Rattle.devices.specs.declared.line_reader.LineReader.{LineReader}
use Rattle.devices.specs.declared.line_reader.LineReadFault.TheVariants as devices
use Rattle.batch_log.specs.declared.fault.LogFaultKind.{LogFaultKind}
use Rattle.batch_log.specs.declared.fault.LogFaultKind.TheVariants.{NotJson, Shape, UnknownProc, Args, BatchTooLong, Io, Memory}
use Rattle.batch_log.specs.declared.fault.LogFault.{LogFault}

-- the fault is that allocation failed
abbrev pub is_memory : LogFaultKind → Bool
is_memory NotJson = false
is_memory Shape = false
is_memory UnknownProc = false
is_memory Args = false
is_memory BatchTooLong = false
is_memory Io = false
is_memory Memory = true

-- the fault is that of a device
abbrev pub is_io : LogFaultKind → Bool
is_io NotJson = false
is_io Shape = false
is_io UnknownProc = false
is_io Args = false
is_io BatchTooLong = false
is_io Io = true
is_io Memory = false

-- a fault that a line of the log has, and neither a device nor memory
abbrev pub IsOfLine : LogFaultKind → Type 0
IsOfLine kind = (is_io kind || is_memory kind) ≡ false

-- what the fault of a reader of lines is for a reader of a log
abbrev pub device_fault : LineReadFault → LogFault
device_fault (devices.Io line) = record { kind = Io; line = line }
device_fault (devices.Memory line) = record { kind = Memory; line = line }

-- The line of a fault, by where the reader is: that of the newlines taken, plus 1, for a read that failed, and else
-- the line last begun, or 0.
abbrev pub line_named : LogFaultKind → Position → ℕ
line_named kind p = if is_io kind then next_number p.newlines else p.begun

-- the fault that a call ended with
abbrev pub fault_in : {T : Type 0} → Result T LogFault → Option LogFault
fault_in (Ok x) = None
fault_in (Err e) = Some e

-- whether a call ended with a failed read
abbrev pub ends_in_io : {T : Type 0} → Result T LogFault → Bool
ends_in_io (Ok x) = false
ends_in_io (Err e) = is_io e.kind

-- What a call to a reader without a fault tells of one: it names its line; where a read failed, every byte that came
-- was taken; a read has failed meanwhile only where the call says so; and a feed ends by a failed read alone, once all
-- that had come is read.
pub record TellsFault {S T : Type 0} (left : S → Option (List ℕ)) (failed : S → Bool) (old new : LineReader S)
    (result : Result T LogFault) : Type 0 where
  pub place : IfErr result (λ e. e.line ≡ line_named e.kind (position_of new))
  pub spent : ends_in_io result ≡ true → came new ≡ []
  pub fails : failed_in failed new ≡ (failed_in failed old || ends_in_io result)
  pub end : has_ended old ≡ false → has_ended new ≡ true → IsFeedEnd (ends_in_io result) (left (source_of new))
