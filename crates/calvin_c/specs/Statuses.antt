-- Claimed: what contracts promise to a reader rests on these words.
-- What a call answers to C.
use Rattle.std.specs.Prelude.{◌≡◌, ◌⊎◌, ℕ, ℤ, pos, Option, Some, None, Result, Ok, Err}
use Rattle.batch_log.specs.declared.fault.LogFaultKind.{LogFaultKind}
use Rattle.batch_log.specs.declared.fault.LogFaultKind.TheVariants.{NotJson, Shape, UnknownProc, Args, BatchTooLong, Io, Memory}
use Rattle.session.specs.declared.call.CallFault.{CallFault}
use Rattle.session.specs.declared.call.CallFault.TheVariants as calls
use Rattle.session.specs.declared.rows.RowsFault.{RowsFault}
use Rattle.session.specs.declared.rows.RowsFault.TheVariants as rows
use Rattle.session.specs.declared.session.SessionFault.{SessionFault}
use Rattle.session.specs.declared.session.SessionFault.TheVariants.{Over, Log}

-- it was done
abbrev pub done : ℤ
done = pos 0

-- the setup or the log breaks a rule
abbrev pub refused : ℤ
refused = pos 1

-- a setting is outside its range, the log has ended, or a line is begun
abbrev pub misused : ℤ
misused = pos 2

-- an allocation failed
abbrev pub no_memory : ℤ
no_memory = pos 3

-- there is no such reply or row
abbrev pub none : ℤ
none = pos 4

-- the setup has no such table
abbrev pub no_table : ℤ
no_table = pos 5

-- the number of a fault of the log
abbrev pub fault_number : LogFaultKind → ℤ
fault_number NotJson = pos 31
fault_number Shape = pos 32
fault_number UnknownProc = pos 33
fault_number Args = pos 34
fault_number BatchTooLong = pos 35
fault_number Io = pos 36
fault_number Memory = pos 37

-- a fault of the log is told by its number elsewhere: the status says whether an allocation failed
abbrev pub kind_status : LogFaultKind → ℤ
kind_status Memory = no_memory
kind_status kind = refused

-- nothing more is taken of the log
abbrev pub session_status : SessionFault → ℤ
session_status Over = misused
session_status (Log fault) = kind_status fault.kind

-- the log goes on, or nothing more is taken of it
abbrev pub stop_status : Option SessionFault → ℤ
stop_status None = done
stop_status (Some fault) = session_status fault

-- a line was not taken: a fault of the line is its number
abbrev pub line_status : LogFaultKind → ℤ
line_status Memory = no_memory
line_status kind = fault_number kind

-- a call or a cut was not taken
abbrev pub call_status : CallFault → ℤ
call_status (calls.Stopped fault) = session_status fault
call_status calls.InLine = misused
call_status (calls.Line kind) = line_status kind

-- whether a call or a cut was taken
abbrev pub taken_status : {T : Type 0} → Result T CallFault → ℤ
taken_status (Ok value) = done
taken_status (Err fault) = call_status fault

-- nothing is told of the rows
abbrev pub rows_status : RowsFault → ℤ
rows_status (rows.Stopped fault) = kind_status fault.kind
rows_status rows.NoTable = no_table
rows_status (rows.NoMemory e) = no_memory

-- the status is this one, or an allocation failed
abbrev pub Says : ℤ → ℤ → Type 0
Says status said = (status ≡ said) ⊎ (status ≡ no_memory)

-- the number of the fault that ended a session, with its line; two times 0 where there was none
abbrev pub told_fault : Option SessionFault → ℤ × ℕ
told_fault None = (pos 0, 0)
told_fault (Some Over) = (pos 0, 0)
told_fault (Some (Log fault)) = (fault_number fault.kind, fault.line)
