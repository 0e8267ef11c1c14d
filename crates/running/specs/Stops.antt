-- Claimed: what contracts promise to a reader rests on these words.
-- How a run stops at a fault, and the line that it names.
use Rattle.std.specs.Prelude.{◌≡◌, ℕ, List, ◌++◌, length, Bool, true, false, Option, Result, Ok, Err, IfErr, ⊤}
use Rattle.std.specs.Io.KnownBytes.{Consumes}
use Rattle.devices.specs.Lines.{line_number, lines_of, newlines_in, next_number}
use Rattle.batch_log.specs.declared.fault.LogFault.{LogFault}
use Rattle.batch_log.specs.declared.fault.LogFaultKind.TheVariants.{Memory}
use Rattle.batch_log.specs.Faults.{is_io, IsOfLine}
use Rattle.engine.specs.declared.fault.ExecFault.{ExecFault}
use Rattle.engine.specs.declared.fault.ExecFault.TheVariants.{Busy, LogFull, Spawn, NoMemory}
use Rattle.running.specs.declared.run_fault.RunFault.{RunFault}
use Rattle.running.specs.declared.run_fault.RunFault.TheVariants as runs
use Rattle.running.specs.Transcripts.{IsOfMachine}

-- what holds of a fault of a line of the log
abbrev pub IfOfLine : RunFault → (LogFault → Type 0) → Type 0
IfOfLine (runs.Log fault) P = IsOfLine fault.kind → P fault
IfOfLine (runs.Spawn line) P = ⊤

-- what holds of the line of another fault: of a device, of memory or of a thread
abbrev pub IfOfMachine : RunFault → (ℕ → Type 0) → Type 0
IfOfMachine (runs.Log fault) P = IsOfMachine fault.kind → P fault.line
IfOfMachine (runs.Spawn line) P = P line

-- what holds where a thread was refused
abbrev pub IfOfThread : RunFault → Type 0 → Type 0
IfOfThread (runs.Log fault) P = ⊤
IfOfThread (runs.Spawn line) P = P

-- no thread was refused
abbrev pub IsNotOfThread : {T : Type 0} → Result T RunFault → Type 0
IsNotOfThread result = IfErr result (λ e. IfOfThread e ⊥)

-- no line of the log is at fault, and the fault is at this line
abbrev pub IsMachineFault : ℕ → RunFault → Type 0
IsMachineFault line (runs.Log fault) = IsOfMachine fault.kind × (fault.line ≡ line)
IsMachineFault line (runs.Spawn at) = at ≡ line

-- a device failed
abbrev pub is_of_device : RunFault → Bool
is_of_device (runs.Log fault) = is_io fault.kind
is_of_device (runs.Spawn line) = false

-- a run ended with the fault of a device
abbrev pub ends_in_io : {T : Type 0} → Result T RunFault → Bool
ends_in_io (Ok x) = false
ends_in_io (Err fault) = is_of_device fault

-- the engine took the batch and holds it
abbrev pub IsHeld : ExecFault → Type 0
IsHeld (Busy batch) = ⊥
IsHeld (LogFull batch) = ⊥
IsHeld Spawn = ⊤
IsHeld NoMemory = ⊤

-- how a run tells, at this line, what was refused to the engine that holds its batch: a thread as a thread, and memory
-- as memory
abbrev pub IsRefusedBy : ℕ → ExecFault → RunFault → Type 0
IsRefusedBy line (Busy batch) told = ⊥
IsRefusedBy line (LogFull batch) told = ⊥
IsRefusedBy line Spawn told = told ≡ runs.Spawn line
IsRefusedBy line NoMemory told = told ≡ runs.Log (record { kind = Memory; line = line })

-- the line that a read failed in, after these bytes: that of their newlines, plus 1
abbrev pub line_of_read : List ℕ → ℕ
line_of_read taken = next_number (newlines_in taken)

-- the number of the last line of these bytes, or 0
abbrev pub last_line : List ℕ → ℕ
last_line taken = line_number (length (lines_of taken))

-- The line of a fault, by what the source gave. Where a read failed, all that it gave was taken. Otherwise some bytes
-- may have come that were not taken.
abbrev pub IsLineOf : Bool → Option (List ℕ) → Option (List ℕ) → ℕ → Type 0
IsLineOf true old new line = (taken : List ℕ) × Consumes old new taken × (line ≡ line_of_read taken)
IsLineOf false old new line =
    (taken : List ℕ) × (came : List ℕ) × Consumes old new (taken ++ came) × (line ≡ last_line taken)
