use Rattle.std.proofs.Common.{◌≡◌, false, take}
use Rattle.devices.specs.Lines.{has_newline}
use Rattle.devices.proofs.line_reader.line_end.Given as goal

abbrev pub invariant-loop-place : goal.invariant-loop-place
invariant-loop-place l = has_newline (take l.place l.bytes) ≡ false
