use Rattle.std.proofs.Common.{◌≡◌, List, ◌++◌, length, ℕ}
use Rattle.std.specs.Io.KnownBytes.{Appends}
use Rattle.devices.proofs.device.write_all.Given as goal

abbrev pub invariant-loop-rest : goal.invariant-loop-rest
invariant-loop-rest g l = record {
  written : (front : List ℕ) × (l.piece ≡ front ++ l.rest) × Appends (g.K.Sink.taken l.initial.sink) (g.K.Sink.taken l.sink) front;
  broken : g.K.Sink.broken l.sink ≡ g.K.Sink.broken l.initial.sink;
}

abbrev pub decreases-loop-rest : goal.decreases-loop-rest
decreases-loop-rest g l = length l.rest
