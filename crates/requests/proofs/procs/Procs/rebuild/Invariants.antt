use Rattle.requests.proofs.Moving.{IsMoving}
use Rattle.requests.proofs.procs.Procs.rebuild.Given as goal

-- some procedures are moved, and those are left that the iterator has yet to give
abbrev pub invariant-loop-proc : goal.invariant-loop-proc
invariant-loop-proc l = IsMoving l.catalogue l.self l.procs l.proc-iterator
