use Rattle.std.proofs.Common.{◌≡◌, take}
use Rattle.workspace.proofs.workspace.copies.Given as goal

-- the values so far
abbrev pub invariant-loop-value : goal.invariant-loop-value
invariant-loop-value l = l.copies.items ≡ take l.value-index l.values
