use Rattle.std.proofs.Common.{◌≡◌, take}
use Rattle.meaning.specs.Reconnaissance.{greatest_rights}
use Rattle.workspace.proofs.accesses.Accesses.footprint.Given as goal

-- the footprint is that of the accesses so far
abbrev pub invariant-loop-resource : goal.invariant-loop-resource
invariant-loop-resource l = l.footprint ≡ greatest_rights (take l.resource-index l.resource-items)
