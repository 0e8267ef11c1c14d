use Rattle.std.proofs.Common.{◌≡◌, unwrap_or, ◌+◌}
use Rattle.std.specs.BTreeMap.{get}
use Rattle.footprint.specs.declared.resource.Resource.{Resource}
use Rattle.footprint.specs.Tree.{resource_cmp}
use Rattle.coarsen.specs.Coarsening.{children}
use Rattle.coarsen.proofs.Counts.{count}
use Rattle.coarsen.proofs.coarsening.children.Given as goal

-- the entries counted and those that are left are all of them
abbrev pub invariant-loop-resource : goal.invariant-loop-resource
invariant-loop-resource l =
    (q : Resource) → unwrap_or (get resource_cmp l.counts q) 0 + count l.level l.resource-iterator q ≡ children l.level l.footprint q
