use Rattle.std.proofs.Common.{◌≡◌, map}
use Rattle.proclang_types.specs.declared.right.Right.{Right}
use Rattle.footprint.specs.declared.resource.Resource.{Resource}
use Rattle.footprint.specs.Rights.{with_rights}
use Rattle.coarsen.specs.Coarsening.{place, parent_at, children, lifted}
use Rattle.coarsen.proofs.coarsening.lifted.Given as goal

-- with the entries that are left, it becomes the footprint with all of them in their places
abbrev pub invariant-loop-resource : goal.invariant-loop-resource
invariant-loop-resource l =
    with_rights l.new (map {B = Resource × Right} (λ (e : Resource × Right). (place (parent_at l.level e.0) (children l.level l.footprint) l.threshold e.0, e.1)) l.resource-iterator)
    ≡ lifted l.level l.threshold l.footprint
