use Rattle.std.proofs.Common.{◌≡◌, map}
use Rattle.proclang_types.specs.declared.right.Right.{Right}
use Rattle.footprint.specs.declared.resource.Resource.{Resource}
use Rattle.footprint.specs.declared.resource.Resource.TheVariants.{Db}
use Rattle.footprint.specs.Rights.{with_rights}
use Rattle.coarsen.specs.Coarsening.{on_database}
use Rattle.coarsen.proofs.coarsening.on_database.Given as goal

-- with the entries that are left, it becomes the entry of all
abbrev pub invariant-loop-right : goal.invariant-loop-right
invariant-loop-right l = with_rights l.new (map {B = Resource × Right} (λ (e : Resource × Right). (Db, e.1)) l.right-iterator) ≡ on_database l.footprint
