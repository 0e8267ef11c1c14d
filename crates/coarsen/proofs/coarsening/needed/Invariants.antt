use Rattle.std.proofs.Common.{◌≡◌}
use Rattle.std.specs.List.{filter}
use Rattle.footprint.specs.Rights.{with_rights}
use Rattle.coarsen.specs.Coarsening.{is_needed, needed}
use Rattle.coarsen.proofs.coarsening.needed.Given as goal

-- with the entries that are left, it becomes the footprint of those needed
abbrev pub invariant-loop-resource : goal.invariant-loop-resource
invariant-loop-resource l = with_rights l.new (filter (is_needed l.footprint) l.resource-iterator) ≡ needed l.footprint
