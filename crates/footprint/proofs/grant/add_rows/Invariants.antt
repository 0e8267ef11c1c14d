use Rattle.std.proofs.Common.{◌≡◌}
use Rattle.footprint.specs.Declaration.{keys_from, on_rows}
use Rattle.footprint.specs.OfCatalogue.{IsFootprintOf}
use Rattle.footprint.specs.Rights.{with_rights}
use Rattle.footprint.proofs.Ranges.{rows_left}
use Rattle.footprint.proofs.grant.add_rows.Given as goal

-- what stands so far with the rows that are left is what stood before with all rows
abbrev pub invariant-loop-distance : goal.invariant-loop-distance
invariant-loop-distance l = record {
  added : with_rights l.footprint (rows_left l.catalogue l.right l.table l.count l.first l.distance) ≡ with_rights l.fn.footprint (on_rows l.catalogue l.right l.table (keys_from l.count l.first));
  of_catalogue : IsFootprintOf l.catalogue l.fn.footprint → IsFootprintOf l.catalogue l.footprint;
}
