use Rattle.std.proofs.Common.{◌≡◌, [], drop, map}
use Rattle.std.specs.List.{AllByRecursion}
use Rattle.serde_json.specs.View.{view}
use Rattle.catalogue.specs.Shapes.{TableShape, tables_shape}
use Rattle.catalogue.specs.Reading.{tables_at}
use Rattle.catalogue.specs.Bounds.{has_bounds, IsSigned}
use Rattle.catalogue.proofs.reading.read_tables.Given as goal

-- what is read so far, and what the rest then gives
abbrev pub invariant-loop-value : goal.invariant-loop-value
invariant-loop-value l = record {
  exact : tables_at (has_bounds l.version) (tables_shape l.tables.entries) (map view (drop l.value-index l.values)) ≡ tables_at (has_bounds l.version) [] (map view l.values);
  signed : AllByRecursion (λ (t : TableShape). IsSigned t.split) (tables_shape l.tables.entries);
}
