use Rattle.std.proofs.Common.{◌≡◌, [], drop, map}
use Rattle.serde_json.specs.View.{view}
use Rattle.catalogue.specs.Shapes.{columns_shape}
use Rattle.catalogue.specs.Reading.{columns_at}
use Rattle.catalogue.proofs.reading.read_columns.Given as goal

-- what is read so far, and what the rest then gives
abbrev pub invariant-loop-value : goal.invariant-loop-value
invariant-loop-value l = columns_at (columns_shape l.columns.entries) (map view (drop l.value-index l.values)) ≡ columns_at [] (map view l.values)
