use Rattle.std.proofs.Common.{◌≡◌, ◌↔◌}
use Rattle.catalogue.specs.Shapes.{columns_shape}
use Rattle.catalogue.proofs.schema.are_same_columns.Given as goal

-- the columns that are left are the same exactly where all are
abbrev pub invariant-loop-name : goal.invariant-loop-name
invariant-loop-name l = (columns_shape l.name-iterator ≡ columns_shape l.rest) ↔ (columns_shape l.columns.entries ≡ columns_shape l.others.entries)
