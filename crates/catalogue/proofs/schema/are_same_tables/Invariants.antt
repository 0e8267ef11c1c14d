use Rattle.std.proofs.Common.{◌↔◌}
use Rattle.catalogue.specs.Shapes.{tables_shape}
use Rattle.catalogue.specs.Schemas.{HaveSameSchema}
use Rattle.catalogue.proofs.schema.are_same_tables.Given as goal

-- the tables that are left are the same exactly where all are
abbrev pub invariant-loop-name : goal.invariant-loop-name
invariant-loop-name l = HaveSameSchema (tables_shape l.name-iterator) (tables_shape l.rest) ↔ HaveSameSchema (tables_shape l.tables.entries) (tables_shape l.others.entries)
