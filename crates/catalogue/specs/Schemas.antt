-- Claimed: what contracts promise to a reader rests on these words.
-- Which tables and columns there are, however keys are split.
use Rattle.std.specs.Prelude.{◌≡◌, ℕ, List, map}
use Rattle.catalogue.specs.Shapes.{ColumnShape, TableShape}

-- a table's name and columns
pub record TableSchema : Type 0 where
  pub name : List ℕ
  pub columns : List ColumnShape

abbrev pub table_schema : TableShape → TableSchema
table_schema t = record { name = t.name; columns = t.columns }

-- the tables without their splits
abbrev pub schema_of : List TableShape → List TableSchema
schema_of ts = map table_schema ts

-- the same tables in the same order: names and columns are the same, and how keys are split may differ
abbrev pub HaveSameSchema : List TableShape → List TableShape → Type 0
HaveSameSchema ts us = schema_of ts ≡ schema_of us
