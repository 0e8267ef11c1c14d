-- Claimed: what contracts promise to a reader rests on these words.
-- The tree of resources. The database is the root; its children are the tables, theirs the partitions, theirs the row
-- names. (A lock hierarchy as in Gray, Lorie, Putzolu and Traiger, 1975; these four levels are this project's own.)
use Rattle.std.specs.Prelude.{List, [], ◌∷◌, Option, Some, None, unwrap_or}
use Rattle.std.specs.declared.cmp.Ordering.{Ordering}
use Rattle.values.specs.declared.name.RowName.{RowName}
use Rattle.catalogue.specs.Shapes.{TableShape}
use Rattle.catalogue.specs.Places.{partition_of}
use Rattle.footprint.specs.declared.resource.Resource.{Resource}
use Rattle.footprint.specs.declared.resource.Resource.TheVariants.{Db, Table}
use Rattle.footprint.specs.declared.resource.InTable.TheVariants.{WholeTable, Part}
use Rattle.footprint.specs.declared.resource.InPart.TheVariants.{WholePart, Row}
use Rattle.footprint.specs.contracts.resource.ResourceOrd.TheImpl as order

-- tree order: a parent before its children
abbrev pub resource_cmp : Resource → Resource → Ordering
resource_cmp = order.ghosts.cmp

-- the resource above one in the tree: a partition has its table, a table the database
abbrev pub parent_of : Resource → Option Resource
parent_of Db = None
parent_of (Table t WholeTable) = Some Db
parent_of (Table t (Part p WholePart)) = Some (Table t WholeTable)
parent_of (Table t (Part p (Row k))) = Some (Table t (Part p WholePart))

-- the parent, its parent, and so on to the root
abbrev pub ancestors_of : Resource → List Resource
ancestors_of Db = []
ancestors_of (Table t WholeTable) = Db ∷ []
ancestors_of (Table t (Part p WholePart)) = Table t WholeTable ∷ Db ∷ []
ancestors_of (Table t (Part p (Row k))) = Table t (Part p WholePart) ∷ Table t WholeTable ∷ Db ∷ []

-- the row name (t, k) is under the partition that the catalogue gives key k in table t
abbrev pub row_resource : List TableShape → RowName → Resource
row_resource tables name =
    Table name.table (Part (unwrap_or (partition_of tables name.table name.key) 0) (Row name.key))
