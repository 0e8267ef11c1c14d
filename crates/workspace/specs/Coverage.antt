-- Claimed: what contracts promise to a reader rests on these words.
-- What a permit covers: what a run may ask of a view, and what it may write.
use Rattle.std.specs.Prelude.{◌≡◌, ℕ, Bool, true, false, List, Option, None}
use Rattle.std.specs.Map.{lookup}
use Rattle.std.specs.BTreeMap.{is_at}
use Rattle.values.specs.declared.name.RowName.{RowName}
use Rattle.catalogue.specs.Shapes.{TableShape}
use Rattle.values.specs.Database.{RowOf, name_cmp}
use Rattle.proclang_types.specs.declared.right.Right.{Right}
use Rattle.proclang_types.specs.declared.right.Right.TheVariants.{Read, Write}
use Rattle.footprint.specs.declared.resource.Resource.TheVariants.{Table}
use Rattle.footprint.specs.declared.resource.InTable.TheVariants.{Part}
use Rattle.footprint.specs.declared.resource.InPart.TheVariants.{WholePart}
use Rattle.footprint.specs.declared.resource.Resource.{Resource}
use Rattle.footprint.specs.Tree.{row_resource}
use Rattle.footprint.specs.Rights.{covers}
use Rattle.meaning.specs.Runs.{Ran, AccessRule, tested, recorded}
use Rattle.workspace.specs.declared.permit.Passage.{Passage}
use Rattle.workspace.specs.declared.permit.Passage.TheVariants.{Covered, Recorded}
use Rattle.workspace.specs.declared.permit.Permit.{Permit}
use Rattle.workspace.specs.declared.workspace.Workspace.{Workspace}

-- the permit lets an access pass: where a footprint is given, that covers it
abbrev pub allows : Passage → Resource → Right → Bool
allows (Covered footprint uncovered) resource right = covers footprint.now resource right
allows Recorded resource right = true

-- the permit covers a right on a row name
abbrev pub permits : Permit → RowName → Right → Bool
permits permit name right = allows permit.passage (row_resource permit.catalogue.now name) right

-- the permit covers reading a partition
abbrev pub permits_part : Permit → ℕ → ℕ → Bool
permits_part permit table part = allows permit.passage (Table table (Part part WholePart)) Read

-- what happens at an access
abbrev pub at_access : Passage → Resource → Right → Ran (Unit {0})
at_access (Covered footprint uncovered) = tested footprint.now uncovered
at_access Recorded = recorded

-- the rule of accesses under a permit
abbrev pub rule_of : Permit → AccessRule
rule_of permit = record { tables = permit.catalogue.now; access = at_access permit.passage }

-- a view of the permit's tables shows each name that is covered with Read
pub record ShowsCovered (permit : Permit) (tables : List TableShape) (shows : RowName → Bool) : Type 0 where
  pub over : tables ≡ permit.catalogue.now
  pub shown : (name : RowName) → permits permit name Read ≡ true → shows name ≡ true

-- there are only writes of names that are covered with Write
pub record OnlyCovered (permit : Permit) (writes : List (RowName × Option RowOf)) : Type 0 where
  pub others : (name : RowName) → permits permit name Write ≡ false → lookup (is_at (name_cmp name)) writes ≡ None

-- where there were only writes of covered names, there are only such
abbrev pub KeepsCovered : Permit → Workspace → Workspace → Type 0
KeepsCovered permit old new = OnlyCovered permit old.writes.entries → OnlyCovered permit new.writes.entries
