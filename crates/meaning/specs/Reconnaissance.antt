-- Claimed: what contracts promise to a reader rests on these words.
-- Reconnaissance: a body is run with every access allowed, and the accesses that it makes give the footprint of its
-- entry. (Calvin, 2012: a dependent transaction's footprint is found by a run whose writes are dropped.)
use Rattle.std.specs.Prelude.{◌≡◌, ◌<◌, ◌^◌, ⊤, Bool, true, false, ◌&&◌, List, map, Some, if◌then◌else◌}
use Rattle.std.specs.List.{list_any, All, Contains}
use Rattle.std.specs.FinMap.{get, from_entries}
use Rattle.std.specs.Ordering.{eq_by_cmp}
use Rattle.values.specs.declared.value.Value.{Value}
use Rattle.catalogue.specs.Shapes.{TableShape}
use Rattle.values.specs.Database.{Database}
use Rattle.proclang_types.specs.declared.right.Right.{Right}
use Rattle.proclang_types.specs.declared.right.Right.TheVariants.{Read, Write}
use Rattle.proclang_types.specs.Syntax.{StmtSyntax}
use Rattle.footprint.specs.declared.resource.Resource.{Resource}
use Rattle.footprint.specs.declared.resource.Resource.TheVariants.{Db, Table}
use Rattle.footprint.specs.declared.resource.InTable.TheVariants.{WholeTable, Part}
use Rattle.footprint.specs.declared.resource.InPart.TheVariants.{WholePart, Row}
use Rattle.footprint.specs.Tree.{resource_cmp}
use Rattle.footprint.specs.Rights.{FootprintOf, is_at_least, covers}
use Rattle.footprint.specs.OfCatalogue.{IsFootprintOf}
use Rattle.meaning.specs.Runs.{Access, recording}
use Rattle.meaning.specs.Meaning.{StandIn}
use Rattle.meaning.specs.Entries.{EntryShape, finds, Reply, stale, nothing, end_of, run_of, meaning}

-- ---- the footprint of a list of accesses

-- the access is one of that resource
abbrev pub is_access_of : Resource → Access → Bool
is_access_of resource access = eq_by_cmp resource_cmp resource access.0

-- the greatest right with which one of the accesses has the resource: Write where one of them writes it, and else Read
abbrev pub greatest_right : List Access → Resource → Right
greatest_right accesses resource =
    if list_any (λ access. is_access_of resource access && is_at_least Write (Some access.1)) accesses then Write
    else Read

-- each resource accessed, with the greatest right with which it was accessed
abbrev pub greatest_rights : List Access → FootprintOf
greatest_rights accesses =
    from_entries (map (λ (access : Access). (access.0, greatest_right accesses access.0)) accesses)

-- The footprint of these accesses and no other: each of them is covered; each right in it is that of an access of the
-- resource itself; and a resource that was accessed has in it at least the right of each access.
pub record HasGreatestRights (accesses : List Access) (footprint : FootprintOf) : Type 0 where
  pub covered : (access : Access) → Contains accesses access → covers footprint access.0 access.1 ≡ true
  pub accessed : (resource : Resource) (right : Right) → get footprint resource ≡ Some right
      → Contains accesses (resource, right)
  pub greatest : (resource : Resource) (right : Right) → Contains accesses (resource, right)
      → is_at_least right (get footprint resource) ≡ true

-- ---- reconnaissance on a database

-- the accesses of the run, up to its end, however it ends
abbrev pub accesses_by : StandIn → List TableShape → List StmtSyntax → List Value → Database → List Access
accesses_by d tables body arguments db = (end_of d (recording tables) body arguments db).1.accesses

-- the same with the stand-in of the meaning
abbrev pub accesses_of : List TableShape → List StmtSyntax → List Value → Database → List Access
accesses_of = accesses_by nothing

-- rule: footprint.found
-- the footprint that reconnaissance finds on a database: the greatest rights of the accesses
abbrev pub found_footprint : List TableShape → List StmtSyntax → List Value → Database → FootprintOf
found_footprint tables body arguments db = greatest_rights (accesses_of tables body arguments db)

-- the outcome of the reconnaissance run itself
abbrev pub reconnaissance_reply : List TableShape → List StmtSyntax → List Value → Database → Reply
reconnaissance_reply tables body arguments db = (run_of nothing (recording tables) body arguments db).0

-- the entry that may touch what reconnaissance on a database finds
abbrev pub found_entry : List TableShape → List StmtSyntax → List Value → Database → EntryShape
found_entry tables body arguments read =
    record {
      tables = tables;
      body = body;
      arguments = arguments;
      footing = finds (found_footprint tables body arguments read);
    }

-- ---- laws

-- rule: stale.when
-- on the second database the entry found on the first has the outcome of the reconnaissance run, and is not stale
pub record HoldsAsFound (tables : List TableShape) (body : List StmtSyntax) (arguments : List Value)
    (read db : Database) : Type 0 where
  pub outcome : (meaning (found_entry tables body arguments read) db).0
      ≡ reconnaissance_reply tables body arguments read
  pub not_stale : ¬ ((meaning (found_entry tables body arguments read) db).0 ≡ stale)

-- the entry that may touch what some footprint covers, as one that was found
abbrev pub entry_with : List TableShape → List StmtSyntax → List Value → FootprintOf → EntryShape
entry_with tables body arguments footprint =
    record { tables = tables; body = body; arguments = arguments; footing = finds footprint }

-- On the database read, the entry needs each access of the reconnaissance run, and no other: where its footprint leaves
-- out one of them it is stale, and where its footprint covers them all it has the outcome of that run. So each
-- footprint with which it is not stale covers them all.
pub record NeedsEachAccess (tables : List TableShape) (body : List StmtSyntax) (arguments : List Value)
    (read : Database) (footprint : FootprintOf) : Type 0 where
  pub needed : (access : Access) → Contains (accesses_of tables body arguments read) access
      → covers footprint access.0 access.1 ≡ false
      → (meaning (entry_with tables body arguments footprint) read).0 ≡ stale
  pub enough : ((access : Access) → Contains (accesses_of tables body arguments read) access
      → covers footprint access.0 access.1 ≡ true)
      → (meaning (entry_with tables body arguments footprint) read).0 ≡ reconnaissance_reply tables body arguments read

-- a row's key is less than 2^63
abbrev pub HasKey : Resource → Type 0
HasKey Db = ⊤
HasKey (Table t WholeTable) = ⊤
HasKey (Table t (Part p WholePart)) = ⊤
HasKey (Table t (Part p (Row k))) = k < 2 ^ 63

-- where each number that was taken for a key is one, the footprint found is one of these tables
abbrev pub FindsOfTables : List TableShape → List StmtSyntax → List Value → Database → Type 0
FindsOfTables tables body arguments db =
    All (λ (access : Access). HasKey access.0) (accesses_of tables body arguments db)
    → IsFootprintOf tables (found_footprint tables body arguments db)

-- the accesses are the same whatever is taken for a variable or a column that is not there or has another type
abbrev pub StandInNeverFound : List TableShape → List StmtSyntax → List Value → Database → Type 0
StandInNeverFound tables body arguments db =
    (other : StandIn) → accesses_by other tables body arguments db ≡ accesses_of tables body arguments db
