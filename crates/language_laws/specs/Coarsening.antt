-- Claimed: what contracts promise to a reader rests on these words.
-- The last step of coarsening.
use Rattle.std.specs.Prelude.{◌≡◌, true, ℕ, Some, None}
use Rattle.std.specs.FinMap.{get}
use Rattle.proclang_types.specs.declared.right.Right.{Right}
use Rattle.footprint.specs.declared.resource.InTable.{InTable}
use Rattle.footprint.specs.declared.resource.Resource.{Resource}
use Rattle.footprint.specs.declared.resource.Resource.TheVariants.{Db, Table}
use Rattle.footprint.specs.Rights.{FootprintOf, is_at_least}
use Rattle.coarsen.specs.Coarsening.{on_database}

-- What one entry on the database says: its right is at least each right of the footprint, and is one of them, so
-- it is the greatest and no more. There is no other entry.
pub record DatabaseHasGreatest : Type 0 where
  pub at_least_each : (f : FootprintOf) (r : Resource) (x : Right) → get f r ≡ Some x
      → is_at_least x (get (on_database f) Db) ≡ true
  pub one_of_them : (f : FootprintOf) (x : Right) → get (on_database f) Db ≡ Some x
      → (r : Resource) × (get f r ≡ Some x)
  pub no_other : (f : FootprintOf) (table : ℕ) (within : InTable) → get (on_database f) (Table table within) ≡ None
