use Rattle.std.proofs.Common.{◌≡◌, false, List, ◌++◌, map}
use Rattle.values.specs.declared.name.RowName.{RowName}
use Rattle.footprint.specs.declared.resource.Resource.{Resource}
use Rattle.shelves.specs.Places.{is_away}
use Rattle.shelves.specs.Rebuilding.{AreBack}
use Rattle.shelves.specs.Rows.{found}
use Rattle.shelves.proofs.rebuilding.put_rows.Given as goal

-- the rows at all names but those that are left are back
abbrev pub invariant-loop-name : goal.invariant-loop-name
invariant-loop-name l = record {
  back : (left : List RowName) → AreBack (λ q. (found l.old_catalogue l.old_shelves q).row) (found l.catalogue l.fn.shelves) (map (λ e. e.0) l.places.entries ++ left)
      → AreBack (λ q. (found l.old_catalogue l.old_shelves q).row) (found l.catalogue l.shelves) (map (λ e. e.0) l.name-iterator ++ left);
  away : ((d : Resource) → is_away l.fn.shelves d ≡ false) → (d : Resource) → is_away l.shelves d ≡ false;
}
