use Rattle.std.proofs.Common.{◌≡◌, false}
use Rattle.footprint.specs.declared.resource.Resource.{Resource}
use Rattle.shelves.specs.Places.{is_away}
use Rattle.shelves.specs.Rebuilding.{names_on, AreBack}
use Rattle.shelves.specs.Rows.{found}
use Rattle.shelves.proofs.rebuilding.rebuilt.Given as goal

-- the rows at all names but those of the shelves that are left are back
abbrev pub invariant-loop-shelf : goal.invariant-loop-shelf
invariant-loop-shelf l = record {
  back : AreBack (λ q. (found l.old_catalogue l.old_shelves q).row) (found l.catalogue l.shelves) (names_on l.shelf-iterator);
  away : (d : Resource) → is_away l.shelves d ≡ false;
}
