use Rattle.std.proofs.Common.{◌≡◌, List, ◌++◌, Option, rules, sym, subst}
use Rattle.std.specs.BTreeMap.{keys}
use Rattle.values.specs.declared.name.RowName.{RowName}
use Rattle.values.specs.Database.{RowOf}
use Rattle.footprint.specs.declared.resource.Resource.{Resource}
use Rattle.shelves.specs.declared.shelf.Shelf.{Shelf}
use Rattle.shelves.specs.Places.{Places, PlaceOf}
use Rattle.shelves.specs.Shelving.{shelf_of}
use Rattle.shelves.specs.Rebuilding.{names_on, AreBack}
use Rattle.shelves.specs.Rows.{found}
use Rattle.shelves.proofs.RowsBack.{none_back, nothing_found, nothing_away}
use Rattle.shelves.proofs.rebuilding.rebuilt.Goals as goal

pub loop-shelf-init : goal.loop-shelf-init
loop-shelf-init c =
    let all : c.into_iter-shelf-iterator.result ≡ c.args.old_shelves.now.entries = search rules in
    record {
      back =
          subst (λ (es : List (Resource × Shelf)). AreBack (λ q. (found c.args.old_catalogue.now c.args.old_shelves.now q).row) (found c.args.catalogue.now c.new-shelves.result) (names_on es)) (sym all)
          (none_back c.args.old_catalogue.now c.args.catalogue.now c.args.old_shelves.now c.new-shelves.result (λ q. nothing_found c.new-shelves.result c.new-shelves.ensures.empty (shelf_of c.args.catalogue.now q) q));
      away = nothing_away c.new-shelves.result c.new-shelves.ensures.empty;
    }

pub loop-shelf-preserved : goal.loop-shelf-preserved
loop-shelf-preserved c =
    let row : RowName → Option RowOf = λ q. (found c.args.old_catalogue.now c.args.old_shelves.now q).row in
    let old : RowName → PlaceOf = found c.args.catalogue.now c.loop-shelf.shelves in
    record {
      back = c.in_ok-put_rows.ensures.back (names_on c.next.new.self) (subst (λ (ps : Places). AreBack row old (keys ps ++ names_on c.next.new.self)) (sym c.places.ensures)
          (subst (λ (es : List (Resource × Shelf)). AreBack row old (names_on es)) c.in-Some.ensures.steps c.loop-shelf.invariant.back));
      away = c.in_ok-put_rows.ensures.away c.loop-shelf.invariant.away;
    }
