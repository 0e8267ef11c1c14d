use Rattle.std.proofs.Common.{List, ◌++◌, map, if◌then◌else◌, Option, ap, subst, ◌∙◌}
use Rattle.values.specs.declared.name.RowName.{RowName}
use Rattle.values.specs.Database.{RowOf}
use Rattle.footprint.specs.declared.resource.Resource.{Resource}
use Rattle.shelves.specs.declared.place.Place.{Place}
use Rattle.shelves.specs.Places.{PlaceOf, seen_at, is_same_name}
use Rattle.shelves.specs.Rebuilding.{put, AreBack}
use Rattle.shelves.specs.Rows.{found}
use Rattle.shelves.proofs.RowsBack.{one_back}
use Rattle.shelves.proofs.rebuilding.put_rows.Goals as goal

pub loop-name-preserved : goal.loop-name-preserved
loop-name-preserved c =
    let row : RowName → Option RowOf = λ q. (found c.args.old_catalogue.now c.args.old_shelves.now q).row in
    let old : RowName → PlaceOf = found c.args.catalogue.now c.loop-name.shelves in
    record {
      back = λ left h.
          one_back row old (found c.args.catalogue.now c.put_row.new.shelves) c.in-Some.name.now (map (λ e. e.0) c.next.new.self ++ left)
          (λ q. c.in_ok-put_row.ensures.seen q
          ∙ ap (λ (o : Option RowOf). if is_same_name c.in-Some.name.now q then put o (old q) else old q)
          (c.in_ok-row.ensures ∙ ap (λ (d : Resource). (seen_at c.args.old_shelves.now d c.in-Some.name.now).row) c.shelf_of.ensures))
          (subst (λ (es : List (RowName × Place)). AreBack row old (map (λ e. e.0) es ++ left)) c.in-Some.ensures.steps (c.loop-name.invariant.back left h));
      away = λ h d. c.in_ok-put_row.ensures.away d ∙ c.loop-name.invariant.away h d;
    }
