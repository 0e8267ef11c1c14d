use Rattle.std.proofs.Common.{rules, map, subst}
use Rattle.std.specs.List.Sorted.{IsStrictlySortedBy}
use Rattle.values.specs.Database.{name_cmp}
use Rattle.shelves.specs.Places.{Places, places_of}
use Rattle.shelves.proofs.Gathered.{walked}
use Rattle.shelves.proofs.scan.push_rows_on.Goals as goal

pub returns : goal.returns
returns c = λ db shown.
    walked c.args.catalogue.now c.args.table c.args.part (places_of c.args.shelf.now.contents).entries c.loop-name.name-iterator db c.args.gathered.now.items c.loop-name.gathered.items
    (subst (λ (m : Places). IsStrictlySortedBy name_cmp (map (λ e. e.0) m.entries)) c.places-places.ensures c.into_iter-name-iterator.ensures.into_iter_gives.5) shown (search rules) c.loop-name.invariant
