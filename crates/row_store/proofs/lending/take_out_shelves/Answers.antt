use Rattle.std.proofs.Common.{◌≡◌, false, ◌&&◌, ◌||◌, List, if◌then◌else◌, refl, subst}
use Rattle.values.specs.declared.name.RowName.{RowName}
use Rattle.footprint.specs.declared.resource.Resource.{Resource}
use Rattle.shelves.specs.Places.{seen_at, has_place, is_away, gone, among}
use Rattle.shelves.specs.Exchange.{is_ready, AreShelvesLent}
use Rattle.row_store.specs.Moving.{AreEmptied}
use Rattle.row_store.proofs.lending.take_out_shelves.Goals as goal

pub returns : goal.returns
returns c = record {
  same_shelves = refl;
  same_names = refl;
  moved = c.take_shelves.new.shelves;
  lent = subst (λ (ds : List Resource). AreShelvesLent ds c.args.shelves.now c.args.held.shelves c.take_shelves.new.held) c.deref.ensures.value c.take_shelves.ensures.held;
  seen = subst (λ (ds : List Resource). (d : Resource) (q : RowName) → seen_at c.take_shelves.new.shelves d q ≡ (if among ds d && is_ready c.args.shelves.now c.args.held.shelves d then gone (seen_at c.args.shelves.now d q) else seen_at c.args.shelves.now d q)) c.deref.ensures.value c.take_shelves.ensures.seen;
  places = subst (λ (ds : List Resource). (d : Resource) (q : RowName) → has_place c.take_shelves.new.shelves d q ≡ (if among ds d && is_ready c.args.shelves.now c.args.held.shelves d then false else has_place c.args.shelves.now d q)) c.deref.ensures.value c.take_shelves.ensures.places;
  shelves = c.take_shelves.ensures.shelves;
  away = subst (λ (ds : List Resource). (d : Resource) → is_away c.take_shelves.new.shelves d ≡ ((among ds d && is_ready c.args.shelves.now c.args.held.shelves d) || is_away c.args.shelves.now d)) c.deref.ensures.value c.take_shelves.ensures.away;
  emptied = subst (λ (names : List RowName). AreEmptied c.args.catalogue.now names c.take_shelves.new.shelves c.empty_places.new.shelves) c.deref-2.ensures.value c.empty_places.ensures.seen;
  still_places = c.empty_places.ensures.places;
  still_shelves = c.empty_places.ensures.shelves;
  still_away = c.empty_places.ensures.away;
}
