use Rattle.std.proofs.Common.{◌≡◌, ◌||◌, None, List, is_some, ap, subst, ◌∙◌}
use Rattle.std.specs.BTreeMap.{is_at}
use Rattle.std.specs.Map.{lookup}
use Rattle.values.specs.declared.name.RowName.{RowName}
use Rattle.footprint.specs.declared.resource.Resource.{Resource}
use Rattle.footprint.specs.Tree.{resource_cmp}
use Rattle.shelves.specs.Places.{has_shelf, seen_at, seen_on, full, among}
use Rattle.shelves.specs.Shelving.{shelf_of}
use Rattle.shelves.specs.Exchange.{AreShelvesShared}
use Rattle.row_store.proofs.Shelved.{or_false}
use Rattle.row_store.proofs.Sharing.{shelves_read}
use Rattle.row_store.proofs.lending.share.Goals as goal

pub returns-clause-shared : goal.returns-clause-shared
returns-clause-shared c =
    let none : (d : Resource) (q : RowName) → seen_at c.make_shelves.new.shelves d q ≡ full None =
    λ d q. c.make_shelves.ensures.seen d q ∙ ap (λ es. seen_on (lookup (is_at (resource_cmp d)) es) q) c.new-copies.ensures.empty in
    let slots : (d : Resource) → has_shelf c.make_shelves.new.shelves d ≡ among c.args.moved.now d =
    λ d.
    c.in_ok-make_shelves.ensures.made d
    ∙ ap (λ es. among c.args.moved.now d || is_some (lookup (is_at (resource_cmp d)) es)) c.new-copies.ensures.empty
    ∙ or_false (among c.args.moved.now d) in
    shelves_read c.args.catalogue.now c.args.requests.now c.args.shelves.now c.make_shelves.new.shelves c.share_shelves.new.copies c.args.moved.now
    c.in_ok-read_shelves.read_shelves.items none slots c.in_ok-read_shelves.ensures
    (subst (λ (rs : List Resource). AreShelvesShared rs c.args.shelves.now c.make_shelves.new.shelves c.share_shelves.new.copies) c.deref.ensures.value c.in_ok-share_shelves.ensures.shared)

pub returns-clause-kept : goal.returns-clause-kept
returns-clause-kept c = λ q off.
    c.share_shelves.ensures.kept (shelf_of c.args.catalogue.now q) q
    (ap (λ (rs : List Resource). among rs (shelf_of c.args.catalogue.now q)) c.deref.ensures.value ∙ c.in_ok-read_shelves.ensures q ∙ off)
