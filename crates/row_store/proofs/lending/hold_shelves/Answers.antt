use Rattle.std.proofs.Common.{◌≡◌, List, ap, subst, ◌∙◌}
use Rattle.std.specs.List.{Contains}
use Rattle.values.specs.declared.name.RowName.{RowName}
use Rattle.catalogue.specs.Shapes.{TableShape}
use Rattle.footprint.specs.declared.resource.Resource.{Resource}
use Rattle.proclang_types.specs.declared.right.Right.TheVariants.{Read}
use Rattle.coarsen.specs.Subtrees.{Requests}
use Rattle.shelves.specs.Places.{Shelves, as_it_stands, seen_at, is_named}
use Rattle.shelves.specs.Shelving.{shelf_of}
use Rattle.row_store.specs.Locked.{locks_itself}
use Rattle.row_store.specs.Moving.{AreShared}
use Rattle.row_store.specs.Held.{AreHere, AreReadShelves}
use Rattle.row_store.proofs.Sharing.{still_here, shared_rows, shared_here}
use Rattle.row_store.proofs.lending.hold_shelves.Goals as goal

pub locked_shelves-requires : goal.locked_shelves-requires
locked_shelves-requires c = λ e h. c.requires.over e (subst (λ (rs : Requests). Contains rs e) c.requests-requests.ensures.same h)

pub share-requires : goal.share-requires
share-requires c = λ e h. c.requires.over e (subst (λ (rs : Requests). Contains rs e) c.requests-requests.ensures.same h)

pub returns-clause-shown : goal.returns-clause-shown
returns-clause-shown c =
    let tables : List TableShape = c.args.catalogue.now in
    let plan : Requests = c.args.plan.now in
    let made : Shelves = c.make_shelves.new.shelves in
    let same : (d : Resource) (q : RowName) → seen_at c.make_places.new.shelves d q ≡ seen_at made d q = λ d q. c.make_places.ensures.seen d q ∙ c.share.ensures.seen d q in
    let here : AreHere tables plan made = still_here tables plan c.args.shelves.now made c.make_shelves.ensures.seen c.make_shelves.ensures.away c.requires.here in
    let moved : List Resource = c.in_ok-written_shelves.written_shelves.items in
    let names : List RowName = c.in_ok-read_names.read_names.items in
    let shelves : AreReadShelves tables plan moved made c.in_ok-held.held =
    subst (λ (rs : Requests). AreReadShelves tables rs moved made c.in_ok-held.held) c.requests-requests.ensures.same
    (subst (λ (ds : List Resource). AreReadShelves tables c.requests-requests.result.now ds made c.in_ok-held.held) c.deref-2.ensures.value c.in_ok-held.ensures.shared) in
    let rows : AreShared tables names c.make_places.new.shelves c.in_ok-held.held c.share_rows.new.copies =
    subst (λ (ns : List RowName). AreShared tables ns c.make_places.new.shelves c.in_ok-held.held c.share_rows.new.copies) c.deref-4.ensures.value c.in_ok-share_rows.ensures.seen in
    let are : (n : RowName) → is_named names n ≡ locks_itself plan Read n = λ n. c.in_ok-read_names.ensures n ∙ ap (λ (rs : Requests). locks_itself rs Read n) c.requests-requests.ensures.same in (
      λ q locks off.
          shared_rows tables plan made c.make_places.new.shelves c.in_ok-held.held c.share_rows.new.copies moved names c.requires.over here same are shelves rows q locks off
          ∙ ap as_it_stands (c.make_shelves.ensures.seen (shelf_of tables q) q),
      λ q. shared_here tables plan made c.make_places.new.shelves c.in_ok-held.held c.share_rows.new.copies moved names c.requires.over here same shelves rows q,
    )
