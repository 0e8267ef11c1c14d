use Rattle.std.proofs.Common.{◌≡◌, Some, ap, sym, ◌∙◌}
use Rattle.std.specs.BTreeMap as tree
use Rattle.footprint.specs.declared.resource.Resource.{Resource}
use Rattle.footprint.specs.Tree.{resource_cmp}
use Rattle.shelves.specs.Shelving.{shelf_at}
use Rattle.shelves.proofs.Scans.{shelf_found, nothing_found}
use Rattle.shelves.proofs.scan.next_row.Goals as goal

pub returns-in-Some : goal.returns-in-Some
returns-in-Some c = λ db shown.
    let is : tree.get resource_cmp c.args.shelves.now (shelf_at c.args.catalogue.now c.args.table c.args.part) ≡ Some c.in-Some.shelf.now =
    ap (λ (d : Resource). tree.get resource_cmp c.args.shelves.now d) (sym c.shelf_at.ensures) ∙ sym c.in-Some.ensures.value in
    c.next_on.ensures db (λ q h. shown q h ∙ shelf_found c.args.catalogue.now c.args.shelves.now c.in-Some.shelf.now c.args.table c.args.part q h is)

pub returns-in-None : goal.returns-in-None
returns-in-None c = λ db shown.
    nothing_found c.args.catalogue.now c.args.shelves.now c.args.table c.args.part c.args.after.now db
    (ap (λ (d : Resource). tree.get resource_cmp c.args.shelves.now d) (sym c.shelf_at.ensures) ∙ sym c.in-None.ensures.value) shown
