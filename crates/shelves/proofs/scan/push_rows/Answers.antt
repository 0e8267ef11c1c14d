use Rattle.std.proofs.Common.{◌≡◌, ◌++◌, Some, ap, append-nil, sym, ◌∙◌}
use Rattle.std.specs.BTreeMap as tree
use Rattle.footprint.specs.declared.resource.Resource.{Resource}
use Rattle.footprint.specs.Tree.{resource_cmp}
use Rattle.workspace.specs.Scan.{referred}
use Rattle.shelves.specs.Shelving.{shelf_at}
use Rattle.shelves.proofs.Gathered.{none_are}
use Rattle.shelves.proofs.Scans.{shelf_found}
use Rattle.shelves.proofs.scan.push_rows.Goals as goal

pub returns-in-Some : goal.returns-in-Some
returns-in-Some c = λ db shown.
    let is : tree.get resource_cmp c.args.shelves.now (shelf_at c.args.catalogue.now c.args.table c.args.part) ≡ Some c.in-Some.shelf.now =
    ap (λ (d : Resource). tree.get resource_cmp c.args.shelves.now d) (sym c.shelf_at.ensures) ∙ sym c.in-Some.ensures.value in
    c.push_rows_on.ensures db (λ q h. shown q h ∙ shelf_found c.args.catalogue.now c.args.shelves.now c.in-Some.shelf.now c.args.table c.args.part q h is)

pub returns-in-None : goal.returns-in-None
returns-in-None c = λ db shown.
    sym (append-nil (referred c.args.gathered.now.items))
    ∙ ap (λ rows. referred c.args.gathered.now.items ++ rows) (none_are c.args.catalogue.now c.args.shelves.now c.args.table c.args.part db
    (ap (λ (d : Resource). tree.get resource_cmp c.args.shelves.now d) (sym c.shelf_at.ensures) ∙ sym c.in-None.ensures.value) shown)
