use Rattle.std.proofs.Common.{◌≡◌, ◌||◌, ℕ, ap, ◌∙◌, length, arith}
use Rattle.footprint.specs.declared.resource.Resource.TheVariants.{Db}
use Rattle.shelves.specs.Places.{is_same_shelf}
use Rattle.shelves.specs.Shelving.{shelf_of}
use Rattle.row_store.specs.Locked.{is_table_below}
use Rattle.row_store.proofs.Shelved.{all_tables}
use Rattle.row_store.proofs.locked.add_all_shelves.Goals as goal

pub returns : goal.returns
returns c = λ q.
    let e : c.loop-table.table ≡ length c.args.catalogue.now = omega arith in
    c.loop-table.invariant q (ap (λ (n : ℕ). is_same_shelf Db (shelf_of c.args.catalogue.now q) || is_table_below n (shelf_of c.args.catalogue.now q)) e ∙ all_tables c.args.catalogue.now q)
