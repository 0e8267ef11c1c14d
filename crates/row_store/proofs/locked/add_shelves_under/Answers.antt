use Rattle.std.proofs.Common.{◌≡◌, true, rules}
use Rattle.row_store.proofs.Shelved.{is_partition, part_added}
use Rattle.row_store.proofs.locked.add_shelves_under.Goals as goal

pub returns-in_ok-push-in-Table-default-Part-default-WholePart :
    goal.returns-in_ok-push-in-Table-default-Part-default-WholePart
returns-in_ok-push-in-Table-default-Part-default-WholePart c =
    let is : is_partition c.args.resource.now ≡ true = search rules in
    part_added c.args.catalogue.now c.args.shelves.now.items c.push.new.self.items c.args.resource.now is
    c.in_ok-push-in-Table-default-Part-default-WholePart.ensures.items
