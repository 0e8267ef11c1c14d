use Rattle.std.proofs.Common.{◌∙◌, ap, subst}
use Rattle.std.specs.FinMap.{insert}
use Rattle.footprint.specs.Rights.{FootprintOf}
use Rattle.footprint.specs.InOrder.{IsInOrder}
use Rattle.footprint.proofs.Rights.{inserted}
use Rattle.footprint.proofs.Placing.{sorted-set, sorted-inserted}
use Rattle.footprint.proofs.Kept.{footprint-set, footprint-inserted}
use Rattle.footprint.proofs.storage.Storage.insert.Goals as goal

-- the resource is in the list, and takes the other right
pub returns-in-Ok-clause-inserted : goal.returns-in-Ok-clause-inserted
returns-in-Ok-clause-inserted c = rw c.in-List.is
    (footprint-set c.in-List.entries.items c.in-Ok.place c.args.resource c.args.right
    (subst IsInOrder c.in-List.is c.requires) (rw (← c.deref.ensures.value) c.in-Ok.ensures.found))

pub returns-in-Ok-clause-in_order : goal.returns-in-Ok-clause-in_order
returns-in-Ok-clause-in_order c =
    sorted-set c.in-List.entries.items (subst IsInOrder c.in-List.is c.requires) c.in-Ok.place c.args.resource c.args.right
    (rw (← c.deref.ensures.value) c.in-Ok.ensures.found)

-- the list is full, and a tree takes its place
pub returns-in_ok-insert-in-Err-clause-inserted : goal.returns-in_ok-insert-in-Err-clause-inserted
returns-in_ok-insert-in-Err-clause-inserted c = rw c.in-List.is
    (inserted c.in_ok-tree-in-Err.tree.entries c.insert.new.self.entries c.args.resource c.args.right c.in_ok-insert-in-Err.ensures.updates.0
    ∙ ap (λ (f : FootprintOf). insert f c.args.resource c.args.right) (rw (← c.deref-in-Err.ensures.value) c.in_ok-tree-in-Err.ensures))

-- the resource is put into the gap for it
pub returns-in_ok-insert-in-Err-2-clause-inserted : goal.returns-in_ok-insert-in-Err-2-clause-inserted
returns-in_ok-insert-in-Err-2-clause-inserted c = rw (c.in-List.is, c.in_ok-insert-in-Err-2.ensures.items)
    (footprint-inserted c.in-List.entries.items c.in-Err.field-0 c.args.resource c.args.right
    (subst IsInOrder c.in-List.is c.requires) (rw (← c.deref.ensures.value) c.in-Err.ensures.absent))

pub returns-in_ok-insert-in-Err-2-clause-in_order : goal.returns-in_ok-insert-in-Err-2-clause-in_order
returns-in_ok-insert-in-Err-2-clause-in_order c = rw c.in_ok-insert-in-Err-2.ensures.items
    (sorted-inserted c.in-List.entries.items c.in-Err.field-0 c.args.resource c.args.right
    (rw (← c.deref.ensures.value) c.in-Err.ensures.absent) (subst IsInOrder c.in-List.is c.requires))

pub returns-in_ok-insert-in-Tree-clause-inserted : goal.returns-in_ok-insert-in-Tree-clause-inserted
returns-in_ok-insert-in-Tree-clause-inserted c = rw c.in-Tree.is
    (inserted c.in-Tree.entries.entries c.insert-in-Tree.new.self.entries c.args.resource c.args.right c.in_ok-insert-in-Tree.ensures.updates.0)
