use Rattle.std.proofs.Common.{◌∙◌, sym, subst}
use Rattle.footprint.specs.InOrder.{IsInOrder}
use Rattle.footprint.proofs.InOrder.{entries-footprint_of}
use Rattle.footprint.proofs.iter.all_of.Goals as goal

pub returns-in-List : goal.returns-in-List
returns-in-List c = rw c.in-List.is
    (c.deref.ensures.value ∙ sym (entries-footprint_of c.in-List.entries.items (subst IsInOrder c.in-List.is c.requires)))

pub returns-in-Tree : goal.returns-in-Tree
returns-in-Tree c = rw c.in-Tree.is
    (c.iter.ensures.rest ∙ sym (entries-footprint_of c.in-Tree.entries.entries c.iter.ensures.ordered))
