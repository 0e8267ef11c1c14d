use Rattle.std.proofs.Common.{◌∙◌, ap, subst, Some}
use Rattle.proclang_types.specs.declared.right.Right.{Right}
use Rattle.footprint.specs.declared.resource.Resource.{Resource}
use Rattle.footprint.specs.InOrder.{IsInOrder}
use Rattle.footprint.proofs.Rights.{get_entries}
use Rattle.footprint.proofs.Kept.{right_at, no_right}
use Rattle.footprint.proofs.storage.Storage.get.Goals as goal

pub returns-in-Ok : goal.returns-in-Ok
returns-in-Ok c = rw c.in-List.is
    (ap (λ (e : Resource × Right). Some e.1) c.index.ensures
    ∙ right_at c.in-List.entries.items c.in-Ok.place c.args.resource.now c.index.result.now
    (subst IsInOrder c.in-List.is c.requires) (rw (← c.deref.ensures.value) c.in-Ok.ensures.found))

pub returns-in-Err : goal.returns-in-Err
returns-in-Err c = rw c.in-List.is
    (no_right c.in-List.entries.items c.in-Err.field-0 c.args.resource.now (rw (← c.deref.ensures.value) c.in-Err.ensures.absent))

pub returns-in-Tree : goal.returns-in-Tree
returns-in-Tree c = rw c.in-Tree.is
    (c.copied.ensures ∙ c.get.ensures.value ∙ get_entries c.in-Tree.entries.entries c.args.resource.now)
