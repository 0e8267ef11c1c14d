use Rattle.std.proofs.Common.{List, sym, subst}
use Rattle.proclang_types.specs.declared.right.Right.{Right}
use Rattle.footprint.specs.declared.resource.Resource.{Resource}
use Rattle.footprint.specs.InTreeOrder.{IsInTreeOrder}
use Rattle.footprint.proofs.Placing.{none_sorted}
use Rattle.footprint.proofs.storage.Storage.new.Goals as goal

pub returns-clause-in_order : goal.returns-clause-in_order
returns-clause-in_order c = subst (λ (es : List (Resource × Right)). IsInTreeOrder es) (sym c.new.ensures.items) (none_sorted Right)
