use Rattle.std.proofs.Common.{◌∙◌, ap, sym}
use Rattle.std.specs.FinMap.{insert}
use Rattle.footprint.specs.Rights.{FootprintOf}
use Rattle.footprint.specs.InOrder.{footprint_of}
use Rattle.footprint.proofs.Rights.{inserted}
use Rattle.footprint.proofs.storage.+tree_of.Goals as goal

pub returns-in_ok-insert-in-Some : goal.returns-in_ok-insert-in-Some
returns-in_ok-insert-in-Some t c =
    inserted c.in_ok-tree-in-Some.tree.entries c.insert.new.self.entries c.in-Some.first.now.0 c.in-Some.first.now.1 c.in_ok-insert-in-Some.ensures.updates.0
    ∙ ap (λ (f : FootprintOf). insert f c.in-Some.first.now.0 c.in-Some.first.now.1) c.in_ok-tree-in-Some.ensures
    ∙ ap footprint_of (sym c.in-Some.ensures.cases.0)
