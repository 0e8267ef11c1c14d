use Rattle.std.proofs.Common.{◌∙◌, ap, Option}
use Rattle.std.specs.FinMap.{insert}
use Rattle.proclang_types.specs.declared.right.Right.{Right}
use Rattle.footprint.specs.Rights.{FootprintOf, greater}
use Rattle.footprint.proofs.footprint.Footprint.add.Goals as goal

pub returns-clause-added : goal.returns-clause-added
returns-clause-added c =
    c.in_ok-insert.ensures.inserted
    ∙ ap (λ (f : FootprintOf). insert f c.args.resource c.greater-right.result) c.self.view_is
    ∙ ap (λ (r : Right). insert c.args.self.now c.args.resource r)
    (c.greater-right.ensures ∙ ap (λ (o : Option Right). greater o c.args.right) c.get.ensures)
