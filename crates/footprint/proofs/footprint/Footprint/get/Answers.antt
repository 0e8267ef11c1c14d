use Rattle.std.proofs.Common.{◌∙◌, ap}
use Rattle.std.specs.FinMap.{get}
use Rattle.footprint.specs.Rights.{FootprintOf}
use Rattle.footprint.proofs.footprint.Footprint.get.Goals as goal

pub returns : goal.returns
returns c = c.get.ensures ∙ ap (λ (f : FootprintOf). get f c.args.resource.now) c.self.view_is
