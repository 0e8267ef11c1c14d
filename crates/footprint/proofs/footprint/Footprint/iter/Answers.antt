use Rattle.std.proofs.Common.{◌∙◌, ap}
use Rattle.std.specs.FinMap.{entries}
use Rattle.footprint.specs.Rights.{FootprintOf}
use Rattle.footprint.proofs.footprint.Footprint.iter.Goals as goal

pub returns-clause-entries : goal.returns-clause-entries
returns-clause-entries c = c.all_of.ensures ∙ ap (λ (f : FootprintOf). entries f) c.self.view_is
