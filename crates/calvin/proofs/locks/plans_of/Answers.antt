use Rattle.std.proofs.Common.{ap, rules}
use Rattle.devices.specs.LineReader.{Origin}
use Rattle.calvin.proofs.FirstBatchEnds.{planned_through}
use Rattle.calvin.proofs.locks.plans_of.Goals as goal

pub returns : goal.returns
returns g c =
    planned_through _ _ _ _ g.S.Source.left g.S.Source.failed c.new-reader.result c.first_plans-planned.new.reader _ _ _ c.first_plans-planned.ensures.planned c.first_plans-planned.ensures.same
    (ap (λ (o : Origin). o.is_feed) c.new-reader.ensures.same) c.new-reader.ensures.unread c.new-reader.ensures.source (search rules)
