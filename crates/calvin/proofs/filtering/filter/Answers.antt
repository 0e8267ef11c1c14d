use Rattle.std.proofs.Common.{inr}
use Rattle.calvin.specs.Inputs.{alone_at}
use Rattle.calvin.proofs.CommandRuns.{filter_at}
use Rattle.calvin.proofs.filtering.filter.Goals as goal

pub returns-in-Ok-filter_log : goal.returns-in-Ok-filter_log
returns-in-Ok-filter_log g c =
    inr (filter_at (g.F.Files.holds c.args.files.now) (alone_at c.args.path.now) _ _ _ _ _ c.in-Ok.document c.filter_log.result _ c.in-Ok.ensures.setup c.filter_log.ensures.filter c.filter_log.ensures.fails c.in-Ok-filter_log.is c.filter_status.ensures)

pub returns : goal.returns
returns g c =
    inr (filter_at (g.F.Files.holds c.args.files.now) (alone_at c.args.path.now) _ _ _ _ _ c.in-Ok.document c.filter_log.result _ c.in-Ok.ensures.setup c.filter_log.ensures.filter c.filter_log.ensures.fails c.in-Err-filter_log.is c.refused.ensures)
