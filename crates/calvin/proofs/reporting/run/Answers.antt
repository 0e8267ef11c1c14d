use Rattle.std.proofs.Common.{inr}
use Rattle.calvin.specs.Inputs.{paths_of}
use Rattle.calvin.proofs.Reports.{run_at}
use Rattle.calvin.proofs.reporting.run.Goals as goal

pub returns : goal.returns
returns g c = inr (run_at g.S.Source.left g.S.Source.failed g.K.Sink.taken g.K.Sink.broken c.args.options.now.alone c.args.options.now.feed (g.F.Files.holds c.args.files.now) (paths_of c.args.input.now)
    c.in-Ok.document c.args.options.now.settings _ _ _ _ c.run_setup-ended.result _ c.in-Ok.ensures.setup c.run_setup-ended.ensures.run c.run_setup-ended.ensures.threadless c.end.ensures)
