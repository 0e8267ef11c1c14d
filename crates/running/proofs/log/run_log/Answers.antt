use Rattle.std.proofs.Common.{◌≡◌, ap, rules}
use Rattle.devices.specs.LineReader.{Origin}
use Rattle.running.specs.Starts.{start_in, start_on}
use Rattle.running.proofs.Following.{run_of_source}
use Rattle.running.proofs.RunEnds.{nothing_run}
use Rattle.running.proofs.log.run_log.Goals as goal

pub returns-in_default-clause-run : goal.returns-in_default-clause-run
returns-in_default-clause-run g c = nothing_run c.at.result _ _ _ _ _ c.at.ensures

pub returns-clause-run : goal.returns-clause-run
returns-clause-run g c =
    let from : start_on c.in-Ok.engine.core c.args.document.digest ≡ start_in c.args.document = search rules in
    rw from at (run_of_source g.S.Source.left g.S.Source.failed _ c.new-reader.result c.run_reader-ended.new.reader _ _ c.run_reader-ended.result c.args.source.now c.source-1.given.0
    c.run_reader-ended.ensures.run c.run_reader-ended.ensures.same.0 (ap (λ (o : Origin). o.is_feed) c.new-reader.ensures.same) c.new-reader.ensures.unread c.new-reader.ensures.source (search rules))
